-- Code before 02's job 2, whose sums wrapped: a span in which no exact result leaves the range does what it did. No call cites this.
use mathlib.Core.Path.{◌≡◌, refl, ap, ◌∙◌}
use Prim.Native.Nat.{ℕ, zero, suc, ◌+◌, ◌<◌}
use native.Mathlib.Nat.{le_refl, le-suc, le_trans}
use mathlib.Core.Bool.{Bool, true, cond}
use mathlib.Core.List.{[], ◌∷◌}
use mathlib.Core.Option.{Option, none, some}
use lib.ListN.{get_or, drop}
use lib.Dec.{eqb}
use lib.IntN.{ℤ, pos, ◌+ℤ◌, ◌-ℤ◌, ◌*ℤ◌}
use lib.Signed.{mag}
use Rattle.semantics.specs.Signed.{add, subtract, extend, holds}
use Rattle.semantics.specs.Plan.{Plan, Span, word}
use Rattle.semantics.specs.Code.{State, Instruction, push, extend_top, load, store, located, last_port, operator, unknown, decode, operate, operator_pops, Machine, top, perform, ran, guard_holds, acted, pops}
use Rattle.semantics.proofs.Wrapping.{wrap, alike_inside}

-- The exact result of a word that adds, subtracts or extends.
unfoldable pub exact : Instruction → Machine → Option ℤ
exact (push n) m = none
exact (extend_top n) m = some (top m.stack *ℤ pos 4096 +ℤ pos n)
exact (load n) m = none
exact (store n) m = none
exact (located c l) m = none
exact (last_port c q) m = none
exact (operator n) m =
    get_or (some (get_or m.stack 1 (pos 0) +ℤ top m.stack) ∷ some (get_or m.stack 1 (pos 0) -ℤ top m.stack) ∷ []) n none
exact unknown m = none

-- What a word did: where it has an exact result, that result wrapped.
unfoldable pub wrapped : Option ℤ → Instruction → State → Machine → Machine
wrapped none i s m = perform i s m
wrapped (some z) i s m = record { stack = wrap z ∷ drop (pops i) m.stack; values = m.values }

unfoldable pub performed_before : Instruction → State → Machine → Machine
performed_before i s m = wrapped (exact i m) i s m

-- The machine after the first n words from word k on, what a guard said and what an action did.
unfoldable pub ran_before : Plan → State → ℕ → ℕ → Machine
ran_before p s k zero = record { stack = []; values = s.values }
ran_before p s k (suc n) = performed_before (decode (word p (k + n))) s (ran_before p s k n)

unfoldable pub guard_before : Plan → State → Span → Bool
guard_before p s g = cond (eqb g.size 0) true (holds (top (ran_before p s g.start g.size).stack))

unfoldable pub acted_before : Plan → State → Span → State
acted_before p s g = record { locations = s.locations; last_ports = s.last_ports; values = (ran_before p s g.start g.size).values }

-- ---- where nothing leaves the range

-- an exact result, where there is one, is a signed 32-bit number
abbrev pub Fits : Option ℤ → Type 0
Fits none = Unit {0}
Fits (some z) = mag z < 2147483648

-- such a word does what it did
same_word : (i : Instruction) (s : State) (m : Machine) → Fits (exact i m) → performed_before i s m ≡ perform i s m
unfolding exact wrapped performed_before perform pops operate operator_pops add subtract extend
same_word (push n) s m h = refl
same_word (extend_top n) s m h = λ i. record { stack = alike_inside (top m.stack *ℤ pos 4096 +ℤ pos n) h i ∷ drop 1 m.stack; values = m.values }
same_word (load n) s m h = refl
same_word (store n) s m h = refl
same_word (located c l) s m h = refl
same_word (last_port c q) s m h = refl
same_word (operator zero) s m h = λ i. record { stack = alike_inside (get_or m.stack 1 (pos 0) +ℤ top m.stack) h i ∷ drop 2 m.stack; values = m.values }
same_word (operator (suc zero)) s m h = λ i. record { stack = alike_inside (get_or m.stack 1 (pos 0) -ℤ top m.stack) h i ∷ drop 2 m.stack; values = m.values }
same_word (operator (suc (suc n))) s m h = refl
same_word unknown s m h = refl

-- no exact result of the first n words from word k on leaves the range
pub record Inside (p : Plan) (s : State) (k n : ℕ) : Type 0 where
  pub fits : (j : ℕ) → j < n → Fits (exact (decode (word p (k + j))) (ran p s k j))

-- they leave what they left
pub same_ran : (p : Plan) (s : State) (k n : ℕ) → Inside p s k n → ran_before p s k n ≡ ran p s k n
unfolding ran ran_before
same_ran p s k zero h = refl
same_ran p s k (suc n) h =
    ap (performed_before (decode (word p (k + n))) s) (same_ran p s k n (record { fits = λ j l. h.fits j (le_trans l (le-suc n)) }))
    ∙ same_word (decode (word p (k + n))) s (ran p s k n) (h.fits n (le_refl (suc n)))

-- a guard or a proposition
pub same_guard : (p : Plan) (s : State) (g : Span) → Inside p s g.start g.size → guard_before p s g ≡ guard_holds p s g
unfolding guard_before guard_holds
same_guard p s g h = ap (λ (m : Machine). cond (eqb g.size 0) true (holds (top m.stack))) (same_ran p s g.start g.size h)

-- an action or a transfer
pub same_acted : (p : Plan) (s : State) (g : Span) → Inside p s g.start g.size → acted_before p s g ≡ acted p s g
unfolding acted_before acted
same_acted p s g h = ap (λ (m : Machine). record { locations = s.locations; last_ports = s.last_ports; values = m.values }) (same_ran p s g.start g.size h)
