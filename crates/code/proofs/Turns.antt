-- One turn of the evaluator's loop: the word that it decoded fits, and the machine goes on as the definition says.
use mathlib.Core.Path.{◌≡◌, refl, sym, ap, ap₂, ◌∙◌, subst}
use Prim.Native.Nat.{ℕ, ◌+◌, ◌/◌, ◌%◌, ◌<◌}
use native.Mathlib.Nat.{le_trans}
use native.Mathlib.Numerals.{add-one}
use mathlib.Core.List.{List, []}
use lib.ListN.{length}
use lib.IntN.{ℤ}
use Rattle.semantics.specs.Plan.{Plan, Span, max_variables, code_words, word}
use Rattle.semantics.specs.Code.{State, site, Instruction, instruction, decode, Machine, perform, ran}
use Rattle.semantics.specs.Rules.{plan_refusal}
use Rattle.semantics.proofs.Spans.{ran_long}
use Rattle.layout.proofs.Sections.{laid_accepted}
use Rattle.code.specs.Taken.{Taken, Fit}
use Rattle.code.specs.Held.{machine}
use Rattle.code.proofs.TakenSpans.{word_in, word_fit, final_depth_lem}

-- a kind and an operand split off word k of the code are its instruction
decoded : (p : Plan) (k w kind n : ℕ) → w ≡ word p k → kind ≡ w / 4096 → n ≡ w % 4096 → instruction kind n ≡ decode (word p k)
unfolding decode
decoded p k w kind n e f h = ap₂ instruction (f ∙ ap (λ (x : ℕ). x / 4096) e) (h ∙ ap (λ (x : ℕ). x % 4096) e)

-- a span of an accepted plan
module _ (p : Plan) (l : plan_refusal p ≡ 0) (end : ℕ) (g : Span) (k : Taken p end g) where
  -- where its word j lies
  pub word_low : (j : ℕ) → j < g.size → (g.start + j < code_words p) × (g.start + j < 4096)
  word_low j h = let w = word_in p (laid_accepted p l) end g k j h in (w, le_trans w (laid_accepted p l).words≤)

  module _ (s : State) (xs vs : List ℤ) where
    -- the word fits at the depth that the machine has
    pub turn_fits : (j w kind n : ℕ) → w ≡ word p (g.start + j) → kind ≡ w / 4096 → n ≡ w % 4096 → machine xs vs ≡ ran p s g.start j → j < g.size
        → Fit end (instruction kind n) (length xs)
    turn_fits j w kind n e f q r h =
        subst (λ (x : Instruction). Fit end x (length xs)) (sym (decoded p (g.start + j) w kind n e f q))
        (subst (λ (y : ℕ). Fit end (decode (word p (g.start + j))) y) (ap (λ (m : Machine). length m.stack) (sym r))
        (word_fit p (laid_accepted p l) end g k s j h))

    -- how deep the stack is at the end
    pub ended_depth : (j : ℕ) → j ≡ g.size → machine xs vs ≡ ran p s g.start j → 0 < g.size → length xs ≡ end
    ended_depth j e r h =
        ap (λ (m : Machine). length m.stack) (r ∙ ap (ran p s g.start) e)
        ∙ final_depth_lem p (laid_accepted p l) end g k s h

-- the machine after the word
pub turned : (p : Plan) (s : State) (k j w kind n : ℕ) (m q : Machine) → w ≡ word p (k + j) → kind ≡ w / 4096 → n ≡ w % 4096 → m ≡ ran p s k j
    → q ≡ perform (instruction kind n) s m → q ≡ ran p s k (j + 1)
unfolding ran
turned p s k j w kind n m q e f h r u = rw (add-one j) (u ∙ ap₂ (λ (y : Instruction) (z : Machine). perform y s z) (decoded p (k + j) w kind n e f h) r)

-- the values after the last one
pub updated : (p : Plan) (k j size : ℕ) (xs us vs : List ℤ) → j ≡ size → ((s : State) → s.values ≡ us → machine xs vs ≡ ran p s k j)
    → length us ≡ max_variables → ((s : State) → s.values ≡ us → vs ≡ (ran p s k size).values) × (length vs ≡ max_variables)
updated p k j size xs us vs e r h = (after, ap length (after start refl) ∙ ran_long p start k size ∙ h)
  where
    after : (s : State) → s.values ≡ us → vs ≡ (ran p s k size).values
    after s q = ap (λ (m : Machine). m.values) (r s q ∙ ap (ran p s k) e)

    start : State
    start = site [] [] us
