-- Operators on the evaluator's stack.
use mathlib.Core.Path.{◌≡◌, refl, sym, ap, ap₂, ◌∙◌}
use Prim.Native.Nat.{ℕ, zero, suc, ◌-◌, ◌≤◌, ◌<◌}
use native.Mathlib.Omega.{arith}
use mathlib.Core.Bool.{not}
use mathlib.Core.List.{List, ◌∷◌}
use lib.ListN.{length, get_or, drop}
use lib.IntN.{ℤ, pos}
use Rattle.semantics.specs.Signed.{holds, truth}
use Rattle.semantics.specs.Code.{operate, operator_pops}
use Rattle.code.specs.Held.{held, combined}
use Rattle.code.proofs.StackHeld.{replaced, joined, top_held, below-held, depth_is}

-- `not` replaces the top
pub held_not : (a : List ℤ) (d n : ℕ) (t v : ℤ) → n ≡ 6 → 0 < d → v ≡ truth (not (holds t))
    → held a d v ≡ combined n (held a d t)
unfolding operate operator_pops
held_not a d n t v e h q =
    rw e (replaced a d t v h ∙ ap (λ (x : ℤ). x ∷ drop 1 (held a d t)) (q ∙ ap (λ (x : ℤ). truth (not (holds x))) (top_held a d t h)))

-- every other known operator takes two values
two : (n : ℕ) → n < 8 → (n ≡ 6 → ⊥) → operator_pops n ≡ 2
unfolding operator_pops
two zero h f = refl
two (suc zero) h f = refl
two (suc (suc zero)) h f = refl
two (suc (suc (suc zero))) h f = refl
two (suc (suc (suc (suc zero)))) h f = refl
two (suc (suc (suc (suc (suc zero))))) h f = refl
two (suc (suc (suc (suc (suc (suc zero)))))) h f = absurd (f refl)
two (suc (suc (suc (suc (suc (suc (suc zero))))))) h f = refl
two (suc (suc (suc (suc (suc (suc (suc (suc n)))))))) h f = absurd (omega arith)

pub held_operated : (a : List ℤ) (d n : ℕ) (t v : ℤ) → n < 8 → (n ≡ 6 → ⊥) → operator_pops n ≤ d → v ≡ operate n (get_or a (d - 1) (pos 0)) t
    → held a (d - 1) v ≡ combined n (held a d t)
held_operated a d n t v h f k q =
    let e : operator_pops n ≡ 2 = two n h f in
    let m : 1 < d = omega arith in
    joined a d t v m
    ∙ ap₂ (λ (x : ℤ) (j : ℕ). x ∷ drop j (held a d t)) (q ∙ ap₂ (operate n) (below-held a d t m) (top_held a d t (omega arith))) (sym e)

-- the same for the list xs that the stack stands for
module _ (a xs : List ℤ) (d n : ℕ) (t v : ℤ) (e : held a d t ≡ xs) where
  pub not_held : n ≡ 6 → 0 < length xs → v ≡ truth (not (holds t)) → held a d v ≡ combined n xs
  not_held k h q =
      let l = depth_is a xs d t e in held_not a d n t v k (omega arith) q ∙ ap (combined n) e

  pub operated_held : n < 8 → (n ≡ 6 → ⊥) → operator_pops n ≤ length xs → v ≡ operate n (get_or a (d - 1) (pos 0)) t
      → held a (d - 1) v ≡ combined n xs
  operated_held h f k q =
      let l = depth_is a xs d t e in held_operated a d n t v h f (omega arith) q ∙ ap (combined n) e
