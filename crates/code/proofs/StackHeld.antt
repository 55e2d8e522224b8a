-- The evaluator's stack, an array, a depth and the top, against the list that it stands for.
use mathlib.Core.Path.{◌≡◌, refl, sym, ap, ap₂, ◌∙◌}
use Prim.Native.Nat.{ℕ, zero, suc, ◌+◌, ◌-◌, ◌<◌}
use native.Mathlib.Nat.{not-suc-le-zero}
use native.Mathlib.Numerals.{add-one}
use native.Mathlib.Omega.{arith}
use mathlib.Core.List.{List, ◌∷◌}
use lib.ListN.{length, length-set, get_or, set, drop}
use lib.Seq.{get_or-set_same, get_or-set_other}
use lib.IntN.{ℤ, pos}
use Rattle.code.specs.Held.{under, held}

one_less : (d : ℕ) → suc d - 1 ≡ d
one_less d = omega arith

-- a store above them leaves the values below
under-set : (a : List ℤ) (d i : ℕ) (t : ℤ) → d < i → under (set a i t) d ≡ under a d
unfolding under
under-set a zero i t h = refl
under-set a (suc d) i t h =
    ap₂ (λ (x : ℤ) (xs : List ℤ). x ∷ xs) (get_or-set_other a i (suc d) t (pos 0) (λ e. omega arith)) (under-set a d i t (omega arith))

under-length : (a : List ℤ) (d : ℕ) → length (under a d) ≡ d
unfolding under
under-length a zero = refl
under-length a (suc d) = ap suc (under-length a d)

held-length : (a : List ℤ) (d : ℕ) (t : ℤ) → length (held a d t) ≡ d
unfolding held
held-length a zero t = refl
held-length a (suc d) t = ap suc (under-length a d)

pushed_at : (a : List ℤ) (d : ℕ) (t v : ℤ) → d < length a → held (set a d t) (suc d) v ≡ v ∷ held a d t
unfolding held under
pushed_at a zero t v h = refl
pushed_at a (suc d) t v h =
    ap (λ (xs : List ℤ). v ∷ xs)
    (ap₂ (λ (x : ℤ) (xs : List ℤ). x ∷ xs) (get_or-set_same a (suc d) t (pos 0) h) (under-set a d (suc d) t (omega arith)))

-- a value pushed: the old top goes into the array
pushed : (a : List ℤ) (d : ℕ) (t v : ℤ) → d < length a → held (set a d t) (d + 1) v ≡ v ∷ held a d t
pushed a d t v h = rw (add-one d) (pushed_at a d t v h)

-- the top popped: the value below it comes out of the array
popped : (a : List ℤ) (d : ℕ) (t : ℤ) → 0 < d → held a (d - 1) (get_or a (d - 1) (pos 0)) ≡ drop 1 (held a d t)
unfolding held under
popped a zero t h = absurd (not-suc-le-zero h)
popped a (suc zero) t h = refl
popped a (suc (suc d)) t h = rw (one_less (suc d))

-- the top replaced
pub replaced : (a : List ℤ) (d : ℕ) (t v : ℤ) → 0 < d → held a d v ≡ v ∷ drop 1 (held a d t)
unfolding held
replaced a zero t v h = absurd (not-suc-le-zero h)
replaced a (suc d) t v h = refl

-- the two uppermost values replaced by one
pub joined : (a : List ℤ) (d : ℕ) (t v : ℤ) → 1 < d → held a (d - 1) v ≡ v ∷ drop 2 (held a d t)
unfolding held under
joined a zero t v h = absurd (not-suc-le-zero h)
joined a (suc zero) t v h = absurd (omega arith)
joined a (suc (suc d)) t v h = rw (one_less (suc d))

pub top_held : (a : List ℤ) (d : ℕ) (t : ℤ) → 0 < d → t ≡ get_or (held a d t) 0 (pos 0)
unfolding held
top_held a zero t h = absurd (not-suc-le-zero h)
top_held a (suc d) t h = refl

-- the value below the top
pub below-held : (a : List ℤ) (d : ℕ) (t : ℤ) → 1 < d → get_or a (d - 1) (pos 0) ≡ get_or (held a d t) 1 (pos 0)
unfolding held under
below-held a zero t h = absurd (not-suc-le-zero h)
below-held a (suc zero) t h = absurd (omega arith)
below-held a (suc (suc d)) t h = rw (one_less (suc d))

-- ---- the same for the list xs that it stands for

module _ (a xs : List ℤ) (d : ℕ) (t : ℤ) (e : held a d t ≡ xs) where
  pub depth_is : d ≡ length xs
  depth_is = sym (held-length a d t) ∙ ap length e

  pub push_held : (v : ℤ) → length xs < 8 → length a ≡ 8 → held (set a d t) (d + 1) v ≡ v ∷ xs
  push_held v h l = let q = depth_is in pushed a d t v (omega arith) ∙ ap (λ (l : List ℤ). v ∷ l) e

  pub pop_held : 0 < length xs → held a (d - 1) (get_or a (d - 1) (pos 0)) ≡ drop 1 xs
  pop_held h = let q = depth_is in popped a d t (omega arith) ∙ ap (drop 1) e

  pub put_held : (v : ℤ) → 0 < length xs → held a d v ≡ v ∷ drop 1 xs
  put_held v h = let q = depth_is in replaced a d t v (omega arith) ∙ ap (λ (l : List ℤ). v ∷ drop 1 l) e

  pub peek_held : 0 < length xs → t ≡ get_or xs 0 (pos 0)
  peek_held h = let q = depth_is in top_held a d t (omega arith) ∙ ap (λ (l : List ℤ). get_or l 0 (pos 0)) e

-- what the methods of the stack stand on
pub ruleset stacking = (depth_is, push_held, pop_held, put_held, peek_held, length-set)
