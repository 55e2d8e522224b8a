-- The numbers that satisfy a test: which they are, and how many.
use mathlib.Core.Path.{◌≡◌, refl, sym, ap, ap₂, ◌∙◌}
use Prim.Native.Nat.{ℕ, zero, suc, ◌+◌, ◌≤◌, ◌<◌}
use native.Mathlib.Nat.{le_refl, not-suc-le-zero}
use native.Mathlib.Omega.{arith}
use mathlib.Core.Bool.{Bool, true, false, cond, ◌&&◌, ◌||◌, or_assoc, or-false}
use mathlib.Core.List.{List, [], ◌∷◌, ◌++◌}
use lib.ListN.{length, length-append}
use lib.Dec.{ltb, eqb}
use Rattle.semantics.specs.Bytes.{satisfying}
use Rattle.semantics.proofs.Basics.{bool_cases, same_test, and_both, both_and, or_cases, or_left, or_right, ltb-true, lt-ltb, le-ltb, eqb-true, eq-eqb, below_suc}

-- ---- which they are

-- The number n is one of the list.
abbrev pub among : ℕ → List ℕ → Bool
among n [] = false
among n (m ∷ ms) = eqb m n || among n ms

pub among_append : (k : ℕ) (xs ys : List ℕ) → among k (xs ++ ys) ≡ (among k xs || among k ys)
among_append k [] ys = refl
among_append k (x ∷ xs) ys = ap (λ (b : Bool). eqb x k || b) (among_append k xs ys) ∙ sym (or_assoc (eqb x k) (among k xs) (among k ys))

-- the list of n alone, where the test holds there
among_last : (k n : ℕ) (b : Bool) → among k (cond b (n ∷ []) []) ≡ (b && eqb n k)
among_last k n true = or-false (eqb n k)
among_last k n false = refl

pub among_satisfying : (n : ℕ) (f : ℕ → Bool) (k : ℕ) → among k (satisfying n f) ≡ (ltb k n && f k)
unfolding satisfying
among_satisfying zero f k = rw (le-ltb k 0 (omega arith)) refl
among_satisfying (suc n) f k =
    among_append k (satisfying n f) (cond (f n) (n ∷ []) [])
    ∙ ap₂ ◌||◌ (among_satisfying n f k) (among_last k n (f n))
    ∙ same_test ((ltb k n && f k) || (f n && eqb n k)) (ltb k (suc n) && f k) there back
  where
    there : ((ltb k n && f k) || (f n && eqb n k)) ≡ true → (ltb k (suc n) && f k) ≡ true
    there h =
        or_cases (ltb k n && f k) (f n && eqb n k) h
        (λ t. let (l, y) = and_both (ltb k n) (f k) t in let m : k < n = ltb-true k n l in both_and (lt-ltb k (suc n) (omega arith)) y)
        (λ t.
        let (y, e) = and_both (f n) (eqb n k) t in
        let q : n ≡ k = eqb-true n k e in
        both_and (lt-ltb k (suc n) (omega arith)) (ap f (sym q) ∙ y))

    back : (ltb k (suc n) && f k) ≡ true → ((ltb k n && f k) || (f n && eqb n k)) ≡ true
    back h =
        let (l, y) = and_both (ltb k (suc n)) (f k) h in
        below_suc (ltb-true k (suc n) l) (λ m. or_left (ltb k n && f k) (f n && eqb n k) (both_and (lt-ltb k n m) y))
        (λ q. or_right (ltb k n && f k) (f n && eqb n k) (both_and (ap f (sym q) ∙ y) (eq-eqb n k (sym q))))

-- ---- how many they are

abbrev count : ℕ → (ℕ → Bool) → ℕ
count n f = length (satisfying n f)

count_last : (n : ℕ) (f : ℕ → Bool) → count (suc n) f ≡ count n f + cond (f n) 1 0
unfolding satisfying
count_last n f = length-append (satisfying n f) (cond (f n) (n ∷ []) []) ∙ ap (λ (m : ℕ). count n f + m) (last (f n))
  where
    last : (b : Bool) → length (cond b (n ∷ []) []) ≡ cond b 1 0
    last true = refl
    last false = refl

pub count_le : (n : ℕ) (f : ℕ → Bool) → length (satisfying n f) ≤ n
unfolding satisfying
count_le zero f = le_refl 0
count_le (suc n) f = rw (count_last n f) (step (f n) (count_le n f))
  where
    step : (b : Bool) → count n f ≤ n → count n f + cond b 1 0 ≤ suc n
    step true h = omega arith
    step false h = omega arith

-- a smaller set has no more, and fewer where some number is left out
module _ (f g : ℕ → Bool) where
  one_more : (n : ℕ) → ((k : ℕ) → k < suc n → f k ≡ true → g k ≡ true) → (k : ℕ) → k < n → f k ≡ true → g k ≡ true
  one_more n h k l = h k (omega arith)

  last_le : (n : ℕ) → (f n ≡ true → g n ≡ true) → cond (f n) 1 0 ≤ cond (g n) 1 0
  last_le n h = bool_cases (f n) (λ e. rw (e, h e) (le_refl 1)) (λ e. rw e (low (cond (g n) 1 0)))
    where
      low : (m : ℕ) → 0 ≤ m
      low m = omega arith

  pub no_more : (n : ℕ) → ((k : ℕ) → k < n → f k ≡ true → g k ≡ true) → count n f ≤ count n g
  unfolding satisfying
  no_more zero h = le_refl 0
  no_more (suc n) h = rw (count_last n f, count_last n g) (sum (no_more n (one_more n h)) (last_le n (h n (omega arith))))
    where
      sum : {a b c d : ℕ} → a ≤ b → c ≤ d → a + c ≤ b + d
      sum x y = omega arith

  pub fewer : (n : ℕ) → ((k : ℕ) → k < n → f k ≡ true → g k ≡ true) → (k : ℕ) → k < n → f k ≡ false → g k ≡ true
      → length (satisfying n f) < length (satisfying n g)
  unfolding satisfying
  fewer zero h k l off on = absurd (not-suc-le-zero l)
  fewer (suc n) h k l off on =
      rw (count_last n f, count_last n g)
      (below_suc l (λ m. early (fewer n (one_more n h) k m off on) (last_le n (h n (omega arith))))
      (λ q. rw (ap f (sym q) ∙ off, ap g (sym q) ∙ on) (late (no_more n (one_more n h)))))
    where
      early : {a b c d : ℕ} → a < b → c ≤ d → a + c < b + d
      early x y = omega arith

      late : {a b : ℕ} → a ≤ b → a + 0 < b + 1
      late x = omega arith
