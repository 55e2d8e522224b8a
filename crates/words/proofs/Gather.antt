-- A walk over a mask that gathers the numbers at which a test holds; and what a set bit of a mask tells of its number.
use mathlib.Core.Path.{◌≡◌, refl, sym, ap, ◌∙◌}
use Prim.Native.Nat.{ℕ, ◌^◌, ◌≤◌, ◌<◌}
use native.Mathlib.Omega.{arith}
use mathlib.Core.Bool.{Bool, true, false, not, ◌&&◌, ◌||◌, and-true, and-false}
use mathlib.Core.Logic.{◌⊎◌, inl, inr}
use lib.Dec.{ltb, eqb}
use Rattle.semantics.specs.Bytes.{lowest, bit, mask, with_bit}
use Rattle.semantics.proofs.Basics.{bool_cases, or_cases, absurd_bool, and_both, both_and, or_right, ltb-true, ltb-false, eqb-true, ne_eqb, or_no}
use Rattle.semantics.proofs.Masks.{mask-holds, bit-zero, bit_mask, bit_mask_over, mask_wider, mask_same, mask-none}
use Rattle.words.proofs.BitLaws.{bit_above, lowest_set}

-- The numbers below n at which f holds and that the walk has passed: they are not in what is left.
unfoldable pub passed : ℕ → (ℕ → Bool) → ℕ → ℕ
passed n f left = mask n (λ j. f j && not (bit left j))

-- the walk begins: f holds nowhere outside the mask
pub passed_none : (n m : ℕ) (f : ℕ → Bool) → ((j : ℕ) → f j ≡ true → bit m j ≡ true) → 0 ≡ passed n f m
unfolding passed
passed_none n m f inside = sym (mask_same n (λ j. false) (λ j. f j && not (bit m j)) (λ k l. neither_in k) ∙ mask-none n)
  where
    neither_in : (k : ℕ) → (f k && not (bit m k)) ≡ false
    neither_in k = bool_cases (f k) (λ e. rw (e, inside k e) refl) (λ e. rw e refl)

-- the walk ends: nothing is left
pub passed_all : (n : ℕ) (f : ℕ → Bool) → passed n f 0 ≡ mask n f
unfolding passed
passed_all n f = mask_same n f (λ j. f j && not (bit 0 j)) (λ k l. ap (λ (b : Bool). f k && not b) (bit-zero k) ∙ and-true (f k))

-- the lowest bit of what is left is in it
pub lowest-held : (left i : ℕ) → i ≡ lowest 64 (bit left) → left < 2 ^ 64 → 0 < left → bit left i ≡ true
lowest-held left i e b l = ap (bit left) e ∙ lowest_set 64 left l b

-- a bit of a mask below 2 ^ n is below n
pub held_inside : (n m i : ℕ) → m < 2 ^ n → bit m i ≡ true → i < n
held_inside n m i h e = bool_cases (ltb i n) (ltb-true _ _) (λ q. absurd_bool e (bit_above n m i h (ltb-false _ _ q)))

-- a number of a mask to which k was put is k or was in it before
pub with_held : (m k j : ℕ) → bit (with_bit m k) j ≡ true → (bit m j ≡ true) ⊎ (j ≡ k)
unfolding with_bit
with_held m k j e = or_cases (bit m j) (eqb j k) (mask-holds 64 (λ i. bit m i || eqb i k) j e).1 inl (λ q. inr (eqb-true j k q))

-- bit i leaves what is left: its next
module _ (n : ℕ) (f : ℕ → Bool) (left next i : ℕ) (cut : (j : ℕ) → bit next j ≡ (bit left j && not (eqb j i))) where
  pub still_inside : (m : ℕ) → ((j : ℕ) → bit left j ≡ true → bit m j ≡ true) → (j : ℕ) → bit next j ≡ true → bit m j ≡ true
  still_inside m inside j e = inside j (and_both (bit left j) (not (eqb j i)) (sym (cut j) ∙ e)).0

  -- what the walk has passed at another bit
  elsewhere : (k : ℕ) → eqb k i ≡ false → (f k && not (bit left k)) ≡ (f k && not (bit next k))
  elsewhere k e = let q : bit next k ≡ bit left k = cut k ∙ rw e (and-true (bit left k)) in ap (λ (b : Bool). f k && not b) (sym q)

  -- the test holds at i
  pub passed_yes : i < n → n ≤ 64 → f i ≡ true → with_bit (passed n f left) i ≡ passed n f next
  unfolding with_bit passed
  passed_yes l w y =
      mask_wider n 64 (λ j. f j && not (bit next j)) (λ j. bit (passed n f left) j || eqb j i) w
      (λ k h. ap (λ (b : Bool). b || eqb k i) (bit_mask n (λ j. f j && not (bit left j)) k h)
      ∙ bool_cases (eqb k i) (taken k) (λ e. or_no _ (eqb k i) e ∙ elsewhere k e))
      (λ k h o. or_no (bit (passed n f left) k) (eqb k i) (ne_eqb k i (over k h)) ∙ bit_mask_over n (λ j. f j && not (bit left j)) k h)
    where
      over : (k : ℕ) → n ≤ k → k ≡ i → ⊥
      over k h e = omega arith

      gone : (k : ℕ) → eqb k i ≡ true → bit next k ≡ false
      gone k e = cut k ∙ rw e (and-false (bit left k))

      taken : (k : ℕ) → eqb k i ≡ true → ((f k && not (bit left k)) || eqb k i) ≡ (f k && not (bit next k))
      taken k e = or_right (f k && not (bit left k)) (eqb k i) e ∙ sym (both_and (ap f (eqb-true k i e) ∙ y) (ap not (gone k e)))

  -- it does not hold there
  pub passed_no : f i ≡ false → passed n f left ≡ passed n f next
  unfolding passed
  passed_no y =
      mask_same n (λ j. f j && not (bit next j)) (λ j. f j && not (bit left j))
      (λ k h. bool_cases (eqb k i) (λ e. rw (ap f (eqb-true k i e) ∙ y) refl) (elsewhere k))
