-- Masks inside one another: what a has and b has not, and that a number of fewer bits is a smaller one. Laws are stated over a width n.
use mathlib.Core.Path.{◌≡◌, sym, ap, ◌∙◌}
use Prim.Native.Nat.{ℕ, ◌-◌, ◌^◌, ◌≤◌, ◌<◌}
use native.Mathlib.Nat.{lt_of_le_of_lt}
use native.Mathlib.Omega.{arith}
use mathlib.Core.Bool.{Bool, true, false, not, ◌&&◌}
use lib.Bits.{bit_and, bit_or, and_le_l, and_le_r}
use lib.Dec.{ltb}
use Rattle.semantics.specs.Bytes.{implies, every, bit}
use Rattle.semantics.proofs.Basics.{bool_cases, absurd_bool, same_test, and_both, both_and, or_cases, or_left, or_right, implies-yes, implies-at, ltb-true, ltb-false, every-at, every_all}
use Rattle.words.proofs.BitLaws.{bit_and_lem, bit_or_lem, bit_not, bits_same, bit_above}

-- a & !b
pub bit_without : (n a b k : ℕ) → a < 2 ^ n → b < 2 ^ n → bit (bit_and a (2 ^ n - 1 - b)) k ≡ (bit a k && not (bit b k))
bit_without n a b k h l =
    bit_and_lem a (2 ^ n - 1 - b) k
    ∙ bool_cases (ltb k n) (λ t. ap (λ (x : Bool). bit a k && x) (bit_not n b k l (ltb-true k n t)))
    (λ f. let z : bit a k ≡ false = bit_above n a k h (ltb-false k n f) in
    ap (λ (x : Bool). x && bit (2 ^ n - 1 - b) k) z ∙ sym (ap (λ (x : Bool). x && not (bit b k)) z))

-- a test that the other follows from is both together
and_one : (a b : Bool) → (a ≡ true → b ≡ true) → a ≡ (a && b)
and_one a b f = bool_cases a (λ e. e ∙ sym (both_and e (f e))) (λ e. e ∙ sym (ap (λ (x : Bool). x && b) e))

-- a number whose bits are among those of another is not greater
pub bits_le : (n a b : ℕ) → a < 2 ^ n → ((j : ℕ) → bit a j ≡ true → bit b j ≡ true) → a ≤ b
bits_le n a b h f =
    let e : a ≡ bit_and a b = bits_same n a (bit_and a b) h (lt_of_le_of_lt (and_le_l a b) h) (λ k l. and_one (bit a k) (bit b k) (f k) ∙ sym (bit_and_lem a b k)) in
    omega (arith, and_le_r a b)

-- and is smaller where it lacks one
pub bits_lt : (n a b k : ℕ) → a < 2 ^ n → ((j : ℕ) → bit a j ≡ true → bit b j ≡ true) → bit a k ≡ false → bit b k ≡ true → a < b
bits_lt n a b k h f x y =
    bool_cases (ltb a b) (ltb-true a b)
    (λ q.
    let e : a ≡ b = omega (arith, ltb-false a b q, bits_le n a b h f) in
    absurd_bool y (ap (λ (m : ℕ). bit m k) (sym e) ∙ x))

-- whether each number of a is in m
abbrev within : ℕ → ℕ → ℕ → Bool
within n a m = every n (λ k. implies (bit a k) (bit m k))

-- then one that is in a is in m
within-at : (n a m : ℕ) → within n a m ≡ true → (k : ℕ) → k < n → bit a k ≡ true → bit m k ≡ true
within-at n a m e k l = implies-at (bit a k) (bit m k) (every-at n (λ j. implies (bit a j) (bit m j)) e k l)

-- and it is so where each one is
within_all : (n a m : ℕ) → ((k : ℕ) → k < n → bit a k ≡ true → bit m k ≡ true) → within n a m ≡ true
within_all n a m f = every_all n (λ j. implies (bit a j) (bit m j)) (λ k l. implies-yes (bit a k) (bit m k) (f k l))

-- a | b is in m where both a and b are
pub union_inside : (n a b m : ℕ) → within n (bit_or a b) m ≡ (within n a m && within n b m)
union_inside n a b m =
    same_test (within n (bit_or a b) m) (within n a m && within n b m)
    (λ e. both_and (within_all n a m (λ k l t. within-at n (bit_or a b) m e k l (bit_or_lem a b k ∙ or_left (bit a k) (bit b k) t)))
    (within_all n b m (λ k l t. within-at n (bit_or a b) m e k l (bit_or_lem a b k ∙ or_right (bit a k) (bit b k) t))))
    (λ e. let (f, g) = and_both (within n a m) (within n b m) e in
    within_all n (bit_or a b) m (λ k l t. or_cases (bit a k) (bit b k) (sym (bit_or_lem a b k) ∙ t) (within-at n a m f k l) (within-at n b m g k l)))
