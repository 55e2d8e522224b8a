-- What the operations on 64-bit words do to the bits of a number: shifts, and, or, the complement, the lowest and the highest set bit. Laws are stated over a width n.
use mathlib.Core.Path.{◌≡◌, refl, sym, ap, ap₂, ◌∙◌, subst}
use Prim.Native.Nat.{ℕ, zero, suc, ◌+◌, ◌-◌, ◌*◌, ◌/◌, ◌%◌, ◌^◌, ◌≤◌, ◌<◌, zero-le, suc-le-suc}
use native.Mathlib.Nat.{le_of_suc-le-suc, not-suc-le-zero, lt_of_le_of_lt, pow-suc, div-one, add-zero, zero-add, suc-add, one-mul, mod-lt, zero-lt-suc}
use native.Mathlib.Numerals.{one-add}
use native.Mathlib.Omega.{arith}
use mathlib.Core.Bool.{Bool, true, false, not, ◌&&◌, ◌||◌, and-true, and_self}
use lib.Dec.{ltb, eqb, eqb-suc-zero, eqb-zero-suc, eqb-suc-suc, leb-suc-suc, lit<}
use lib.Pow.{pow_pos, shr-shr, shl_exact}
use lib.Bits.{bit_and, bit_or, and_shr, and_mod, and_mask, and_le_l, or_shr, or_mod, or_lt}
use lib.Count.{count_trailing_zeros, count_leading_zeros, under, leading_top}
use Rattle.semantics.specs.Bytes.{implies, every, some_below, lowest, bit, mask}
use Rattle.semantics.proofs.Basics.{bool_cases, absurd_bool, same_test, not_yes, not_no, ltb-true, lt-ltb, le-ltb, eqb-true, eq-eqb, ne_eqb, every-at, every_all, some_found, some-none, Lowest, lowest_is, lowest_unique, lowest-none}
use Rattle.semantics.proofs.Masks.{bit-zero, bit_mask_over, mask_same, mask-bits}

-- ---- shifts

pub bit_shr : (m n k : ℕ) → bit (m / 2 ^ n) k ≡ bit m (n + k)
unfolding bit
bit_shr m zero k = ap₂ bit (div-one m) (sym (zero-add k))
bit_shr m (suc n) k =
    ap (λ (x : ℕ). bit x k) (ap (λ (j : ℕ). m / 2 ^ j) (sym (one-add n)) ∙ sym (shr-shr m 1 n)) ∙ bit_shr (m / 2) n k ∙ ap (bit m) (sym (suc-add n k))

pub bit_shift : (m k : ℕ) → bit m k ≡ eqb (m / 2 ^ k % 2) 1
unfolding bit
bit_shift m k = sym (bit_shr m k zero ∙ ap (bit m) (add-zero k))

-- (m >> k) & 1 == 1
pub bit_test : (m k : ℕ) → eqb (bit_and (m / 2 ^ k) 1) 1 ≡ bit m k
bit_test m k = ap (λ (x : ℕ). eqb x 1) (and_mask (m / 2 ^ k) 1) ∙ sym (bit_shift m k)

pub bit_pow : (k i : ℕ) → bit (2 ^ k) i ≡ eqb i k
unfolding bit
bit_pow zero zero = refl
bit_pow zero (suc i) = bit-zero i ∙ sym (eqb-suc-zero i)
bit_pow (suc k) zero = let e : 2 ^ suc k % 2 ≡ 0 = omega (arith, pow-suc 2 k) in ap (λ (x : ℕ). eqb x 1) e ∙ sym (eqb-zero-suc k)
bit_pow (suc k) (suc i) =
    let e : 2 ^ suc k / 2 ≡ 2 ^ k = omega (arith, pow-suc 2 k) in ap (λ (x : ℕ). bit x i) e ∙ bit_pow k i ∙ sym (eqb-suc-suc i k)

-- 1 << k in n bits
pub one_shl : (n k : ℕ) → k < n → 1 * 2 ^ k % 2 ^ n ≡ 2 ^ k
one_shl n k h = shl_exact 1 k n (lit< tt) (omega arith) ∙ one-mul (2 ^ k)

pub bit_one : (n k i : ℕ) → k < n → bit (1 * 2 ^ k % 2 ^ n) i ≡ eqb i k
bit_one n k i h = ap (λ (x : ℕ). bit x i) (one_shl n k h) ∙ bit_pow k i

-- ---- and, or, the complement

-- an operation that works on the lowest digit and on the others apart works on each bit
bit_both : (op : ℕ → ℕ → ℕ) (g : Bool → Bool → Bool) → ((a b : ℕ) → op a b / 2 ≡ op (a / 2) (b / 2))
    → ((a b : ℕ) → eqb (op a b % 2) 1 ≡ g (eqb (a % 2) 1) (eqb (b % 2) 1)) → (a b k : ℕ) → bit (op a b) k ≡ g (bit a k) (bit b k)
unfolding bit
bit_both op g half low a b zero = low a b
bit_both op g half low a b (suc k) = ap (λ (x : ℕ). bit x k) (half a b) ∙ bit_both op g half low (a / 2) (b / 2) k

digit_and : (x y : ℕ) → x < 2 → y < 2 → eqb (bit_and x y) 1 ≡ (eqb x 1 && eqb y 1)
digit_and zero y h l = refl
digit_and (suc zero) zero h l = refl
digit_and (suc zero) (suc zero) h l = refl
digit_and (suc zero) (suc (suc y)) h l = absurd (not-suc-le-zero (le_of_suc-le-suc (le_of_suc-le-suc l)))
digit_and (suc (suc x)) y h l = absurd (not-suc-le-zero (le_of_suc-le-suc (le_of_suc-le-suc h)))

digit_or : (x y : ℕ) → x < 2 → y < 2 → eqb (bit_or x y) 1 ≡ (eqb x 1 || eqb y 1)
digit_or zero y h l = refl
digit_or (suc zero) zero h l = refl
digit_or (suc zero) (suc zero) h l = refl
digit_or (suc zero) (suc (suc y)) h l = absurd (not-suc-le-zero (le_of_suc-le-suc (le_of_suc-le-suc l)))
digit_or (suc (suc x)) y h l = absurd (not-suc-le-zero (le_of_suc-le-suc (le_of_suc-le-suc h)))

pub bit_and_lem : (a b k : ℕ) → bit (bit_and a b) k ≡ (bit a k && bit b k)
bit_and_lem =
    bit_both bit_and ◌&&◌ (λ a b. and_shr a b 1)
    (λ a b. ap (λ (x : ℕ). eqb x 1) (and_mod a b 1) ∙ digit_and (a % 2) (b % 2) (mod-lt a (zero-lt-suc 1)) (mod-lt b (zero-lt-suc 1)))

pub bit_or_lem : (a b k : ℕ) → bit (bit_or a b) k ≡ (bit a k || bit b k)
bit_or_lem =
    bit_both bit_or ◌||◌ (λ a b. or_shr a b 1)
    (λ a b. ap (λ (x : ℕ). eqb x 1) (or_mod a b 1) ∙ digit_or (a % 2) (b % 2) (mod-lt a (zero-lt-suc 1)) (mod-lt b (zero-lt-suc 1)))

digit_not : (x y : ℕ) → x + y ≡ 1 → eqb x 1 ≡ not (eqb y 1)
digit_not zero zero e = absurd (omega arith)
digit_not zero (suc zero) e = refl
digit_not zero (suc (suc y)) e = absurd (omega arith)
digit_not (suc x) y e =
    let a : suc x ≡ 1 = omega arith in
    let b : y ≡ 0 = omega arith in
    ap (λ (p : ℕ). eqb p 1) a ∙ sym (ap (λ (q : ℕ). not (eqb q 1)) b)

-- the complement in n bits
pub bit_not : (n a k : ℕ) → a < 2 ^ n → k < n → bit (2 ^ n - 1 - a) k ≡ not (bit a k)
unfolding bit
bit_not zero a k h l = absurd (not-suc-le-zero l)
bit_not (suc n) a zero h l = digit_not ((2 ^ suc n - 1 - a) % 2) (a % 2) (omega (arith, pow-suc 2 n))
bit_not (suc n) a (suc k) h l =
    let e : (2 ^ suc n - 1 - a) / 2 ≡ 2 ^ n - 1 - a / 2 = omega (arith, pow-suc 2 n) in
    ap (λ (x : ℕ). bit x k) e ∙ bit_not n (a / 2) k (omega (arith, pow-suc 2 n)) (le_of_suc-le-suc l)

-- ---- a number of n bits is known by its bits

-- the mask of a test is the number whose bits are that test
pub mask_is : (n m : ℕ) (f : ℕ → Bool) → m < 2 ^ n → ((k : ℕ) → k < n → bit m k ≡ f k) → m ≡ mask n f
mask_is n m f h e = sym (mask-bits n m h) ∙ mask_same n f (bit m) e

pub bits_same : (n a b : ℕ) → a < 2 ^ n → b < 2 ^ n → ((k : ℕ) → k < n → bit a k ≡ bit b k) → a ≡ b
bits_same n a b h l e = mask_is n a (bit b) h e ∙ mask-bits n b l

pub bit_above : (n m k : ℕ) → m < 2 ^ n → n ≤ k → bit m k ≡ false
bit_above n m k h l = ap (λ (x : ℕ). bit x k) (sym (mask-bits n m h)) ∙ bit_mask_over n (bit m) k l

-- m | (1 << k)
pub or_one : (n m k : ℕ) → m < 2 ^ n → k < n → bit_or m (1 * 2 ^ k % 2 ^ n) ≡ mask n (λ j. bit m j || eqb j k)
or_one n m k h l =
    mask_is n (bit_or m (1 * 2 ^ k % 2 ^ n)) (λ j. bit m j || eqb j k) (or_lt n m (1 * 2 ^ k % 2 ^ n) h (mod-lt (1 * 2 ^ k) (pow_pos n)))
    (λ j q. bit_or_lem m (1 * 2 ^ k % 2 ^ n) j ∙ ap (λ (b : Bool). bit m j || b) (bit_one n k j l))

-- no bit set: the number is 0
pub no_bits : (n m : ℕ) → m < 2 ^ n → ((k : ℕ) → k < n → bit m k ≡ false) → m ≡ 0
no_bits n m h e = bits_same n m 0 h (pow_pos n) (λ k l. e k l ∙ sym (bit-zero k))

-- ---- the lowest set bit

lowest-next : (n : ℕ) (f : ℕ → Bool) (t : ℕ) → f zero ≡ false → Lowest n (λ k. f (suc k)) t → Lowest (suc n) f (suc t)
lowest-next n f t e l = record { at_most = suc-le-suc l.at_most; hit = λ h. l.hit (le_of_suc-le-suc h); missed = missed_at }
  where
    missed_at : (j : ℕ) → j < suc t → f j ≡ false
    missed_at zero h = e
    missed_at (suc j) h = l.missed j (le_of_suc-le-suc h)

lowest_here : (n : ℕ) (f : ℕ → Bool) → f zero ≡ true → Lowest (suc n) f zero
lowest_here n f e = record { at_most = zero-le; hit = λ h. e; missed = λ j h. absurd (not-suc-le-zero h) }

trailing_step : (n m t d : ℕ) → m % 2 ≡ d → Lowest n (bit (m / 2)) t → Lowest (suc n) (bit m) (under d t)
unfolding bit
trailing_step n m t zero e l = lowest-next n (bit m) t (ap (λ (x : ℕ). eqb x 1) e) l
trailing_step n m t (suc zero) e l = lowest_here n (bit m) (ap (λ (x : ℕ). eqb x 1) e)
trailing_step n m t (suc (suc d)) e l = absurd (omega arith)

trailing_is : (n m : ℕ) → Lowest n (bit m) (count_trailing_zeros n m)
unfolding count_trailing_zeros
trailing_is zero m = record { at_most = zero-le; hit = λ h. absurd (not-suc-le-zero h); missed = λ j h. absurd (not-suc-le-zero h) }
trailing_is (suc n) m = trailing_step n m (count_trailing_zeros n (m / 2)) (m % 2) refl (trailing_is n (m / 2))

pub trailing_lowest : (n m : ℕ) → count_trailing_zeros n m ≡ lowest n (bit m)
trailing_lowest n m = lowest_unique n (bit m) (count_trailing_zeros n m) (lowest n (bit m)) (trailing_is n m) (lowest_is n (bit m))

pub lowest_lt : (n m : ℕ) → 0 < m → m < 2 ^ n → lowest n (bit m) < n
lowest_lt n m h l =
    bool_cases (ltb (lowest n (bit m)) n) (λ e. ltb-true _ _ e)
    (λ e. let z : m ≡ 0 = no_bits n m l (lowest-none n (bit m) e) in absurd (omega arith))

-- the lowest set bit is set
pub lowest_set : (n m : ℕ) → 0 < m → m < 2 ^ n → bit m (lowest n (bit m)) ≡ true
lowest_set n m h l = (lowest_is n (bit m)).hit (lowest_lt n m h l)

clear_step : (m t d : ℕ) → 0 < m → m % 2 ≡ d
    → (0 < m / 2 → (j : ℕ) → (bit (m / 2) j && bit (m / 2 - 1) j) ≡ (bit (m / 2) j && not (eqb j t)))
    → (j : ℕ) → (bit m j && bit (m - 1) j) ≡ (bit m j && not (eqb j (under d t)))
unfolding bit
clear_step m t zero h e r zero =
    let q : eqb (m % 2) 1 ≡ false = ap (λ (x : ℕ). eqb x 1) e in
    ap (λ (b : Bool). b && eqb ((m - 1) % 2) 1) q ∙ sym (ap (λ (b : Bool). b && not (eqb zero (suc t))) q)
clear_step m t zero h e r (suc j) =
    let q : (m - 1) / 2 ≡ m / 2 - 1 = omega arith in
    ap (λ (x : ℕ). bit (m / 2) j && bit x j) q ∙ r (omega arith) j ∙ ap (λ (b : Bool). bit (m / 2) j && not b) (sym (eqb-suc-suc j t))
clear_step m t (suc zero) h e r zero =
    let q : (m - 1) % 2 ≡ 0 = omega arith in ap (λ (x : ℕ). eqb (m % 2) 1 && eqb x 1) q
clear_step m t (suc zero) h e r (suc j) =
    let q : (m - 1) / 2 ≡ m / 2 = omega arith in
    ap (λ (x : ℕ). bit (m / 2) j && bit x j) q ∙ and_self (bit (m / 2) j) ∙ sym (and-true (bit (m / 2) j)) ∙ ap (λ (b : Bool). bit (m / 2) j && not b) (sym (eqb-suc-zero j))
clear_step m t (suc (suc d)) h e r j = absurd (omega arith)

clear : (n m : ℕ) → 0 < m → m < 2 ^ n → (j : ℕ) → (bit m j && bit (m - 1) j) ≡ (bit m j && not (eqb j (count_trailing_zeros n m)))
unfolding count_trailing_zeros
clear zero m h l j = absurd (omega arith)
clear (suc n) m h l j =
    clear_step m (count_trailing_zeros n (m / 2)) (m % 2) h refl (λ q i. clear n (m / 2) q (omega (arith, pow-suc 2 n)) i) j

-- m & (m - 1) is m without its lowest set bit
pub bit_clear : (n m : ℕ) → 0 < m → m < 2 ^ n → (j : ℕ) → bit (bit_and m (m - 1)) j ≡ (bit m j && not (eqb j (lowest n (bit m))))
bit_clear n m h l j =
    bit_and_lem m (m - 1) j ∙ clear n m h l j ∙ ap (λ (t : ℕ). bit m j && not (eqb j t)) (trailing_lowest n m)

-- ---- the highest set bit

-- a number from 2 ^ j up to twice that has bit j
top_set : (j m : ℕ) → 2 ^ j ≤ m → m < 2 ^ suc j → bit m j ≡ true
unfolding bit
top_set zero m h l = let e : m % 2 ≡ 1 = omega (arith, pow-suc 2 0) in ap (λ (x : ℕ). eqb x 1) e
top_set (suc j) m h l = top_set j (m / 2) (omega (arith, pow-suc 2 j)) (omega (arith, pow-suc 2 (suc j)))

-- and none above it
pub top_bit : (r m : ℕ) → 2 ^ r ≤ m → m < 2 * 2 ^ r → (bit m r ≡ true) × ((j : ℕ) → r < j → bit m j ≡ false)
top_bit r m h l = let k : m < 2 ^ suc r = omega (arith, pow-suc 2 r) in (top_set r m h k, λ j g. bit_above (suc r) m j k g)

-- the bit below the leading zeros is set, and none above it
pub highest_set : (n m r : ℕ) → 0 < m → m < 2 ^ n → count_leading_zeros n m + suc r ≡ n → (bit m r ≡ true) × ((j : ℕ) → r < j → bit m j ≡ false)
highest_set n m r h l e =
    let t = leading_top n m h l in
    let q : t.0 ≡ r = omega (arith, t.1) in
    (subst (λ (x : ℕ). bit m x ≡ true) q (top_set t.0 m t.2 t.3), λ j g. bit_above (suc t.0) m j t.3 (omega (arith, t.1)))

-- ---- words as tests

-- a number of n bits is not 0 where a bit of it is set
pub any_bit : (n m : ℕ) (f : ℕ → Bool) → m < 2 ^ n → ((k : ℕ) → k < n → bit m k ≡ f k) → not (eqb m 0) ≡ some_below n f
any_bit n m f h e = same_test (not (eqb m 0)) (some_below n f) there back
  where
    there : not (eqb m 0) ≡ true → some_below n f ≡ true
    there q =
        bool_cases (some_below n f) (λ s. s)
        (λ s. absurd_bool (eq-eqb m 0 (no_bits n m h (λ k l. e k l ∙ some-none n f s k l))) (not_yes (eqb m 0) q))

    back : some_below n f ≡ true → not (eqb m 0) ≡ true
    back s =
        let r = some_found n f s in
        ap not (ne_eqb m 0 (λ z. absurd_bool (e r.0 r.1 ∙ r.2) (ap (λ (x : ℕ). bit x r.0) z ∙ bit-zero r.0)))

-- and 0 where each bit of it is clear
pub no_bit : (n m : ℕ) (f : ℕ → Bool) → m < 2 ^ n → ((k : ℕ) → k < n → bit m k ≡ not (f k)) → eqb m 0 ≡ every n f
no_bit n m f h e =
    same_test (eqb m 0) (every n f)
    (λ q. every_all n f (λ k l. not_no (f k) (sym (e k l) ∙ ap (λ (x : ℕ). bit x k) (eqb-true m 0 q) ∙ bit-zero k)))
    (λ s. eq-eqb m 0 (no_bits n m h (λ k l. e k l ∙ ap not (every-at n f s k l))))

and_not : (a b : Bool) → (a && not b) ≡ not (implies a b)
unfolding implies
and_not true b = refl
and_not false b = refl

-- a & b != 0
pub meets_test : (n a b : ℕ) → a < 2 ^ n → not (eqb (bit_and a b) 0) ≡ some_below n (λ j. bit a j && bit b j)
meets_test n a b h = any_bit n (bit_and a b) (λ j. bit a j && bit b j) (lt_of_le_of_lt (and_le_l a b) h) (λ k l. bit_and_lem a b k)

-- a & !b == 0
pub inside_test : (n a b : ℕ) → a < 2 ^ n → b < 2 ^ n → eqb (bit_and a (2 ^ n - 1 - b)) 0 ≡ every n (λ j. implies (bit a j) (bit b j))
inside_test n a b h l =
    no_bit n (bit_and a (2 ^ n - 1 - b)) (λ j. implies (bit a j) (bit b j)) (lt_of_le_of_lt (and_le_l a (2 ^ n - 1 - b)) h)
    (λ k q. bit_and_lem a (2 ^ n - 1 - b) k ∙ ap (λ (c : Bool). bit a k && c) (bit_not n b k l q) ∙ and_not (bit a k) (bit b k))

-- ---- the numbers below n

-- 2 ^ n - 1 has exactly the n lowest bits
pub bit_ones : (n j : ℕ) → bit (2 ^ n - 1) j ≡ ltb j n
unfolding bit
bit_ones zero j = bit-zero j ∙ sym (le-ltb j 0 zero-le)
bit_ones (suc n) zero =
    let h : 0 < 2 ^ n = pow_pos n in
    let e : (2 ^ suc n - 1) % 2 ≡ 1 = omega (arith, pow-suc 2 n) in
    ap (λ (x : ℕ). eqb x 1) e ∙ sym (lt-ltb 0 (suc n) (omega arith))
bit_ones (suc n) (suc j) =
    let h : 0 < 2 ^ n = pow_pos n in
    let e : (2 ^ suc n - 1) / 2 ≡ 2 ^ n - 1 = omega (arith, pow-suc 2 n) in
    ap (λ (x : ℕ). bit x j) e ∙ bit_ones n j ∙ sym (leb-suc-suc (suc j) n)
