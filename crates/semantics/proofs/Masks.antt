-- Laws of bits and masks, and of numbers written as bytes and read back.
use mathlib.Core.Path.{◌≡◌, refl, sym, ap, ap₂, ◌∙◌, subst}
use Prim.Native.Nat.{ℕ, zero, suc, ◌+◌, ◌*◌, ◌/◌, ◌%◌, ◌^◌, ◌≤◌, ◌<◌, zero-le, suc-le-suc}
use native.Mathlib.Nat.{le_of_suc-le-suc, not-suc-le-zero, pow-suc}
use native.Mathlib.Omega.{arith}
use mathlib.Core.Bool.{Bool, true, false, cond}
use mathlib.Core.List.{List, ◌++◌}
use lib.ListN.{length}
use lib.Dec.{ltb, eqb}
use Rattle.semantics.specs.Bytes.{u32, u64, le_bytes, bit, mask}
use Rattle.semantics.proofs.Basics.{bool_cases, absurd_bool, ltb-true, ltb-false}

-- ---- bits of a mask

-- the lowest binary digit of a mask, and the rest
digit_odd : (b : Bool) (m : ℕ) → eqb ((cond b 1 0 + 2 * m) % 2) 1 ≡ b
digit_odd true m = let e : (1 + 2 * m) % 2 ≡ 1 = omega arith in ap (λ (x : ℕ). eqb x 1) e
digit_odd false m = let e : (0 + 2 * m) % 2 ≡ 0 = omega arith in ap (λ (x : ℕ). eqb x 1) e

digit_half : (b : Bool) (m : ℕ) → (cond b 1 0 + 2 * m) / 2 ≡ m
digit_half true m = omega arith
digit_half false m = omega arith

pub bit-zero : (k : ℕ) → bit 0 k ≡ false
unfolding bit
bit-zero zero = refl
bit-zero (suc k) = bit-zero k

pub bit_mask : (n : ℕ) (f : ℕ → Bool) (k : ℕ) → k < n → bit (mask n f) k ≡ f k
unfolding bit mask
bit_mask zero f k h = absurd (not-suc-le-zero h)
bit_mask (suc n) f zero h = digit_odd (f zero) (mask n (λ j. f (suc j)))
bit_mask (suc n) f (suc k) h =
    ap (λ (m : ℕ). bit m k) (digit_half (f zero) (mask n (λ j. f (suc j)))) ∙ bit_mask n (λ j. f (suc j)) k (le_of_suc-le-suc h)

pub bit_mask_over : (n : ℕ) (f : ℕ → Bool) (k : ℕ) → n ≤ k → bit (mask n f) k ≡ false
unfolding bit mask
bit_mask_over zero f k h = bit-zero k
bit_mask_over (suc n) f zero h = absurd (not-suc-le-zero h)
bit_mask_over (suc n) f (suc k) h =
    ap (λ (m : ℕ). bit m k) (digit_half (f zero) (mask n (λ j. f (suc j)))) ∙ bit_mask_over n (λ j. f (suc j)) k (le_of_suc-le-suc h)

digit_lt : (b : Bool) (m x : ℕ) → m < x → cond b 1 0 + 2 * m < 2 * x
digit_lt true m x h = omega arith
digit_lt false m x h = omega arith

pub mask_lt : (n : ℕ) (f : ℕ → Bool) → mask n f < 2 ^ n
unfolding mask
mask_lt zero f = omega arith
mask_lt (suc n) f =
    let h = digit_lt (f zero) (mask n (λ j. f (suc j))) (2 ^ n) (mask_lt n (λ j. f (suc j))) in
    let e : 2 * 2 ^ n ≡ 2 ^ suc n = omega (arith, pow-suc 2 n) in
    subst (λ (x : ℕ). mask (suc n) f < x) e h

-- masks of two widths: the same tests below the narrow one, none from there on
pub mask_wider : (n w : ℕ) (f g : ℕ → Bool) → n ≤ w → ((k : ℕ) → k < n → g k ≡ f k) → ((k : ℕ) → n ≤ k → k < w → g k ≡ false) → mask w g ≡ mask n f
unfolding mask
mask_wider zero zero f g h e d = refl
mask_wider zero (suc w) f g h e d =
    ap₂ (λ (b : Bool) (m : ℕ). cond b 1 0 + 2 * m) (d zero zero-le (suc-le-suc zero-le))
    (mask_wider zero w (λ k. f (suc k)) (λ k. g (suc k)) zero-le (λ k l. absurd (not-suc-le-zero l)) (λ k l m. d (suc k) zero-le (suc-le-suc m)))
mask_wider (suc n) zero f g h e d = absurd (not-suc-le-zero h)
mask_wider (suc n) (suc w) f g h e d =
    ap₂ (λ (b : Bool) (m : ℕ). cond b 1 0 + 2 * m) (e zero (suc-le-suc zero-le))
    (mask_wider n w (λ k. f (suc k)) (λ k. g (suc k)) (le_of_suc-le-suc h) (λ k l. e (suc k) (suc-le-suc l))
    (λ k l m. d (suc k) (suc-le-suc l) (suc-le-suc m)))

pub mask_same : (n : ℕ) (f g : ℕ → Bool) → ((k : ℕ) → k < n → g k ≡ f k) → mask n g ≡ mask n f
mask_same n f g e = mask_wider n n f g (omega arith) e (λ k h l. absurd (clash k n h l))
  where
    clash : (k n : ℕ) → n ≤ k → k < n → ⊥
    clash k n h l = omega arith

pub mask-none : (n : ℕ) → mask n (λ k. false) ≡ 0
unfolding mask
mask-none n = mask_wider zero n (λ k. false) (λ k. false) zero-le (λ k h. refl) (λ k h l. refl)

-- a bit of a mask of n tests is below n, and its test holds
pub mask-holds : (n : ℕ) (f : ℕ → Bool) (j : ℕ) → bit (mask n f) j ≡ true → (j < n) × (f j ≡ true)
mask-holds n f j e =
    bool_cases (ltb j n) (λ l. (ltb-true j n l, sym (bit_mask n f j (ltb-true j n l)) ∙ e))
    (λ l. absurd_bool e (bit_mask_over n f j (ltb-false j n l)))

digit_back : (m d : ℕ) → m % 2 ≡ d → cond (eqb d 1) 1 0 + 2 * (m / 2) ≡ m
digit_back m zero e = omega arith
digit_back m (suc zero) e = omega arith
digit_back m (suc (suc d)) e = absurd (omega arith)

-- a number below 2 ^ n is the mask of its bits
pub mask-bits : (n m : ℕ) → m < 2 ^ n → mask n (bit m) ≡ m
unfolding mask bit
mask-bits zero m h = omega arith
mask-bits (suc n) m h =
    ap (λ (x : ℕ). cond (eqb (m % 2) 1) 1 0 + 2 * x) (mask-bits n (m / 2) (omega (arith, pow-suc 2 n))) ∙ digit_back m (m % 2) refl

-- ---- bytes

pub length-le_bytes : (n x : ℕ) → length (le_bytes n x) ≡ n
unfolding le_bytes
length-le_bytes zero x = refl
length-le_bytes (suc n) x = ap suc (length-le_bytes n (x / 256))

pub u32_back : (x : ℕ) (r : List ℕ) → x < 4294967296 → u32 (le_bytes 4 x ++ r) 0 ≡ x
unfolding u32 le_bytes
u32_back x r h = omega arith

pub u64_back : (x : ℕ) (r : List ℕ) → x < 18446744073709551616 → u64 (le_bytes 8 x ++ r) 0 ≡ x
unfolding u64 u32 le_bytes
u64_back x r h = omega arith
