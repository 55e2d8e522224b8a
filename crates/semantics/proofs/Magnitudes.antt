-- Magnitudes: `mag z` is n both for n and for -(n + 1), so that a signed range is one bound. What sums, differences and products make of them.
use Prim.Native.Nat.{ℕ, zero, suc, ◌+◌, ◌*◌, ◌-◌, ◌≤◌, ◌<◌}
use native.Mathlib.Omega.{arith}
use lib.Dec.{ltb}
use lib.IntN.{ℤ, pos, negsuc, neg_ℤ, nat_abs, sub_ℕ, ◌+ℤ◌, ◌-ℤ◌, ◌*ℤ◌}
use lib.Signed.{mag, nat_abs-le}
use Rattle.semantics.proofs.Basics.{bool_cases, ltb-true, ltb-false}

-- a - b by its sign
sub_ind : (a b : ℕ) (P : ℤ → Type 0) → (a < b → P (negsuc (b - suc a))) → (b ≤ a → P (pos (a - b))) → P (sub_ℕ a b)
sub_ind a b P low high = bool_cases (ltb a b) (λ e. rw e (low (ltb-true a b e))) (λ e. rw e (high (ltb-false a b e)))

pub mag_sum : (a b : ℤ) → mag (a +ℤ b) ≤ mag a + mag b + 1
mag_sum (pos a) (pos b) = omega arith
mag_sum (pos a) (negsuc b) = sub_ind a (suc b) (λ z. mag z ≤ a + b + 1) (λ h. omega arith) (λ h. omega arith)
mag_sum (negsuc a) (pos b) = sub_ind b (suc a) (λ z. mag z ≤ a + b + 1) (λ h. omega arith) (λ h. omega arith)
mag_sum (negsuc a) (negsuc b) = omega arith

mag_negated : (z : ℤ) → mag (neg_ℤ z) ≤ nat_abs z
mag_negated (pos zero) = omega arith
mag_negated (pos (suc n)) = omega arith
mag_negated (negsuc n) = omega arith

pub mag_difference : (a b : ℤ) {m : ℕ} → mag b < m → mag (a -ℤ b) ≤ mag a + m + 1
mag_difference a b h = omega (arith, mag_sum a (neg_ℤ b), mag_negated b, nat_abs-le b h)

pub mag_times : (z : ℤ) (k : ℕ) → mag (z *ℤ pos k) ≤ nat_abs z * k
mag_times (pos n) k = omega arith
mag_times (negsuc n) k = mag_negated (pos (suc n * k))
