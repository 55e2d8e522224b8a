-- Exact sums, differences and extensions of signed 32-bit numbers fit 64 bits.
use Prim.Native.Nat.{ℕ, ◌≤◌, ◌<◌}
use native.Mathlib.Nat.{mul-le-mul}
use native.Mathlib.Omega.{arith}
use lib.IntN.{ℤ, pos, ◌+ℤ◌, ◌-ℤ◌, ◌*ℤ◌}
use lib.Signed.{mag, nat_abs-le}
use Rattle.semantics.proofs.Magnitudes.{mag_sum, mag_difference, mag_times}

pub sum_in : (a b : ℤ) → mag a < 2147483648 → mag b < 2147483648 → mag (a +ℤ b) < 9223372036854775808
sum_in a b h k = omega (arith, mag_sum a b)

pub difference_in : (a b : ℤ) → mag a < 2147483648 → mag b < 2147483648 → mag (a -ℤ b) < 9223372036854775808
difference_in a b h k = omega (arith, mag_difference a b k)

pub product_in : (z : ℤ) (k : ℕ) → mag z < 2147483648 → k ≤ 65536 → mag (z *ℤ pos k) < 9223372036854775808
product_in z k h l = omega (arith, mag_times z k, mul-le-mul (nat_abs-le z h) l)

pub extended_in : (z : ℤ) (k n : ℕ) → mag z < 2147483648 → k ≤ 65536 → n < 65536 → mag (z *ℤ pos k +ℤ pos n) < 9223372036854775808
extended_in z k n h l m = omega (arith, mag_times z k, mul-le-mul (nat_abs-le z h) l, mag_sum (z *ℤ pos k) (pos n))
