-- Signed 32-bit numbers and their bits. A number z is one where `mag z`, which is n both for n and for -(n + 1), is below 2 ^ 31.
use mathlib.Core.Path.{◌≡◌, refl, ap, ◌∙◌}
use Prim.Native.Nat.{ℕ, suc, ◌-◌, ◌%◌, ◌≤◌, ◌<◌}
use native.Mathlib.Omega.{arith}
use mathlib.Core.Bool.{Bool, true, false}
use lib.Dec.{ltb}
use lib.IntN.{ℤ, pos, negsuc}
use lib.Signed.{mag}
use Rattle.semantics.specs.Signed.{signed, residue, truth}
use Rattle.semantics.proofs.Basics.{bool_cases, ltb-true, ltb-false, lt-ltb, le-ltb}

-- what 32 bits denote, in the two halves
signed_low : (u : ℕ) → u < 2147483648 → signed u ≡ pos u
unfolding signed
signed_low u h = rw (lt-ltb u 2147483648 h) refl

signed_high : (u : ℕ) → 2147483648 ≤ u → signed u ≡ negsuc (4294967296 - suc u)
unfolding signed
signed_high u h = rw (le-ltb u 2147483648 h) refl

-- what 32 bits denote is a signed 32-bit number
pub signed_in : (u : ℕ) → mag (signed u) < 2147483648
signed_in u = bool_cases (ltb u 2147483648) low high
  where
    low : ltb u 2147483648 ≡ true → mag (signed u) < 2147483648
    low e = let h : u < 2147483648 = ltb-true u 2147483648 e in rw (signed_low u h) h

    high : ltb u 2147483648 ≡ false → mag (signed u) < 2147483648
    high e = let h : 2147483648 ≤ u = ltb-false u 2147483648 e in rw (signed_high u h) (omega arith)

-- such a number is what its 32 bits denote
pub signed-residue : (z : ℤ) → mag z < 2147483648 → signed (residue z) ≡ z
unfolding residue
signed-residue (pos n) h = let e : n % 4294967296 ≡ n = omega arith in ap (λ (x : ℕ). signed x) e ∙ signed_low n h
signed-residue (negsuc n) h =
    let a : 2147483648 ≤ 4294967295 - n % 4294967296 = omega arith in
    let e : 4294967296 - suc (4294967295 - n % 4294967296) ≡ n = omega arith in
    signed_high (4294967295 - n % 4294967296) a ∙ ap negsuc e

-- and 32 bits are those of what they denote
pub residue-signed : (u : ℕ) → u < 4294967296 → residue (signed u) ≡ u
unfolding residue
residue-signed u h = bool_cases (ltb u 2147483648) low high
  where
    low : ltb u 2147483648 ≡ true → residue (signed u) ≡ u
    low e = let b : u < 2147483648 = ltb-true u 2147483648 e in rw (signed_low u b) (omega arith)

    high : ltb u 2147483648 ≡ false → residue (signed u) ≡ u
    high e = let b : 2147483648 ≤ u = ltb-false u 2147483648 e in rw (signed_high u b) (omega arith)

-- they are 32 bits
pub residue_lt : (z : ℤ) → residue z < 4294967296
unfolding residue
residue_lt (pos n) = omega arith
residue_lt (negsuc n) = omega arith

-- 0 and 1 are signed 32-bit numbers
pub truth_in : (b : Bool) → mag (truth b) < 2147483648
unfolding truth
truth_in true = omega arith
truth_in false = omega arith
