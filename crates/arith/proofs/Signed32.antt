-- Signed 32-bit numbers: their bits, and a value of the code read back from its bits.
use mathlib.Core.Path.{◌≡◌, refl}
use Prim.Native.Nat.{suc, ◌-◌, ◌<◌}
use native.Mathlib.Omega.{arith}
use lib.Dec.{eqb}
use lib.IntN.{ℤ, pos, negsuc}
use lib.Signed.{mag}
use mir.Syntax.{w32, w64}
use mir.Val.{to_z, of_z}
use mir.Facts.{to_z-of_z}
use Rattle.semantics.specs.Signed.{residue, equal_z}
use Rattle.semantics.proofs.Basics.{same_test, eqb-true, eq-eqb, ne_eqb}

-- ---- a value of the code, read back from its bits

pub back32 : (z : ℤ) → mag z < 2147483648 → to_z w32 (of_z w32 z) ≡ z
back32 z h = to_z-of_z {w = w32} (record { sfits = h })

pub back64 : (z : ℤ) → mag z < 9223372036854775808 → to_z w64 (of_z w64 z) ≡ z
back64 z h = to_z-of_z {w = w64} (record { sfits = h })

-- ---- the bits

-- the code's bits of a number in range are those that store it
pub residue_of_z : (z : ℤ) → mag z < 2147483648 → residue z ≡ of_z w32 z
unfolding residue
residue_of_z (pos n) h = omega arith
residue_of_z (negsuc n) h = omega arith

-- numbers in range are equal where their bits are
pub same_bits : (a b : ℤ) → mag a < 2147483648 → mag b < 2147483648 → eqb (of_z w32 a) (of_z w32 b) ≡ equal_z a b
unfolding equal_z
same_bits (pos a) (pos b) h k = refl
same_bits (pos a) (negsuc b) h k = ne_eqb a (4294967296 - suc b) (λ e. omega arith)
same_bits (negsuc a) (pos b) h k = ne_eqb (4294967296 - suc a) b (λ e. omega arith)
same_bits (negsuc a) (negsuc b) h k =
    same_test
    (eqb (4294967296 - suc a) (4294967296 - suc b))
    (eqb a b)
    (λ t. let e : 4294967296 - suc a ≡ 4294967296 - suc b = eqb-true _ _ t in eq-eqb a b (omega arith))
    (λ t. let e : a ≡ b = eqb-true a b t in eq-eqb (4294967296 - suc a) (4294967296 - suc b) (omega arith))
