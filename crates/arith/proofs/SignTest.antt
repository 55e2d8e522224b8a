-- What the test of a 32-bit number's sign tells of the number and of its bits.
use mathlib.Core.Path.{◌≡◌, refl, ◌∙◌}
use Prim.Native.Nat.{ℕ, suc, ◌-◌, ◌<◌}
use native.Mathlib.Omega.{arith}
use mathlib.Core.Bool.{true, false}
use lib.IntN.{ℤ, pos, negsuc}
use lib.Signed.{mag, lt_z}
use mir.Syntax.{w32}
use mir.Val.{to_z, of_z}
use mir.Facts.{to_z_pos}
use Rattle.semantics.specs.Signed.{residue}
use Rattle.semantics.proofs.Basics.{absurd_bool, ltb-true}
use Rattle.arith.proofs.Signed32.{back32}

-- a number below zero is no natural number
no_natural {ℓ} : {X : Type ℓ} (n : ℕ) → lt_z (pos n) (pos 0) ≡ true → X
no_natural n t = let h : n < 0 = ltb-true n 0 t in absurd (omega arith)

complemented : (z : ℤ) → mag z < 2147483648 → lt_z z (pos 0) ≡ true → to_z w32 (4294967295 - of_z w32 z) ≡ pos (mag z)
complemented (pos n) h t = no_natural n t
complemented (negsuc n) h t =
    let e : 4294967295 - (4294967296 - suc n) ≡ n = omega arith in
    rw e (to_z_pos w32 h)

natural : (z : ℤ) → lt_z z (pos 0) ≡ false → z ≡ pos (mag z)
natural (pos n) t = refl
natural (negsuc n) t = absurd_bool refl t

residue_low : (z : ℤ) → mag z < 2147483648 → lt_z z (pos 0) ≡ true → residue z ≡ 4294967295 - mag z
unfolding residue
residue_low (pos n) h t = no_natural n t
residue_low (negsuc n) h t = omega arith

residue_high : (z : ℤ) → mag z < 2147483648 → lt_z z (pos 0) ≡ false → residue z ≡ mag z
unfolding residue
residue_high (pos n) h t = omega arith
residue_high (negsuc n) h t = absurd_bool refl t

-- the same of a number that the code holds, by the test of its bits
module _ (z : ℤ) (h : mag z < 2147483648) where
  -- the complement of a negative number is its magnitude
  pub complement : lt_z (to_z w32 (of_z w32 z)) (pos 0) ≡ true → to_z w32 (4294967295 - of_z w32 z) ≡ pos (mag z)
  complement t = complemented z h (rw (back32 z h) at t)

  -- a number that is not negative is its magnitude
  pub not_negative : lt_z (to_z w32 (of_z w32 z)) (pos 0) ≡ false → to_z w32 (of_z w32 z) ≡ pos (mag z)
  not_negative t = back32 z h ∙ natural z (rw (back32 z h) at t)

  pub residue_negative : lt_z (to_z w32 (of_z w32 z)) (pos 0) ≡ true → residue z ≡ 4294967295 - mag z
  residue_negative t = residue_low z h (rw (back32 z h) at t)

  pub residue_other : lt_z (to_z w32 (of_z w32 z)) (pos 0) ≡ false → residue z ≡ mag z
  residue_other t = residue_high z h (rw (back32 z h) at t)
