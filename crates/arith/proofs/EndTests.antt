-- What the tests of a 64-bit number against the ends of signed 32 bits tell of it.
use mathlib.Core.Path.{◌≡◌, sym, subst}
use Prim.Native.Nat.{◌<◌}
use mathlib.Core.Bool.{Bool, true, false, not}
use lib.Dec.{T}
use lib.IntN.{ℤ}
use lib.Signed.{mag, lt_z, lt_z_yes, lt_z_no}
use mir.Syntax.{w64}
use mir.Val.{to_z, of_z}
use Rattle.semantics.specs.Signed.{lower_end, upper_end, saturate}
use Rattle.semantics.proofs.Saturation.{between_ends, saturate_above, saturate-below}
use Rattle.arith.proofs.Signed32.{back64}

module _ (z : ℤ) (h : mag z < 9223372036854775808) where
  -- below the lower end
  pub held_below : lt_z (to_z w64 (of_z w64 z)) lower_end ≡ true → saturate z ≡ lower_end
  held_below t = saturate-below (lt_z_yes (subst T (sym (rw (back64 z h) at t)) tt))

  -- above the upper
  pub held_above : lt_z upper_end (to_z w64 (of_z w64 z)) ≡ true → saturate z ≡ upper_end
  held_above t = saturate_above (lt_z_yes (subst T (sym (rw (back64 z h) at t)) tt))

  -- neither
  pub inside_ends : lt_z (to_z w64 (of_z w64 z)) lower_end ≡ false → lt_z upper_end (to_z w64 (of_z w64 z)) ≡ false → mag z < 2147483648
  inside_ends l u =
      (between_ends z).1
      (lt_z_no (subst (λ (b : Bool). T (not b)) (sym (rw (back64 z h) at l)) tt), lt_z_no (subst (λ (b : Bool). T (not b)) (sym (rw (back64 z h) at u)) tt))
