-- Sums before 02's job 2: "Add, subtract and kind 1 wrap into signed 32 bits" (01, Code words). Where wrapping and saturation differ; no call cites this.
-- They differ exactly where the exact result leaves the range: always so for add and subtract, and for kind 1 but where the result is past an end by
-- whole turns of 2 ^ 32, which wraps to that very end.
use mathlib.Core.Path.{◌≡◌, refl, sym, ap, ◌∙◌}
use mathlib.Core.Logic.{◌↔◌}
use Prim.Native.Nat.{ℕ, ◌-◌, ◌%◌, ◌≤◌, ◌<◌}
use native.Mathlib.Omega.{arith}
use lib.Dec.{ltb}
use lib.IntN.{ℤ, pos, negsuc, ◌+ℤ◌, ◌-ℤ◌, ◌*ℤ◌}
use lib.Signed.{mag}
use Rattle.semantics.specs.Signed.{signed, residue, saturate, add, subtract, extend}
use Rattle.semantics.proofs.Basics.{bool_cases, ltb-true, ltb-false}
use Rattle.semantics.proofs.Magnitudes.{mag_sum, mag_difference}
use Rattle.semantics.proofs.Meaning.{in_signed}
use Rattle.semantics.proofs.Saturation.{saturate_same, past_upper, past_lower}
use Rattle.semantics.proofs.SignedBits.{signed-residue, residue-signed, residue_lt}

-- An exact result wrapped into signed 32 bits.
unfoldable pub wrap : ℤ → ℤ
wrap z = signed (residue z)

-- where the two agree, an exact result and the held one have the same 32 bits
same_residue : (z : ℤ) → wrap z ≡ saturate z → residue z ≡ residue (saturate z)
unfolding wrap
same_residue z e = sym (residue-signed (residue z) (residue_lt z)) ∙ ap residue e

-- inside the range the two agree
pub alike_inside : (z : ℤ) → mag z < 2147483648 → wrap z ≡ saturate z
unfolding wrap
alike_inside z h = signed-residue z h ∙ sym (saturate_same z h)

-- outside they agree where the result is past the end by whole turns
alike_turned : (z : ℤ) → 2147483648 ≤ mag z → mag z % 4294967296 ≡ 2147483647 → wrap z ≡ saturate z
unfolding wrap residue signed
alike_turned (pos n) h e = ap signed e ∙ sym (past_upper n h)
alike_turned (negsuc n) h e = ap (λ (r : ℕ). signed (4294967295 - r)) e ∙ sym (past_lower n h)

-- and only there
turned : (z : ℤ) → 2147483648 ≤ mag z → wrap z ≡ saturate z → mag z % 4294967296 ≡ 2147483647
unfolding residue
turned (pos n) h e = same_residue (pos n) e ∙ ap residue (past_upper n h)
turned (negsuc n) h e = let r : 4294967295 - n % 4294967296 ≡ 2147483648 = same_residue (negsuc n) e ∙ ap residue (past_lower n h) in omega arith

-- where they differ is outside the range
outside : (z : ℤ) → ¬ (wrap z ≡ saturate z) → 2147483648 ≤ mag z
outside z d = bool_cases (ltb (mag z) 2147483648) (λ t. absurd (d (alike_inside z (ltb-true _ _ t)))) (λ t. ltb-false _ _ t)

no_turn : (n : ℕ) → n < 6442450943 → 2147483648 ≤ n → ¬ (n % 4294967296 ≡ 2147483647)
no_turn n l h e = omega arith

-- ---- where they differ

-- of any exact result
pub differ_exactly : (z : ℤ) → ¬ (wrap z ≡ saturate z) ↔ ((2147483648 ≤ mag z) × ¬ (mag z % 4294967296 ≡ 2147483647))
differ_exactly z = (λ d. let h = outside z d in (h, λ t. d (alike_turned z h t)), λ (h, t) e. t (turned z h e))

-- of one that is less than a turn past an end: exactly outside the range
near : (z : ℤ) → mag z < 6442450943 → ¬ (wrap z ≡ saturate z) ↔ (2147483648 ≤ mag z)
near z l = (outside z, λ h e. no_turn (mag z) l h (turned z h e))

pub add_differs_exactly : (a b : ℤ) → mag a < 2147483648 → mag b < 2147483648 → ¬ (wrap (a +ℤ b) ≡ add a b) ↔ (2147483648 ≤ mag (a +ℤ b))
unfolding add
add_differs_exactly a b h k = near (a +ℤ b) (omega (arith, mag_sum a b))

pub subtract_differs_exactly : (a b : ℤ) → mag a < 2147483648 → mag b < 2147483648 → ¬ (wrap (a -ℤ b) ≡ subtract a b) ↔ (2147483648 ≤ mag (a -ℤ b))
unfolding subtract
subtract_differs_exactly a b h k = near (a -ℤ b) (omega (arith, mag_difference a b k))

pub extend_differs_exactly : (top : ℤ) (n : ℕ) → ¬ (wrap (top *ℤ pos 4096 +ℤ pos n) ≡ extend top n)
    ↔ ((2147483648 ≤ mag (top *ℤ pos 4096 +ℤ pos n)) × ¬ (mag (top *ℤ pos 4096 +ℤ pos n) % 4294967296 ≡ 2147483647))
unfolding extend
extend_differs_exactly top n = differ_exactly (top *ℤ pos 4096 +ℤ pos n)

-- kind 1 does reach such results: 1572863 * 4096 + 4095 is 2147483647 and one turn, -1572864 * 4096 is -2147483648 less one turn
pub extend_alike : (wrap (pos 1572863 *ℤ pos 4096 +ℤ pos 4095) ≡ extend (pos 1572863) 4095) × (wrap (negsuc 1572863 *ℤ pos 4096 +ℤ pos 0) ≡ extend (negsuc 1572863) 0)
unfolding in_signed wrap
extend_alike = (refl, refl)
