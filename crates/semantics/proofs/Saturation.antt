-- Saturation at the ends of signed 32 bits (02, job 2): inside the range it changes nothing, above it gives the upper end, below the lower.
use mathlib.Core.Path.{◌≡◌, ap, ◌∙◌}
use mathlib.Core.Logic.{◌↔◌}
use Prim.Native.Nat.{ℕ, min, ◌≤◌, ◌<◌, suc-le-suc}
use native.Mathlib.Nat.{le_of_suc-le-suc}
use native.Mathlib.Omega.{arith}
use mathlib.Core.Bool.{cond}
use lib.Dec.{T, leb, ltb, leb→le, le→leb, ltb→lt}
use lib.IntN.{ℤ, pos, negsuc}
use lib.Signed.{mag, ◌≤ℤ◌, ◌<ℤ◌}
use Rattle.semantics.specs.Signed.{lower_end, upper_end, saturate}
use Rattle.semantics.proofs.Basics.{bool_cases, ltb-true, ltb-false}

-- the signed 32-bit numbers are those from the lower end to the upper
pub between_ends : (z : ℤ) → mag z < 2147483648 ↔ ((lower_end ≤ℤ z) × (z ≤ℤ upper_end))
between_ends (pos n) =
    (λ h. (record { le = tt }, record { le = le→leb n 2147483647 (le_of_suc-le-suc h) }), λ (l, u). suc-le-suc (leb→le n 2147483647 u.le))
between_ends (negsuc n) =
    (λ h. (record { le = le→leb n 2147483647 (le_of_suc-le-suc h) }, record { le = tt }), λ (l, u). suc-le-suc (leb→le n 2147483647 l.le))

-- the sign stays, and the magnitude stops at 2 ^ 31 - 1
held : (n : ℕ) (f : ℕ → ℤ) → cond (ltb 2147483647 n) (f 2147483647) (f n) ≡ f (min n 2147483647)
held n f =
    bool_cases (ltb 2147483647 n)
    (λ e. let h : 2147483647 < n = ltb-true 2147483647 n e in let m : min n 2147483647 ≡ 2147483647 = omega arith in rw (e, m))
    (λ e. let h : n ≤ 2147483647 = ltb-false 2147483647 n e in let m : min n 2147483647 ≡ n = omega arith in rw (e, m))

saturate-pos : (n : ℕ) → saturate (pos n) ≡ pos (min n 2147483647)
unfolding saturate
saturate-pos n = held n pos

saturate-negsuc : (n : ℕ) → saturate (negsuc n) ≡ negsuc (min n 2147483647)
unfolding saturate
saturate-negsuc n = held n negsuc

-- it gives a signed 32-bit number
pub saturate_in : (z : ℤ) → mag (saturate z) < 2147483648
saturate_in (pos n) = rw (saturate-pos n) (omega arith)
saturate_in (negsuc n) = rw (saturate-negsuc n) (omega arith)

-- such a number it leaves as it is
pub saturate_same : (z : ℤ) → mag z < 2147483648 → saturate z ≡ z
saturate_same (pos n) h = let m : min n 2147483647 ≡ n = omega arith in saturate-pos n ∙ ap pos m
saturate_same (negsuc n) h = let m : min n 2147483647 ≡ n = omega arith in saturate-negsuc n ∙ ap negsuc m

-- of others it makes the end that they are past
pub past_upper : (n : ℕ) → 2147483647 < n → saturate (pos n) ≡ upper_end
past_upper n h = let m : min n 2147483647 ≡ 2147483647 = omega arith in saturate-pos n ∙ ap pos m

pub past_lower : (n : ℕ) → 2147483647 < n → saturate (negsuc n) ≡ lower_end
past_lower n h = let m : min n 2147483647 ≡ 2147483647 = omega arith in saturate-negsuc n ∙ ap negsuc m

-- ---- its laws, by the order

pub saturate_inside : {z : ℤ} → lower_end ≤ℤ z → z ≤ℤ upper_end → saturate z ≡ z
saturate_inside {z} l u = saturate_same z ((between_ends z).1 (l, u))

pub saturate_above : {z : ℤ} → upper_end <ℤ z → saturate z ≡ upper_end
saturate_above {z = pos n} h = past_upper n (ltb→lt 2147483647 n h.lt)
saturate_above {z = negsuc n} h = absurd h.lt

pub saturate-below : {z : ℤ} → z <ℤ lower_end → saturate z ≡ lower_end
saturate-below {z = pos n} h = absurd h.lt
saturate-below {z = negsuc n} h = past_lower n (ltb→lt 2147483647 n h.lt)

pub saturate_idempotent : (z : ℤ) → saturate (saturate z) ≡ saturate z
saturate_idempotent z = saturate_same (saturate z) (saturate_in z)

held_order : (m n : ℕ) → T (leb m n) → T (leb (min m 2147483647) (min n 2147483647))
held_order m n t = let l : m ≤ n = leb→le m n t in le→leb (min m 2147483647) (min n 2147483647) (omega arith)

pub saturate_monotone : {a b : ℤ} → a ≤ℤ b → saturate a ≤ℤ saturate b
saturate_monotone {a = pos m} {b = pos n} h = rw (saturate-pos m, saturate-pos n) (record { le = held_order m n h.le })
saturate_monotone {a = pos m} {b = negsuc n} h = absurd h.le
saturate_monotone {a = negsuc m} {b = pos n} h = rw (saturate-negsuc m, saturate-pos n) (record { le = tt })
saturate_monotone {a = negsuc m} {b = negsuc n} h = rw (saturate-negsuc m, saturate-negsuc n) (record { le = held_order n m h.le })
