-- Signed 32-bit numbers: what 32 bits denote, how they are written, and the arithmetic of code words.
use Rattle.std.specs.Prelude.{ℕ, suc, ◌-◌, ◌%◌, Bool, false, not, cond, ltb, eqb, ℤ, pos, negsuc, ◌+ℤ◌, ◌-ℤ◌, ◌*ℤ◌}
use Rattle.std.specs.Int.Signed.{lt_z, le_z}

-- The number that 32 bits denote in two's complement.
unfoldable pub signed : ℕ → ℤ
signed u = cond (ltb u 2147483648) (pos u) (negsuc (4294967296 - suc u))

-- The 32 bits that store z: z modulo 2 ^ 32.
unfoldable pub residue : ℤ → ℕ
residue (pos n) = n % 4294967296
residue (negsuc n) = 4294967295 - n % 4294967296

-- The ends of signed 32 bits, -2147483648 and 2147483647: `negsuc n` is -(n + 1).
abbrev pub lower_end : ℤ
lower_end = negsuc 2147483647

abbrev pub upper_end : ℤ
upper_end = pos 2147483647

-- 02, job 2: "Add, subtract and code word kind 1 now stop at the ends of signed 32 bits instead of wrapping." The field's word is saturation.
unfoldable pub saturate : ℤ → ℤ
saturate z = cond (lt_z z lower_end) lower_end (cond (lt_z upper_end z) upper_end z)

-- Operator 0.
unfoldable pub add : ℤ → ℤ → ℤ
add a b = saturate (a +ℤ b)

-- Operator 1.
unfoldable pub subtract : ℤ → ℤ → ℤ
subtract a b = saturate (a -ℤ b)

-- Kind 1: "replaces the top by top times 4096 plus operand"; "the exact product plus operand is held once, at the end" (02, job 2).
unfoldable pub extend : ℤ → ℕ → ℤ
extend top n = saturate (top *ℤ pos 4096 +ℤ pos n)

unfoldable pub equal_z : ℤ → ℤ → Bool
equal_z (pos a) (pos b) = eqb a b
equal_z (pos a) (negsuc b) = false
equal_z (negsuc a) (pos b) = false
equal_z (negsuc a) (negsuc b) = eqb a b

-- a is at least b.
unfoldable pub at_least : ℤ → ℤ → Bool
at_least a b = le_z b a

-- 01, Code words: "Truth is any number but zero".
unfoldable pub holds : ℤ → Bool
holds z = not (equal_z z (pos 0))

-- 01, Code words: "tests push 0 or 1".
unfoldable pub truth : Bool → ℤ
truth b = cond b (pos 1) (pos 0)
