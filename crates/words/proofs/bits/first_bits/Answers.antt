use Rattle.words.proofs.BitLaws.{one_shl, bit_ones}
use native.Mathlib.Omega.{arith}
use Prim.Native.Nat.{◌<◌}
use Rattle.words.proofs.bits.first_bits.Goals as goal

pub returns-then-n-eq64 : goal.returns-then-n-eq64
returns-then-n-eq64 c = λ j. rw c.if-n-eq64.true (bit_ones 64 j)

pub returns : goal.returns
returns c = λ j. let h : c.args.n < 64 = omega arith in rw (one_shl 64 c.args.n h) (bit_ones c.args.n j)
