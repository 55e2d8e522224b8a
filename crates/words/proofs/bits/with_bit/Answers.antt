use Rattle.words.proofs.BitLaws.{or_one}
use Rattle.semantics.specs.Bytes.{with_bit}
use native.Mathlib.Omega.{arith}
use Rattle.words.proofs.bits.with_bit.Goals as goal

pub returns : goal.returns
unfolding with_bit
returns c = or_one 64 _ _ (omega arith) c.requires
