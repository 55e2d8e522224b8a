use Rattle.words.proofs.BitLaws.{meets_test}
use native.Mathlib.Omega.{arith}
use Rattle.words.proofs.bits.meets.Goals as goal

pub returns : goal.returns
returns c = meets_test 64 _ _ (omega arith)
