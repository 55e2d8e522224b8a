use Rattle.words.proofs.BitLaws.{inside_test}
use native.Mathlib.Omega.{arith}
use Rattle.words.proofs.bits.inside.Goals as goal

pub returns : goal.returns
returns c = inside_test 64 _ _ (omega arith) (omega arith)
