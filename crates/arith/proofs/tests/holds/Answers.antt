use mathlib.Core.Bool.{not}
use mathlib.Core.Path.{ap}
use native.Mathlib.Omega.{arith}
use lib.IntN.{pos}
use Rattle.semantics.specs.Signed.{holds}
use Rattle.arith.proofs.Signed32.{same_bits}
use Rattle.arith.proofs.tests.holds.Goals as goal

pub returns : goal.returns
unfolding holds
returns c = ap not (same_bits c.args.v (pos 0) c.ranges.v.sfits (omega arith))
