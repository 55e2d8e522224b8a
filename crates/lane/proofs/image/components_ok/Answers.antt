use mathlib.Core.Path.{◌≡◌}
use native.Mathlib.Omega.{arith}
use Rattle.semantics.specs.Plan.{max_components}
use Rattle.lane.proofs.image.components_ok.Goals as goal

pub returns : goal.returns
returns c = let l = c.loop-c in let e : l.c ≡ max_components = omega arith in rw (← e) l.invariant
