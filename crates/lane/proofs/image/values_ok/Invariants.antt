use mathlib.Core.Path.{◌≡◌}
use Rattle.semantics.specs.Code.{valued}
use Rattle.semantics.specs.Image.{value_ok}
use Rattle.semantics.specs.Bytes.{every}
use Rattle.lane.proofs.image.values_ok.Given as goal

abbrev pub invariant-loop-v : goal.invariant-loop-v
invariant-loop-v l = (l.ok ≡ every l.v (value_ok l.plan (valued l.values)))
