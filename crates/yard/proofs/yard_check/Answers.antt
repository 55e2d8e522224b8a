use mathlib.Core.Path.{ap, ◌∙◌}
use Rattle.semantics.specs.Calls.{packed}
use Rattle.yard.proofs.Packing.{and_accepted, check_said}
use Rattle.yard.proofs.yard_check.Goals as goal

pub returns : goal.returns
returns c = c.packed.ensures.0 ∙ ap packed (rw c.and.ensures (and_accepted c.check.result ∙ check_said _ c.check.result c.check.ensures))
