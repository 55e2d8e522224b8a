use mathlib.Core.Path.{ap, ◌∙◌}
use Rattle.semantics.specs.Calls.{Answer}
use Rattle.semantics.specs.Log.{log_index}
use Rattle.yard.proofs.yard_log_index.Goals as goal

pub returns : goal.returns
unfolding log_index
returns c = c.index.ensures ∙ ap (λ (a : Answer). a.bits) c.check_log.ensures
