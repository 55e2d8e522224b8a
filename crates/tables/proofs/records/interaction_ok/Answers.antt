use mathlib.Core.Path.{refl}
use Rattle.semantics.specs.Bytes.{every, some_below}
use Rattle.tables.proofs.records.interaction_ok.Goals as goal

pub loop-c-init : goal.loop-c-init
unfolding every some_below
loop-c-init c = (refl, refl)
