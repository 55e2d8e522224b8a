use mathlib.Core.Path.{refl}
use Rattle.words.proofs.Loops.{filled}
use Rattle.semantics.specs.Bytes.{table}
use Rattle.tables.proofs.records.port_limits.Goals as goal

pub loop-c-init : goal.loop-c-init
unfolding filled table
loop-c-init c = refl
