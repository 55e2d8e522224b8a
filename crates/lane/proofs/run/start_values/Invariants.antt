use mathlib.Core.Path.{◌≡◌}
use lib.IntN.{pos}
use Rattle.semantics.specs.Plan.{max_variables, start_value}
use Rattle.words.proofs.Loops.{filled}
use Rattle.lane.proofs.run.start_values.Given as goal

abbrev pub invariant-loop-v : goal.invariant-loop-v
invariant-loop-v l = (l.out ≡ filled max_variables (start_value l.plan) (pos 0) l.v)
