use mathlib.Core.Path.{◌≡◌}
use Rattle.semantics.specs.Plan.{max_components, start_location}
use Rattle.words.proofs.Loops.{filled}
use Rattle.lane.proofs.run.start_locations.Given as goal

abbrev pub invariant-loop-c : goal.invariant-loop-c
invariant-loop-c l = (l.out ≡ filled max_components (start_location l.plan) 0 l.c)
