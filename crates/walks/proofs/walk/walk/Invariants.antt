use mathlib.Core.Path.{◌≡◌}
use mathlib.Core.Bool.{true}
use Rattle.semantics.specs.Move.{oracles_in_range}
use Rattle.layout.specs.Runs.{configuration_in}
use Rattle.walks.proofs.WalkLaws.{AtSoFar}
use Rattle.walks.proofs.walk.walk.Given as goal

-- where the walk is
abbrev pub invariant-loop-k : goal.invariant-loop-k
invariant-loop-k l = AtSoFar l.plan l.v (configuration_in l.initial.run) l.moves (configuration_in l.run) l.k × (oracles_in_range l.plan l.run.oracles ≡ true) × (l.run.marks ≡ l.initial.run.marks)
