use mathlib.Core.Path.{◌≡◌}
use Rattle.semantics.specs.Plan.{max_components, ports}
use Rattle.words.proofs.Loops.{filled}
use Rattle.tables.proofs.records.port_limits.Given as goal

abbrev pub invariant-loop-c : goal.invariant-loop-c
invariant-loop-c l = l.limits ≡ filled max_components (ports l.plan) 0 l.c
