use mathlib.Core.Path.{◌≡◌}
use Rattle.semantics.specs.Rules.{port_ok}
use Rattle.semantics.specs.Plan.{takes_part}
use Rattle.semantics.specs.Bytes.{every, some_below}
use Rattle.tables.proofs.records.interaction_ok.Given as goal

abbrev pub invariant-loop-c : goal.invariant-loop-c
invariant-loop-c l = (l.good ≡ every l.c (port_ok l.plan l.i)) × (l.any ≡ some_below l.c (takes_part l.plan l.i))
