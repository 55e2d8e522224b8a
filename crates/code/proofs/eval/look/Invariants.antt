use mathlib.Core.Path.{◌≡◌}
use Rattle.semantics.specs.Code.{site, ran}
use Rattle.code.specs.Held.{machine}
use Rattle.code.proofs.eval.look.Given as goal

abbrev pub invariant-loop-i : goal.invariant-loop-i
invariant-loop-i l = machine l.stack l.state.values ≡ ran l.plan (site l.state.locations l.state.last_ports l.state.values) l.start l.i
