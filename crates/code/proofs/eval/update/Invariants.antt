use mathlib.Core.Path.{◌≡◌}
use Rattle.semantics.specs.Code.{State, ran}
use Rattle.code.specs.Held.{machine}
use Rattle.code.proofs.eval.update.Given as goal

abbrev pub invariant-loop-i : goal.invariant-loop-i
invariant-loop-i l = (s : State) → s.values ≡ l.initial.values → machine l.stack l.values ≡ ran l.plan s l.start l.i
