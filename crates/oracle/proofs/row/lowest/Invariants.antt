use mathlib.Core.Path.{◌≡◌}
use Prim.Native.Nat.{◌+◌}
use Rattle.semantics.specs.Move.{lowest_verdict}
use Rattle.oracle.proofs.row.lowest.Given as goal

abbrev pub invariant-loop-n : goal.invariant-loop-n
invariant-loop-n l = (l.table.plan.now ≡ l.plan) × (l.table.n + 1 ≡ l.n) × (l.out ≡ lowest_verdict l.plan l.states l.table.n)
