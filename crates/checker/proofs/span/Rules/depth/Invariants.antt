use Rattle.checker.specs.Depth.{role_of}
use Rattle.semantics.specs.Code.{depth}
use Rattle.semantics.specs.Bytes.{bit}
use mathlib.Core.Option.{some}
use Prim.Native.Nat.{◌≤◌}
use mathlib.Core.Path.{◌≡◌}
use Rattle.checker.proofs.span.Rules.depth.Given as goal

abbrev pub invariant-loop-i : goal.invariant-loop-i
invariant-loop-i l = (l.d ≤ 8) × (depth l.self.plan.now (role_of l.self.stores l.self.looks) (bit l.self.names) l.start l.i ≡ some l.d)
