use mathlib.Core.Path.{◌≡◌}
use Prim.Native.Nat.{ℕ, ◌≤◌}
use mathlib.Core.Bool.{true}
use Rattle.semantics.specs.Bytes.{bit}
use Rattle.semantics.specs.Plan.{interactions}
use Rattle.words.proofs.Gather.{passed}
use Rattle.ranks.proofs.ClimbLaws.{beside}
use Rattle.ranks.proofs.among.lower_beside.Given as goal

abbrev pub invariant-loop-left : goal.invariant-loop-left
invariant-loop-left l = (l.left ≤ l.moves) × ((j : ℕ) → bit l.left j ≡ true → bit l.initial.left j ≡ true) × (l.out ≡ passed (interactions l.plan) (beside l.plan l.moves l.n) l.left)

abbrev pub decreases-loop-left : goal.decreases-loop-left
decreases-loop-left l = l.left
