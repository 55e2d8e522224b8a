use Rattle.words.proofs.Gather.{passed}
use Rattle.semantics.specs.Bytes.{bit}
use Rattle.semantics.specs.Plan.{interactions}
use Rattle.ranks.specs.Standing.{stands}
use Prim.Native.Nat.{ℕ, ◌≤◌}
use mathlib.Core.Bool.{true}
use mathlib.Core.Path.{◌≡◌}
use Rattle.ranks.proofs.among.standing_mask.Given as goal

abbrev pub invariant-loop-left : goal.invariant-loop-left
invariant-loop-left l = (l.left ≤ l.moves) × ((j : ℕ) → bit l.left j ≡ true → bit l.moves j ≡ true) × (l.out ≡ passed (interactions l.plan) (stands l.plan l.moves) l.left)

abbrev pub decreases-loop-left : goal.decreases-loop-left
decreases-loop-left l = l.left
