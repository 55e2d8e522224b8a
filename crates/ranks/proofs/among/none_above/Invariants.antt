use Prim.Native.Nat.{ℕ}
use mathlib.Core.Bool.{Bool, not, ◌&&◌}
use Rattle.semantics.specs.Bytes.{bit, some_below}
use Rattle.semantics.specs.Plan.{Plan, interactions, below}
use Rattle.words.proofs.MaskWalk.{Walk}
use Rattle.ranks.proofs.among.none_above.Given as goal

-- none of the mask lies above number i
abbrev pub free : Plan → ℕ → ℕ → Bool
free p m i = not (some_below (interactions p) (λ j. below p i j && bit m j))

abbrev pub invariant-loop-left : goal.invariant-loop-left
invariant-loop-left l = Walk l.marked (free l.plan l.moves) l.left

abbrev pub decreases-loop-left : goal.decreases-loop-left
decreases-loop-left l = l.left
