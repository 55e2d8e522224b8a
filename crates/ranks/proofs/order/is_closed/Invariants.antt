use Rattle.ranks.proofs.RankWalk.{Left}
use Rattle.ranks.proofs.order.is_closed.Given as goal

abbrev pub invariant-loop-left : goal.invariant-loop-left
invariant-loop-left l = Left l.plan l.row l.left

abbrev pub decreases-loop-left : goal.decreases-loop-left
decreases-loop-left l = l.left
