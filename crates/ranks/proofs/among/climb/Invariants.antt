use Rattle.ranks.proofs.ClimbLaws.{Climb}
use Rattle.ranks.proofs.among.climb.Given as goal

abbrev pub invariant-loop-above : goal.invariant-loop-above
invariant-loop-above l = Climb l.plan l.moves l.path l.i l.n l.steps l.above

abbrev pub decreases-loop-above : goal.decreases-loop-above
decreases-loop-above l = l.above
