use Rattle.plan.proofs.NameLaws.{OwnedBelow}
use Rattle.plan.proofs.names.owned_masks.Given as goal

abbrev pub invariant-loop-v : goal.invariant-loop-v
invariant-loop-v l = OwnedBelow l.plan l.v l.out
