use Rattle.plan.proofs.NameLaws.{Gathered}
use Rattle.plan.proofs.names.shared_mask.Given as goal

abbrev pub invariant-loop-c : goal.invariant-loop-c
invariant-loop-c l = Gathered l.plan l.i l.c l.mask
