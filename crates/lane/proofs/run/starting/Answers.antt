use native.Mathlib.Omega.{arith}
use Rattle.semantics.specs.Plan.{states_before}
use Rattle.semantics.proofs.AcceptedPlan.{accepted_plan, counts_of_lem}
use Rattle.layout.proofs.Sections.{laid_accepted}
use Rattle.lane.proofs.run.starting.Goals as goal

pub first_oracle_byte-requires : goal.first_oracle_byte-requires
unfolding states_before
first_oracle_byte-requires c =
    let p = c.args.plan.now in
    let h = laid_accepted p c.requires in
    (h, omega (arith, (counts_of_lem p (accepted_plan p c.requires).counts).first<, h.states≤))
