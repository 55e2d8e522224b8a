use mathlib.Core.Path.{ap, ◌∙◌}
use Rattle.semantics.specs.Move.{Configuration}
use Rattle.semantics.specs.Image.{image}
use Rattle.engine.proofs.CallLaws.{parts}
use Rattle.engine.proofs.ReadLaws.{Read, answer_on, in_range, open_low, open_move, closed-move, ends_settled, ends_stalled, ends_penned}
use Rattle.engine.proofs.calls.settle_on.Goals as goal
use Rattle.engine.proofs.calls.settle_on.Goals.{In_ok-lane}

read : (c : In_ok-lane) → Read c.args.plan.now c.args.image.now c.load-run.result c.in_ok-lane.lane
read c = record { none_is = c.in_ok-lane.ensures.refusal_value; run_is = c.load-run.ensures; known = c.in_ok-lane.ensures.known }

pub returns-in_err-lane : goal.returns-in_err-lane
returns-in_err-lane c = answer_on _ _ _ _ _ c.from_residual.ensures.1 c.in_err-lane.ensures.refusal_value

pub safe_move-requires-clause-chosen_value : goal.safe_move-requires-clause-chosen_value
safe_move-requires-clause-chosen_value c =
    (c.in_ok-lane.ensures.chosen_after, in_range (read (goal.at.safe_move-requires-clause-chosen_value c).In_ok-lane))

pub safe_move-requires-clause-moves_bound : goal.safe_move-requires-clause-moves_bound
safe_move-requires-clause-moves_bound c =
    let r = read (goal.at.safe_move-requires-clause-moves_bound c).In_ok-lane in (open_low r, open_move r)

pub safe_move-requires-clause-by_index : goal.safe_move-requires-clause-by_index
safe_move-requires-clause-by_index c = closed-move (read (goal.at.safe_move-requires-clause-by_index c).In_ok-lane)

pub returns-in-Some : goal.returns-in-Some
returns-in-Some c =
    let (is, low, moved) = c.in-Some.ensures.number_value in
    let e = parts (ends_settled (read (goal.at.returns-in-Some c).In_ok-lane) c.in-Some.n is low) in
    (e.0, c.store.ensures ∙ ap (λ (x : Configuration). image c.args.plan.now x 0) moved ∙ e.1)

pub returns-then-lane-eq0 : goal.returns-then-lane-eq0
returns-then-lane-eq0 c =
    parts (ends_stalled (read (goal.at.returns-then-lane-eq0 c).In_ok-lane) c.in_default.ensures.number_value c.if-lane-eq0.true)

pub returns : goal.returns
returns c =
    let e = parts (ends_penned (read (goal.at.returns c).In_ok-lane) c.in_default.ensures.number_value c.if-lane-eq0.false) in
    (e.0, c.put_marks.ensures ∙ e.1)
