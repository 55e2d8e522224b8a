use mathlib.Core.Path.{◌≡◌, sym, ap, ◌∙◌}
use native.Mathlib.Omega.{arith}
use mathlib.Core.Bool.{false}
use lib.ListN.{length}
use Rattle.std.proofs.lemmas.Result.{err_from_is_err_and}
use Rattle.semantics.specs.Rules.{plan_refusal}
use Rattle.plan.proofs.Numbering.{above_0}
use Rattle.roster.specs.Turn.{turned_away, served}
use Rattle.roster.specs.Scan.{bad_roster}
use Rattle.roster.specs.Served.{turn_answer}
use Rattle.roster.proofs.ServeLaws.{turn_plan, turn_bad, turn_none, turn_past, turn_served, fits}
use Rattle.roster.proofs.serve.serve.Goals as goal
use Rattle.roster.proofs.serve.serve.Goals.{Else-is_bad, In_ok-check}

accepted : (c : In_ok-check) → plan_refusal c.args.plan.now ≡ 0
accepted c = sym c.in_ok-check.ensures

good : (c : Else-is_bad) → bad_roster (length c.args.images.now) c.args.scan c.args.lanes ≡ false
good c = sym c.is_bad.ensures ∙ c.if-is_bad.false

pub returns-in_err-check : goal.returns-in_err-check
unfolding turn_answer
returns-in_err-check c =
    let (_, is, from) = err_from_is_err_and c.from_residual.result c.from_residual.ensures.1 in
    let n = c.in_err-check.ensures in
    let t = turn_plan c.args.plan.now c.args.images.now c.args.scan c.args.lanes (λ z. above_0 c.in_err-check.field-0.0 (n ∙ z)) in
    rw (is, from) (ap turned_away n ∙ t.0, t.1)

pub returns-then-is_bad : goal.returns-then-is_bad
unfolding turn_answer
returns-then-is_bad c = turn_bad _ _ _ _ (accepted (goal.at.returns-then-is_bad c).In_ok-check) (sym c.is_bad.ensures ∙ c.if-is_bad.true)

pub returns-in_default : goal.returns-in_default
unfolding turn_answer
returns-in_default c =
    let at = goal.at.returns-in_default c in
    turn_none _ _ _ _ (accepted at.In_ok-check) (good at.Else-is_bad) c.in_default.is

pub returns-then-lane-lanes : goal.returns-then-lane-lanes
unfolding turn_answer
returns-then-lane-lanes c =
    let at = goal.at.returns-then-lane-lanes c in
    turn_past _ _ _ _ (accepted at.In_ok-check) (good at.Else-is_bad) _ c.in-Some.is (omega (arith, c.from-lane.ensures, c.if-lane-lanes.true))

pub settle_part-answer-requires-clause-lane_in_bounds : goal.settle_part-answer-requires-clause-lane_in_bounds
settle_part-answer-requires-clause-lane_in_bounds c =
    let h = fits _ _ _ (good (goal.at.settle_part-answer-requires-clause-lane_in_bounds c).Else-is_bad) in
    let bytes = h.bytes in
    let l = c.if-lane-lanes.false in
    omega (arith, bytes, l)

pub returns : goal.returns
unfolding turn_answer
returns c =
    let at = goal.at.returns c in
    let s = c.settle_part-answer.ensures in
    let t = turn_served _ _ _ _ (accepted at.In_ok-check) (good at.Else-is_bad) _ c.in-Some.is (omega (arith, c.from-lane.ensures, c.if-lane-lanes.false)) in
    rw (sym t.0, sym t.1) (rw (sym c.from-lane.ensures) (ap (served c.from-lane.result) s.value, s.images_after))
