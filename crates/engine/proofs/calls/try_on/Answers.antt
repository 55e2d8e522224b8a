use mathlib.Core.Path.{◌≡◌, sym, ap, ◌∙◌}
use mathlib.Core.Bool.{true, false, ◌&&◌}
use Prim.Native.Nat.{ℕ, ◌≤◌, ◌<◌}
use native.Mathlib.Omega.{arith}
use Rattle.semantics.specs.Bytes.{some_below, bit, with_bit}
use Rattle.semantics.specs.Plan.{interactions, below}
use Rattle.semantics.specs.Image.{with_marks}
use Rattle.choices.proofs.ChoiceLaws.{table_in}
use Rattle.engine.proofs.CallLaws.{parts}
use Rattle.engine.proofs.ReadLaws.{Read, answer_on, lawful, in_range, ends_outside, ends_disabled, enabled_in_run, ends_outranked, ends_marked, ends_committed, ends_cancelled}
use Rattle.engine.proofs.calls.try_on.Goals as goal
use Rattle.engine.proofs.calls.try_on.Goals.{Else-bit, Else-is_outranked, Else-n-interactions, Else-not-bit, In_ok-lane}

read : (c : In_ok-lane) → Read c.args.plan.now c.args.image.now c.load-run.result c.in_ok-lane.lane
read c = record { none_is = c.in_ok-lane.ensures.refusal_value; run_is = c.load-run.ensures; known = c.in_ok-lane.ensures.known }

inside : (c : Else-n-interactions) → c.args.i < interactions c.args.plan.now
inside c = omega (arith, c.interactions.ensures.0, c.if-n-interactions.false)

-- past 17
able : (c : Else-not-bit) → bit c.in_ok-lane.lane.enabled c.args.i ≡ true
able c = sym c.bit.ensures ∙ c.if-not-bit.false

-- past 18
top : (c : Else-is_outranked) → let p = c.args.plan.now in some_below (interactions p) (λ j. below p c.args.i j && bit c.in_ok-lane.lane.free j) ≡ false
top c = sym c.is_outranked.ensures ∙ c.if-is_outranked.false

unmarked : (c : Else-bit) → bit c.load-run.result.marks c.args.i ≡ false
unmarked c = sym c.bit-2.ensures ∙ c.if-bit.false

pub returns-in_err-lane : goal.returns-in_err-lane
returns-in_err-lane c = answer_on _ _ _ _ _ c.from_residual.ensures.1 c.in_err-lane.ensures.refusal_value

pub returns-then-n-interactions : goal.returns-then-n-interactions
returns-then-n-interactions c =
    let l : interactions c.args.plan.now ≤ c.args.i = omega (arith, c.interactions.ensures.0, c.if-n-interactions.true) in
    parts (ends_outside (read (goal.at.returns-then-n-interactions c).In_ok-lane) c.args.i l)

pub returns-then-not-bit : goal.returns-then-not-bit
returns-then-not-bit c =
    let w = goal.at.returns-then-not-bit c in
    parts (ends_disabled (read w.In_ok-lane) c.args.i (inside w.Else-n-interactions) (sym c.bit.ensures ∙ c.if-not-bit.true))

pub returns-then-is_outranked : goal.returns-then-is_outranked
returns-then-is_outranked c =
    let w = goal.at.returns-then-is_outranked c in
    parts (ends_outranked (read w.In_ok-lane) c.args.i (inside w.Else-n-interactions) (able w.Else-not-bit) (sym c.is_outranked.ensures ∙ c.if-is_outranked.true))

pub returns-then-bit : goal.returns-then-bit
returns-then-bit c =
    let w = goal.at.returns-then-bit c in
    parts (ends_marked (read w.In_ok-lane) c.args.i (inside w.Else-n-interactions) (able w.Else-not-bit) (top w.Else-is_outranked) (sym c.bit-2.ensures ∙ c.if-bit.true))

pub after-requires-clause-i_bound : goal.after-requires-clause-i_bound
after-requires-clause-i_bound c =
    let w = goal.at.after-requires-clause-i_bound c in
    let r = read w.In_ok-lane in
    let l = inside w.Else-n-interactions in
    (l, table_in _ _ _ (lawful r).plan_accepted l _ c.in_ok-lane.ensures.chosen_after, enabled_in_run r c.args.i l (able w.Else-not-bit))

pub after-requires-clause-oracles_value : goal.after-requires-clause-oracles_value
after-requires-clause-oracles_value c =
    in_range (read (goal.at.after-requires-clause-oracles_value c).In_ok-lane)

pub returns-then-good : goal.returns-then-good
returns-then-good c =
    let w = goal.at.returns-then-good c in
    let e = parts (ends_committed (read w.In_ok-lane) c.args.i (inside w.Else-n-interactions) (able w.Else-not-bit) (top w.Else-is_outranked) (unmarked w.Else-bit) _ c.after.ensures.run_after.0
    (sym c.good.ensures ∙ c.if-good.true)) in
    (e.0, c.store.ensures ∙ e.1)

pub returns : goal.returns
returns c =
    let w = goal.at.returns c in
    let e = parts (ends_cancelled (read w.In_ok-lane) c.args.i (inside w.Else-n-interactions) (able w.Else-not-bit) (top w.Else-is_outranked) (unmarked w.Else-bit) _ c.after.ensures.run_after.0
    (sym c.good.ensures ∙ c.if-good.false)) in
    (e.0, c.put_marks.ensures ∙ ap (with_marks c.args.image.now) (c.with_bit.ensures ∙ ap (λ (m : ℕ). with_bit m c.args.i) c.after.ensures.marks_kept) ∙ e.1)
