use mathlib.Core.Path.{◌≡◌, sym, ap₂, ◌∙◌}
use Rattle.semantics.specs.Rules.{plan_refusal}
use Rattle.semantics.specs.Move.{good, initial}
use Rattle.semantics.specs.Image.{image}
use Rattle.semantics.specs.Calls.{start}
use Rattle.moves.proofs.SearchLaws.{ends_good}
use Rattle.engine.specs.Answers.{answered}
use Rattle.engine.proofs.CallLaws.{parts}
use Rattle.engine.proofs.Refusals.{start_refuses, plan_accepts, start_11, start_15, start-accepted}
use Rattle.engine.proofs.ReadLaws.{passed_on}
use Rattle.engine.proofs.calls.start_from.Goals as goal
use Rattle.engine.proofs.calls.start_from.Goals.{After-good, In_ok-checked}

accepted : (c : In_ok-checked) → plan_refusal c.args.plan.now ≡ 0
accepted c = plan_accepts c.args.plan.now c.args.checked _ c.requires c.in_ok-checked.was

good_is : (c : After-good) → c.good.result ≡ good c.args.plan.now (initial c.args.plan.now)
good_is c = let p = c.args.plan.now in c.good.ensures ∙ ends_good p _ (initial p) c.initial-run.ensures.0

pub returns-in_err-checked : goal.returns-in_err-checked
returns-in_err-checked c =
    let a = c.args in
    passed_on answered (start a.plan.now a.image.now) a.image.now _ c.from_residual.result c.from_residual.ensures.1
    (start_refuses a.plan.now a.image.now a.checked _ c.requires c.in_err-checked.was)

pub returns-in_default : goal.returns-in_default
returns-in_default c =
    parts (start_11 c.args.plan.now c.args.image.now (accepted (goal.at.returns-in_default c).In_ok-checked) c.in_default.ensures.cases)

pub returns-then-not-good : goal.returns-then-not-good
returns-then-not-good c =
    let w = goal.at.returns-then-not-good c in
    let lent = c.in-Some.ensures.cases in
    let e = parts (start_15 c.args.plan.now c.args.image.now (accepted w.In_ok-checked) lent.long (sym (good_is w.After-good) ∙ c.if-not-good.true)) in
    (e.0, lent.same ∙ e.1)

pub returns : goal.returns
returns c =
    let w = goal.at.returns c in
    let p = c.args.plan.now in
    let s = c.initial-run.ensures in
    let e = parts (start-accepted p c.args.image.now (accepted w.In_ok-checked) c.in-Some.ensures.cases.long (sym (good_is w.After-good) ∙ c.if-not-good.false)) in
    (e.0, c.store.ensures ∙ ap₂ (image p) s.0 s.1 ∙ e.1)
