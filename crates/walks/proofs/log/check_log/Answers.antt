use mathlib.Core.Path.{◌≡◌, sym, ap, ap₂, ◌∙◌}
use Prim.Native.Nat.{◌%◌}
use native.Mathlib.Nat.{zero-add}
use lib.Bits.{and_mask}
use lib.ListN.{length}
use Rattle.std.proofs.lemmas.Result.{err_from_is_err_and}
use Rattle.semantics.specs.Rules.{plan_refusal}
use Rattle.semantics.specs.Move.{Configuration, good, initial}
use Rattle.semantics.specs.Bytes.{entries}
use Rattle.semantics.specs.Log.{wrong, walked, check_log}
use Rattle.semantics.proofs.Basics.{eqb-true, eqb-false}
use Rattle.plan.proofs.Numbering.{above_0}
use Rattle.layout.specs.Runs.{configuration_in}
use Rattle.moves.proofs.SearchLaws.{ends_good}
use Rattle.walks.specs.Steps.{log_answer}
use Rattle.walks.proofs.LogLaws.{log_plan, log_21, log_15, log-walked}
use Rattle.walks.proofs.WalkLaws.{walked_whole, walked_short}
use Rattle.walks.proofs.log.check_log.Goals as goal
use Rattle.walks.proofs.log.check_log.Goals.{After-good, After-initial-run, After-walk, In_ok-check, Else-log-ne0}

accepted : (c : In_ok-check) → plan_refusal c.args.plan.now ≡ 0
accepted c = sym c.in_ok-check.ensures

even : (c : Else-log-ne0) → length c.args.log.now % 2 ≡ 0
even c = sym (and_mask (length c.args.log.now) 1) ∙ c.if-log-ne0.false

-- the starting configuration, its event read
made : (c : After-initial-run) → configuration_in c.initial-run.result ≡ initial c.args.plan.now
made c = c.initial-run.ensures.0

good_is : (c : After-good) → c.good.result ≡ good c.args.plan.now (initial c.args.plan.now)
good_is c = c.good.ensures ∙ ends_good _ _ _ (made (goal.at.After-good c).After-initial-run)

-- past the numbers the answer is that of the walk
checked : (c : After-walk) → check_log c.args.plan.now c.args.log.now ≡ walked c.args.plan.now (configuration_in c.initial-run.result) 0 (entries c.args.log.now)
checked c =
    let at = goal.at.After-walk c in
    log-walked c.args.plan.now c.args.log.now (accepted at.In_ok-check) (even at.Else-log-ne0) (sym (good_is at.After-good) ∙ c.if-not-good.false)
    ∙ ap (λ (x : Configuration). walked c.args.plan.now x 0 (entries c.args.log.now)) (sym (made at.After-initial-run))

pub returns-in_err-check : goal.returns-in_err-check
unfolding log_answer
returns-in_err-check c =
    let (_, is, from) = err_from_is_err_and c.from_residual.result c.from_residual.ensures.1 in
    rw (is, from) (sym (log_plan c.args.plan.now c.args.log.now _ c.in_err-check.ensures (above_0 c.in_err-check.field-0.0)))

pub returns-then-log-ne0 : goal.returns-then-log-ne0
unfolding log_answer
returns-then-log-ne0 c =
    sym (log_21 _ c.args.log.now (accepted (goal.at.returns-then-log-ne0 c).In_ok-check) (λ z. c.if-log-ne0.true (and_mask (length c.args.log.now) 1 ∙ z)))

pub initial-run-requires : goal.initial-run-requires
initial-run-requires c = accepted (goal.at.initial-run-requires c).In_ok-check

pub returns-then-not-good : goal.returns-then-not-good
unfolding log_answer
returns-then-not-good c =
    let at = goal.at.returns-then-not-good c in
    sym (log_15 _ c.args.log.now (accepted at.In_ok-check) (even at.Else-log-ne0) (sym (good_is at.After-good) ∙ c.if-not-good.true))

pub returns-in_err-walk : goal.returns-in_err-walk
unfolding log_answer
returns-in_err-walk c =
    let (_, is, from) = err_from_is_err_and c.from_residual-in_err-walk.result c.from_residual-in_err-walk.ensures.1 in
    let (short, index, cause) = c.in_err-walk.ensures.index_value in
    rw (is, from)
    (ap₂ wrong cause (index ∙ sym (zero-add _)) ∙ sym (checked (goal.at.returns-in_err-walk c).After-walk ∙ walked_short _ _ 0 _ (eqb-false _ _ (sym short))))

pub returns : goal.returns
unfolding log_answer
returns c = sym (checked (goal.at.returns c).After-walk ∙ walked_whole _ _ 0 _ (eqb-true _ _ (sym c.in_ok-walk.ensures.index_value.0)))
