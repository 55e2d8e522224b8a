use borrow.Author.Rules.{rules}
use mathlib.Core.Path.{◌≡◌, sym, ap, ◌∙◌}
use mathlib.Core.Bool.{true, not, ◌&&◌}
use Rattle.std.proofs.lemmas.Result.{err_from_is_err_and}
use Rattle.semantics.specs.Bytes.{bit, mask}
use Rattle.semantics.specs.Plan.{interactions}
use Rattle.semantics.specs.Rules.{plan_refusal}
use Rattle.semantics.specs.Move.{enabled}
use Rattle.semantics.specs.Image.{marks_of, configuration_of, head_matches, configuration_ok, marks_ok, image_rules}
use Rattle.semantics.proofs.LawfulImage.{configured}
use Rattle.layout.proofs.Sections.{laid_accepted}
use Rattle.layout.specs.Runs.{state_of, configuration_in}
use Rattle.engine.proofs.MarkLaws.{open_masked}
use Rattle.engine.proofs.Refusals.{plan_refuses, plan_accepts, image_12, image_13, image_14, image-kept}
use Rattle.engine.proofs.reading.read.Goals as goal
use Rattle.engine.proofs.reading.read.Goals.{After-marks_ok, After-without-free, Else-not-configuration_ok, Else-not-head_matches, In_ok-checked, Start}

-- what the image holds is what is lent
held_is : (c : Start) → configuration_in c.args.run.now ≡ configuration_of c.args.image.now
held_is c = c.requires.image_holds.0

-- the plan's refusals are passed, then 12, 13
accepted : (c : In_ok-checked) → plan_refusal c.args.plan.now ≡ 0
accepted c = plan_accepts c.args.plan.now c.args.checked _ c.requires.checked_value c.in_ok-checked.was

matches : (c : Else-not-head_matches) → head_matches c.args.plan.now c.args.image.now ≡ true
matches c = sym c.head_matches.ensures ∙ c.if-not-head_matches.false

fits : (c : Else-not-configuration_ok) → configuration_ok c.args.plan.now (configuration_in c.args.run.now) ≡ true
fits c = sym c.configuration_ok.ensures ∙ c.if-not-configuration_ok.false

fits_image : (c : Else-not-configuration_ok) → configuration_ok c.args.plan.now (configuration_of c.args.image.now) ≡ true
fits_image c = ap (configuration_ok c.args.plan.now) (sym (held_is (goal.at.Else-not-configuration_ok c).Start)) ∙ fits c

-- the enabled interactions that are not marked
free_are : (c : After-without-free) → c.without-free.result ≡ mask (interactions c.args.plan.now) (λ j. enabled c.args.plan.now (state_of c.args.run.now.state) j && not (bit c.args.run.now.marks j))
free_are c =
    open_masked c.args.plan.now (state_of c.args.run.now.state) c.args.run.now.marks _ c.without-free.result c.enabled_mask-enabled.ensures.0 c.without-free.ensures.0 c.without-free.ensures.1

-- whether the marks are kept, said of the image's
marks_are : (c : After-marks_ok) → c.marks_ok.result ≡ marks_ok c.args.plan.now (configuration_of c.args.image.now) (marks_of c.args.image.now)
marks_are c = rw (← held_is (goal.at.After-marks_ok c).Start, ← c.requires.image_holds.1) c.marks_ok.ensures

pub returns-in_err-checked-clause-refusal_value : goal.returns-in_err-checked-clause-refusal_value
returns-in_err-checked-clause-refusal_value c =
    let a = c.args in
    let (_, is, from) = err_from_is_err_and c.from_residual.result c.from_residual.ensures.1 in
    rw (is, from) (plan_refuses a.plan.now (image_rules a.plan.now a.image.now) a.checked _ c.requires.checked_value c.in_err-checked.was)

pub returns-then-not-head_matches-clause-refusal_value : goal.returns-then-not-head_matches-clause-refusal_value
returns-then-not-head_matches-clause-refusal_value c =
    let w = goal.at.returns-then-not-head_matches-clause-refusal_value c in
    sym (image_12 c.args.plan.now c.args.image.now (accepted w.In_ok-checked) (search rules) (sym c.head_matches.ensures ∙ c.if-not-head_matches.true))

pub returns-then-not-configuration_ok-clause-refusal_value : goal.returns-then-not-configuration_ok-clause-refusal_value
returns-then-not-configuration_ok-clause-refusal_value c =
    let w = goal.at.returns-then-not-configuration_ok-clause-refusal_value c in
    let p = c.args.plan.now in
    sym (image_13 p c.args.image.now (accepted w.In_ok-checked) (search rules) (matches w.Else-not-head_matches)
    (ap (configuration_ok p) (sym (held_is w.Start)) ∙ sym c.configuration_ok.ensures ∙ c.if-not-configuration_ok.true))

pub choose-requires-clause-out_value : goal.choose-requires-clause-out_value
choose-requires-clause-out_value c =
    c.requires.chosen_value (laid_accepted _ (accepted (goal.at.choose-requires-clause-out_value c).In_ok-checked)).long

pub marks_ok-requires-clause-oracles_value : goal.marks_ok-requires-clause-oracles_value
marks_ok-requires-clause-oracles_value c =
    let w = goal.at.marks_ok-requires-clause-oracles_value c in
    ((configured c.args.plan.now _ (fits w.Else-not-configuration_ok)).in_range, c.enabled_mask-enabled.ensures.0)

pub marks_ok-requires-clause-free_value : goal.marks_ok-requires-clause-free_value
marks_ok-requires-clause-free_value c = free_are (goal.at.marks_ok-requires-clause-free_value c).After-without-free

pub returns-then-not-marks_ok-clause-refusal_value : goal.returns-then-not-marks_ok-clause-refusal_value
returns-then-not-marks_ok-clause-refusal_value c =
    let w = goal.at.returns-then-not-marks_ok-clause-refusal_value c in
    sym (image_14 c.args.plan.now c.args.image.now (accepted w.In_ok-checked) (search rules) (matches w.Else-not-head_matches) (fits_image w.Else-not-configuration_ok)
    (sym (marks_are w.After-marks_ok) ∙ c.if-not-marks_ok.true))

pub returns-clause-refusal_value : goal.returns-clause-refusal_value
returns-clause-refusal_value c =
    let w = goal.at.returns-clause-refusal_value c in
    sym (image-kept c.args.plan.now c.args.image.now (accepted w.In_ok-checked) (search rules) (matches w.Else-not-head_matches) (fits_image w.Else-not-configuration_ok)
    (sym (marks_are w.After-marks_ok) ∙ c.if-not-marks_ok.false))

pub returns-clause-known : goal.returns-clause-known
returns-clause-known c =
    record { enabled_is = c.enabled_mask-enabled.ensures.0; free_is = free_are (goal.at.returns-clause-known c).After-without-free }
