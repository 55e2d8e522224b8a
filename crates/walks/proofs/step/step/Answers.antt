use mathlib.Core.Path.{◌≡◌, sym, ap, ◌∙◌}
use mathlib.Core.Bool.{true, ◌&&◌}
use Prim.Native.Nat.{ℕ, ◌<◌}
use native.Mathlib.Omega.{arith}
use Rattle.semantics.specs.Bytes.{bit, mask}
use Rattle.semantics.specs.Plan.{interactions}
use Rattle.semantics.specs.Move.{Configuration, enabled}
use Rattle.semantics.specs.Log.{cause_from}
use Rattle.semantics.proofs.LogWalk.{cause_high, cause_disabled, cause_above, cause-none}
use Rattle.layout.proofs.Sections.{laid_accepted}
use Rattle.layout.specs.Runs.{state_of, configuration_in}
use Rattle.choices.proofs.ChoiceLaws.{unset_none}
use Rattle.walks.proofs.StepLaws.{not_made, made_as, own_alone, own_enabled}
use Rattle.walks.proofs.step.step.Goals as goal
use Rattle.walks.proofs.step.step.Goals.{After-bit, Else-i-interactions, Else-leading_above, Else-not-bit}

inside : (c : Else-i-interactions) → c.args.i < interactions c.args.plan.now
inside c = omega (arith, c.interactions.ensures.0, c.if-i-interactions.false)

few : (c : Else-i-interactions) → c.args.i < 64
few c = omega (arith, (inside c), (laid_accepted c.args.plan.now c.requires.plan_value).interactions≤)

-- of the mask of the move alone its own bit says whether it is enabled
tested : (c : After-bit) → c.bit.result ≡ enabled c.args.plan.now (state_of c.args.run.now.state) c.args.i
tested c =
    c.bit.ensures
    ∙ own_enabled (interactions c.args.plan.now) c.args.i (enabled c.args.plan.now (state_of c.args.run.now.state)) (inside (goal.at.After-bit c).Else-i-interactions) (few (goal.at.After-bit c).Else-i-interactions) c.enabled_among-enabled.result
    (c.enabled_among-enabled.ensures ∙ ap (λ (m : ℕ). mask (interactions c.args.plan.now) (λ j. bit m j && enabled c.args.plan.now (state_of c.args.run.now.state) j)) c.with_bit-own.ensures)

enabled_is : (c : Else-not-bit) → enabled c.args.plan.now (state_of c.args.run.now.state) c.args.i ≡ true
enabled_is c = sym (tested (goal.at.Else-not-bit c).After-bit) ∙ c.if-not-bit.false

pub interactions-requires : goal.interactions-requires
interactions-requires c = (laid_accepted _ c.requires.plan_value).long

pub returns-then-i-interactions-clause-made_value : goal.returns-then-i-interactions-clause-made_value
returns-then-i-interactions-clause-made_value c =
    not_made _ _ _ _ 15 (cause_high _ _ _ _ (omega (arith, c.interactions.ensures.0, c.if-i-interactions.true)))

pub choose_for-ranked-requires-clause-i_bound : goal.choose_for-ranked-requires-clause-i_bound
choose_for-ranked-requires-clause-i_bound c =
    let at = goal.at.choose_for-ranked-requires-clause-i_bound c in
    (inside at.Else-i-interactions, unset_none _ _ c.unset-chosen.ensures (laid_accepted _ c.requires.plan_value).long)

pub with_bit-own-requires : goal.with_bit-own-requires
with_bit-own-requires c = few (goal.at.with_bit-own-requires c).Else-i-interactions

pub enabled_among-enabled-requires-clause-by_index : goal.enabled_among-enabled-requires-clause-by_index
enabled_among-enabled-requires-clause-by_index c =
    let at = (goal.at.enabled_among-enabled-requires-clause-by_index c).Else-i-interactions in
    own_alone _ _ _ c.args.i (few at) (inside at) c.choose_for-ranked.ensures.chosen_in _ c.with_bit-own.ensures

pub bit-requires : goal.bit-requires
bit-requires c = few (goal.at.bit-requires c).Else-i-interactions

pub returns-then-not-bit-clause-made_value : goal.returns-then-not-bit-clause-made_value
returns-then-not-bit-clause-made_value c =
    let at = goal.at.returns-then-not-bit-clause-made_value c in
    not_made _ _ _ _ 16 (cause_disabled _ _ _ _ (inside at.Else-i-interactions) (sym (tested at.After-bit) ∙ c.if-not-bit.true))

pub returns-then-leading_above-clause-made_value : goal.returns-then-leading_above-clause-made_value
returns-then-leading_above-clause-made_value c =
    let at = goal.at.returns-then-leading_above-clause-made_value c in
    not_made _ _ _ _ 17 (cause_above _ _ _ _ (inside at.Else-i-interactions) (enabled_is at.Else-not-bit) (sym c.leading_above.ensures ∙ c.if-leading_above.true))

pub after-requires-clause-i_bound : goal.after-requires-clause-i_bound
after-requires-clause-i_bound c =
    let at = goal.at.after-requires-clause-i_bound c in
    (inside at.Else-i-interactions, c.choose_for-ranked.ensures.chosen_in, enabled_is at.Else-not-bit)

-- no cause fits a move that none lies above
free : (c : Else-leading_above) → cause_from c.args.plan.now c.args.v (configuration_in c.args.run.now) c.args.i ≡ 0
free c =
    let at = goal.at.Else-leading_above c in
    cause-none _ _ _ _ (inside at.Else-i-interactions) (enabled_is at.Else-not-bit) (sym c.leading_above.ensures ∙ c.if-leading_above.false)

pub returns-then-not-reaches-clause-made_value : goal.returns-then-not-reaches-clause-made_value
returns-then-not-reaches-clause-made_value c =
    let at = goal.at.returns-then-not-reaches-clause-made_value c in
    made_as _ _ _ _ _ _ (free at.Else-leading_above) (sym c.if-not-reaches.true ∙ c.reaches.ensures) (ap (λ (d : Configuration). d.oracles) c.after.ensures.run_after.0)

pub returns-clause-made_value : goal.returns-clause-made_value
returns-clause-made_value c =
    let at = goal.at.returns-clause-made_value c in
    made_as _ _ _ _ _ _ (free at.Else-leading_above) (sym c.if-not-reaches.false ∙ c.reaches.ensures) (ap (λ (d : Configuration). d.oracles) c.after.ensures.run_after.0)
