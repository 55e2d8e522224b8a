use mathlib.Core.Path.{◌≡◌, sym, ◌∙◌}
use mathlib.Core.Bool.{true}
use Prim.Native.Nat.{ℕ, ◌<◌, ◌^◌}
use Rattle.semantics.specs.Bytes.{implies, every, bit}
use Rattle.semantics.specs.Plan.{max_interactions, interactions}
use Rattle.semantics.specs.Move.{Configuration, enabled, good}
use Rattle.layout.specs.Runs.{state_of, configuration_in}
use Rattle.engine.proofs.MarkLaws.{bit_below, marked-enabled, marks_judged}
use borrow.Author.Rules.{rules}
use Rattle.engine.proofs.reading.marks_ok.Goals as goal
use Rattle.engine.proofs.reading.marks_ok.Goals.{Else-not-inside}

word : (c : Else-not-inside) → c.args.run.now.marks < 2 ^ 64
word c = search rules

-- all marks are on enabled interactions
within : (c : Else-not-inside) → every max_interactions (λ j. implies (bit c.args.run.now.marks j) (bit c.args.enabled j)) ≡ true
within c = sym c.inside.ensures ∙ c.if-not-inside.false

-- each is one of the plan's, and enabled
marked : (c : Else-not-inside) → (j : ℕ) → bit c.args.run.now.marks j ≡ true → (j < interactions c.args.plan.now) × (enabled c.args.plan.now (state_of c.args.run.now.state) j ≡ true)
marked c =
    λ j t. let m = c.args.run.now.marks in
    marked-enabled c.args.plan.now (configuration_in c.args.run.now) m c.args.enabled c.args.free c.requires.oracles_value.1 c.requires.free_value (within c) j (bit_below m j (word c) t) t

pub none_above-requires-clause-by_index : goal.none_above-requires-clause-by_index
none_above-requires-clause-by_index c = λ j t. (marked (goal.at.none_above-requires-clause-by_index c).Else-not-inside j t).0

pub none_reaches-requires-clause-by_index : goal.none_reaches-requires-clause-by_index
none_reaches-requires-clause-by_index c = marked (goal.at.none_reaches-requires-clause-by_index c).Else-not-inside

pub returns : goal.returns
unfolding good
returns c =
    let held : Configuration = configuration_in c.args.run.now in
    c.none_reaches.ensures
    ∙ marks_judged c.args.plan.now held c.args.run.now.marks c.args.enabled c.args.free c.requires.oracles_value.1 c.requires.free_value (within (goal.at.returns c).Else-not-inside)
    (sym c.none_above.ensures ∙ c.if-not-none_above.false)
