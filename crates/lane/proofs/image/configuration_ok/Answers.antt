use mathlib.Core.Bool.{Bool, true, ◌&&◌, and_assoc, and-true}
use mathlib.Core.Path.{◌≡◌, sym, ap₂, ◌∙◌}
use Rattle.semantics.specs.Bytes.{all_of, every}
use Rattle.semantics.specs.Plan.{Plan, max_components, max_variables}
use Rattle.semantics.specs.Code.{valued}
use Rattle.semantics.specs.Move.{Configuration, oracles_in_range, reaches, good}
use Rattle.semantics.specs.Image.{location_ok, last_port_ok, value_ok, configuration_ok}
use Rattle.layout.specs.Runs.{configuration_in}
use Rattle.lane.proofs.image.configuration_ok.Goals as goal

-- the tests of a state read only what each is given
joined : (p : Plan) (k : Configuration) {a b c : Bool} → oracles_in_range p k.oracles ≡ true → a ≡ reaches p 2 k.oracles
    → b ≡ (every max_components (location_ok p k.state)
    && every max_components (last_port_ok p k.state))
    → c ≡ every max_variables (value_ok p (valued k.state.values)) → ((a && b) && c) ≡ configuration_ok p k
unfolding configuration_ok all_of good location_ok last_port_ok value_ok
joined p k h a b c = rw h (ap₂ ◌&&◌ (ap₂ ◌&&◌ a b) c ∙ simp (and_assoc, and-true))

pub returns-then-in_range : goal.returns-then-in_range
returns-then-in_range c =
    let tried : Configuration = configuration_in c.args.run.now in
    let has : oracles_in_range c.args.plan.now c.args.run.now.oracles ≡ true =
    sym c.in_range.ensures ∙ c.if-in_range.true in
    joined c.args.plan.now tried has c.good.ensures c.components_ok.ensures c.values_ok.ensures
