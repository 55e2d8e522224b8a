-- What 1, 2 and 3 leave of a plan that they do not refuse: its counts are in range and its sections lie in the slice. Functions that read a plan
-- after these three ask for this record and nothing else.
use Rattle.std.specs.Prelude.{◌+◌, ◌*◌, ◌≤◌, length}
use Rattle.semantics.specs.Plan.{Plan, max_components, max_variables, max_interactions, max_oracles, components, variables, transitions, interactions, propositions, oracles, states_before, code_words, letters, section}

pub record Laid (p : Plan) : Type 0 where
  pub long : 48 ≤ length p
  pub components≤ : components p ≤ max_components
  pub variables≤ : variables p ≤ max_variables
  pub transitions≤ : transitions p ≤ 256
  pub interactions≤ : interactions p ≤ max_interactions
  pub propositions≤ : propositions p ≤ 4
  pub oracles≤ : oracles p ≤ max_oracles
  pub states≤ : states_before p max_oracles ≤ 128
  pub words≤ : code_words p ≤ 4096
  pub component_in : section p 0 + 4 * components p ≤ length p
  pub variable_in_lem : section p 1 + 8 * variables p ≤ length p
  pub transition_in : section p 2 + 12 * transitions p ≤ length p
  pub interaction_in : section p 3 + 24 * interactions p ≤ length p
  pub rank_in : section p 4 + 8 * interactions p ≤ length p
  pub proposition_in : section p 5 + 4 * propositions p ≤ length p
  pub oracle_in : section p 6 + (1 + letters p) * states_before p max_oracles ≤ length p
  pub code_in : section p 7 + 2 * code_words p ≤ length p
