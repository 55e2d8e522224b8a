-- How large the fields of an accepted plan are.
use mathlib.Core.Path.{◌≡◌, ap}
use Prim.Native.Nat.{ℕ, ◌≤◌, ◌<◌}
use native.Mathlib.Nat.{le_trans}
use mathlib.Core.Logic.{◌⊎◌, inl, inr}
use mathlib.Core.Bool.{true, not}
use lib.Dec.{eqb}
use Rattle.semantics.specs.Plan.{Plan, max_components, no_port, components, transitions, interactions, ports, component_of, port_of, port_in, takes_part}
use Rattle.semantics.specs.Rules.{within, component_ok, transition_ok, plan_refusal}
use Rattle.semantics.proofs.Basics.{bool_cases, each, leb-true, ltb-true, eqb-true}
use Rattle.semantics.proofs.AcceptedPlan.{accepted_plan}
use Rattle.semantics.proofs.Sound.{Part, part}
use Rattle.layout.proofs.Sections.{laid_accepted}

module _ (p : Plan) (e : plan_refusal p ≡ 0) where
  -- a component's ports are at most 16
  ports_le : (c : ℕ) → c < components p → ports p c ≤ 16
  unfolding component_ok within
  ports_le c h =
      let (_, (_, (ports, _))) = each _ ((accepted_plan p e).component c h) in
      let (_, (most, _)) = each _ ports in leb-true _ _ most

  pub component_of_lt : (t : ℕ) → t < transitions p → component_of p t < components p
  unfolding transition_ok
  component_of_lt t h = let (component, _) = each _ ((accepted_plan p e).transition t h) in ltb-true _ _ component

  pub component_lt : (t : ℕ) → t < transitions p → component_of p t < max_components
  component_lt t h = le_trans (component_of_lt t h) (laid_accepted p e).components≤

  pub port_lt : (t : ℕ) → t < transitions p → port_of p t < 16
  unfolding transition_ok
  port_lt t h =
      let (_, (_, (port, _))) = each _ ((accepted_plan p e).transition t h) in
      le_trans (ltb-true _ _ port) (ports_le (component_of p t) (component_of_lt t h))

  -- a component that takes part is one of the plan's, through a port below 16
  pub part_lt : (i c : ℕ) → i < interactions p → c < max_components → takes_part p i c ≡ true → (c < components p) × (port_in p i c < 16)
  part_lt i c h l t =
      let q : Part p i c = part p (accepted_plan p e) i c h l t in (q.component<, le_trans q.port< (ports_le c q.component<))

  pub port_in_lt : (i c : ℕ) → i < interactions p → c < max_components → (port_in p i c ≡ no_port) ⊎ (port_in p i c < 16)
  unfolding takes_part
  port_in_lt i c h l =
      bool_cases (eqb (port_in p i c) no_port) (λ q. inl (eqb-true _ _ q)) (λ q. inr (part_lt i c h l (ap not q)).1)
