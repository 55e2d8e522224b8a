-- What code reads: a component's guards and actions its own valuation, an interaction's guard and transfer v(X) (001 and 002, definitions 3 and 7). That
-- accepted code sees no more is 01's rule on the variables that it names.
use mathlib.Core.Path.{◌≡◌, refl, sym, ap, ◌∙◌}
use mathlib.Core.Logic.{◌↔◌}
use Prim.Native.Nat.{ℕ, ◌<◌}
use mathlib.Core.Bool.{Bool, true, cond}
use mathlib.Core.List.{List}
use lib.ListN.{length, get_or}
use lib.Dec.{eqb}
use lib.IntN.{ℤ, pos}
use Rattle.semantics.specs.Signed.{holds}
use Rattle.semantics.specs.Plan.{Plan, Span, transitions, interactions, component_of, guard_of, action_of, takes_part, interaction_guard, transfer_of}
use Rattle.semantics.specs.Code.{State, valued, guard_holds, acted, as_guard, as_update, span_ok}
use Rattle.semantics.specs.Rules.{plan_refusal}
use Rattle.semantics.specs.Move.{ready}
use Rattle.bip.specs.Steps.{restricted_to, variable_of, restricted, Able, component, Q, variable_in, attached, received}
use Rattle.semantics.proofs.Basics.{both_and, each, all_of_lem, lt-ltb, eqb-true, eq-eqb}
use Rattle.semantics.proofs.AcceptedPlan.{accepted_plan, guard_ok, action_ok, interaction_guard_ok, transfer_ok}
use Rattle.semantics.proofs.Commute.{local}
use Rattle.bip.proofs.Components.{owned, names_own, names_shared, few_owned, few_shared, restricted_agrees, same_restricted}

module _ (p : Plan) (z : plan_refusal p ≡ 0) where
  -- 01's rule on the variables that code names, of X: "A transition's code names its own component's variables, an interaction's those of components
  -- taking part"
  own_guard : (c t : ℕ) → t < transitions p → component_of p t ≡ c → span_ok p as_guard (variable_of p c) (guard_of p t) ≡ true
  own_guard c t l e = rw (← names_own p c, ← e) (guard_ok p (accepted_plan p z) t l)

  pub own_action : (c t : ℕ) → t < transitions p → component_of p t ≡ c → span_ok p as_update (variable_of p c) (action_of p t) ≡ true
  own_action c t l e = rw (← names_own p c, ← e) (action_ok p (accepted_plan p z) t l)

  shared_guard : (i : ℕ) → i < interactions p → span_ok p as_guard (variable_in p i) (interaction_guard p i) ≡ true
  shared_guard i l = rw (← names_shared p i) (interaction_guard_ok p (accepted_plan p z) i l)

  pub shared_transfer : (i : ℕ) → i < interactions p → span_ok p as_update (variable_in p i) (transfer_of p i) ≡ true
  shared_transfer i l = rw (← names_shared p i) (transfer_ok p (accepted_plan p z) i l)

  -- a guard holds of a valuation restricted to the variables that it may name exactly where it holds of the whole state
  restricted-guard : (names : ℕ → Bool) → ((v : ℕ) → names v ≡ true → v < 64) → (g : Span) → span_ok p as_guard names g ≡ true → (q : State) → length q.values ≡ 64
      → guard_holds p (valued (restricted_to names q.values)) g ≡ guard_holds p q g
  unfolding guard_holds
  restricted-guard names few g ok q long =
      ap (λ (xs : List ℤ). cond (eqb g.size 0) true (holds (get_or xs 0 (pos 0))))
      (local p as_guard names refl g ok (valued (restricted_to names q.values)) q (restricted_agrees names few q.values long)).0

  pub same_guard : (q : State) → length q.values ≡ 64 → (c t : ℕ) → t < transitions p → component_of p t ≡ c
      → guard_holds p (valued (restricted p c q.values)) (guard_of p t) ≡ guard_holds p q (guard_of p t)
  same_guard q long c t l e = restricted-guard (variable_of p c) (few_owned p z c) (guard_of p t) (own_guard c t l e) q long

module _ (p : Plan) (z : plan_refusal p ≡ 0) (q : State) (h : Q p q) where
  pub able_ready : (c port t : ℕ) → Able p c port t (component p q c) → ready p q c port t ≡ true
  unfolding ready component
  able_ready c port t a =
      all_of_lem _ (eq-eqb _ _ a.own, (eq-eqb _ _ a.leaves, (eq-eqb _ _ a.through, (sym (same_guard p z q h.values_long c t a.known a.own) ∙ a.guarded, tt))))

  pub ready_able : (c port t : ℕ) → t < transitions p → ready p q c port t ≡ true → Able p c port t (component p q c)
  unfolding ready component
  ready_able c port t l e =
      let (o, (f, (k, (g, _)))) = each _ e in
      let own : component_of p t ≡ c = eqb-true _ _ o in
      record {
        known = l;
        own = own;
        leaves = eqb-true _ _ f;
        through = eqb-true _ _ k;
        guarded = same_guard p z q h.values_long c t l own ∙ g;
      }

  -- 002 definition 3: a transition may fire on the component's own valuation exactly when it is ready in the whole state
  pub able_exactly : (c port t : ℕ) → Able p c port t (component p q c) ↔ ((t < transitions p) × (ready p q c port t ≡ true))
  able_exactly c port t = ((λ a. (a.known, able_ready c port t a)), (λ r. ready_able c port t r.0 r.1))

  module _ (i : ℕ) (l : i < interactions p) where
    -- 002 definition 7, G_a(v(X)): the guard of an interaction sees no more than the variables of the components taking part
    pub guard_sees : guard_holds p (attached p q i) (interaction_guard p i) ≡ guard_holds p q (interaction_guard p i)
    unfolding attached
    guard_sees = restricted-guard p z (variable_in p i) (few_shared p z i) (interaction_guard p i) (shared_guard p z i l) q h.values_long

    own_shared : (c v : ℕ) → takes_part p i c ≡ true → variable_of p c v ≡ true → variable_in p i v ≡ true
    unfolding variable_in
    own_shared c v t o = let (k, e) = owned p c v o in both_and (lt-ltb _ _ k) (rw e t)

    -- 002 definition 7, F_{a_i}(v(X)): nor does its transfer, in what a component taking part receives
    pub transfer_sees : (c : ℕ) → takes_part p i c ≡ true → received p q i c ≡ restricted p c (acted p q (transfer_of p i)).values
    unfolding received attached
    transfer_sees c t =
        (same_restricted (variable_of p c) (few_owned p z c) (acted p (valued (restricted_to (variable_in p i) q.values)) (transfer_of p i)).values
        (acted p q (transfer_of p i)).values).1
        (λ v o.
        (local p as_update (variable_in p i) refl (transfer_of p i) (shared_transfer p z i l) (valued (restricted_to (variable_in p i) q.values)) q
        (restricted_agrees (variable_in p i) (few_shared p z i) q.values h.values_long)).1.same_at v (own_shared c v t o))
