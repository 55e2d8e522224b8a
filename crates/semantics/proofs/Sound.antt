-- Every configuration that an accepted plan reaches passes 13: the starting one, and each one after an enabled interaction.
use mathlib.Core.Path.{◌≡◌, refl, sym, ap, subst}
use Prim.Native.Nat.{ℕ, zero, suc, ◌+◌, ◌≤◌, ◌<◌}
use native.Mathlib.Nat.{le_refl, le_trans, le_of_lt}
use native.Mathlib.Omega.{arith}
use mathlib.Core.Bool.{true, cond}
use mathlib.Core.List.{List, [], ◌∷◌}
use lib.ListN.{length, get_or, get_or-eq_default}
use lib.Dec.{ltb, eqb}
use lib.IntN.{ℤ, pos}
use lib.Signed.{mag}
use Rattle.semantics.specs.Bytes.{u32, all_of, table}
use Rattle.semantics.specs.Signed.{equal_z}
use Rattle.semantics.specs.Plan.{Plan, max_components, max_variables, no_port, components, variables, interactions, propositions, max_oracles, start_states, letters, locations, start_location, start_value, ports}
use Rattle.semantics.specs.Plan.{component_of, destination, port_in, takes_part, action_of, transfer_of, variable_at, proposition_of}
use Rattle.semantics.specs.Code.{State, guard_holds, owned_by, shared_in}
use Rattle.semantics.specs.Rules.{component_ok, transition_ok, port_ok, interaction_ok}
use Rattle.semantics.specs.Move.{Configuration, chosen_in, enabled, acted_below, fired, letter, judged, after, oracles_in_range, good, initial_state, initial}
use Rattle.semantics.specs.Image.{location_ok, last_port_ok, value_ok, configuration_ok}
use Rattle.semantics.proofs.Basics.{bool_cases, absurd_bool, not_yes, or_cases, or_left, or_right, each, all_of_lem, ltb-true, ltb-false, lt-ltb, le-ltb, every-at, every_all, length-table, get_or-table}
use Rattle.semantics.proofs.Masks.{mask_lt}
use Rattle.semantics.proofs.AcceptedPlan.{Accepted, counts_of_lem, action_ok, transfer_ok}
use Rattle.semantics.proofs.Evaluator.{Valued, acted-valued}
use Rattle.semantics.proofs.Images.{Shaped}
use Rattle.semantics.proofs.OneMove.{Uses, uses}
use Rattle.semantics.proofs.Oracles.{length_next_states, next_states_in_range, start_in_range}
use Rattle.semantics.proofs.SignedBits.{signed_in}

pub record Sound (p : Plan) (c : Configuration) : Type 0 where
  pub oracles_4 : length c.oracles ≡ max_oracles
  pub in_range : oracles_in_range p c.oracles ≡ true
  pub locations_16 : length c.state.locations ≡ max_components
  pub ports_16 : length c.state.last_ports ≡ max_components
  pub location : (k : ℕ) → k < max_components → location_ok p c.state k ≡ true
  pub port : (k : ℕ) → k < max_components → last_port_ok p c.state k ≡ true
  pub valued : Valued p c.state.values

pub shaped : (p : Plan) (c : Configuration) → Sound p c → Shaped c
shaped p c h = record { oracles_4 = h.oracles_4; locations_16 = h.locations_16; ports_16 = h.ports_16; values_64 = h.valued.long; words = h.valued.words }

zero_value : (z : ℤ) → z ≡ pos 0 → equal_z z (pos 0) ≡ true
unfolding equal_z
zero_value z e = ap (λ (y : ℤ). equal_z y (pos 0)) e

unused_zero : (p : Plan) (c : Configuration) → Sound p c → (v : ℕ) → v < max_variables → value_ok p c.state v ≡ true
unfolding value_ok
unused_zero p c h v l =
    bool_cases (ltb v (variables p)) (or_left (ltb v (variables p)) (equal_z (get_or c.state.values v (pos 0)) (pos 0)))
    (λ e. or_right (ltb v (variables p)) (equal_z (get_or c.state.values v (pos 0)) (pos 0))
    (zero_value (get_or c.state.values v (pos 0)) (h.valued.unused v (ltb-false v (variables p) e))))

-- a sound configuration that is good passes 13
pub configuration_ok_lem : (p : Plan) (c : Configuration) → Sound p c → good p c ≡ true → configuration_ok p c ≡ true
unfolding configuration_ok
configuration_ok_lem p c h g =
    all_of_lem _ (h.in_range, (g, (every_all max_components _ h.location, (every_all max_components _ h.port, (every_all max_variables _ (unused_zero p c h), tt)))))

-- ---- the oracles

pub letter_lt : (p : Plan) (s : State) → letter p s < letters p
unfolding letter
letter_lt p s = mask_lt (propositions p) (λ k. guard_holds p s (proposition_of p k))

judged_in_range : (p : Plan) → Accepted p → (qs : List ℕ) (s : State) → oracles_in_range p qs ≡ true → oracles_in_range p (judged p qs s).oracles ≡ true
unfolding judged
judged_in_range p h qs s l = next_states_in_range p h qs (letter p s) l (letter_lt p s)

-- ---- the starting configuration

initial_value : (p : Plan) (v : ℕ) → mag (cond (ltb v (variables p)) (start_value p v) (pos 0)) < 2147483648
initial_value p v =
    bool_cases (ltb v (variables p)) (λ e. rw e (signed_in (u32 p (variable_at p v + 4)))) (λ e. rw e (omega arith))

initial-valued : (p : Plan) → Valued p (initial_state p).values
unfolding initial_state
initial-valued p =
    let f : ℕ → ℤ = λ v. cond (ltb v (variables p)) (start_value p v) (pos 0) in
    record {
      long = length-table max_variables f;
      words = record { word_at = λ v. in_or_out v (λ z. mag z < 2147483648) (initial_value p v) (omega arith) };
      unused = λ v h. in_or_out v (λ z. z ≡ pos 0) (rw (le-ltb v (variables p) h)) refl;
    }
  where
    in_or_out : (v : ℕ) (P : ℤ → Type 0) → P (cond (ltb v (variables p)) (start_value p v) (pos 0)) → P (pos 0)
        → P (get_or (table max_variables (λ u. cond (ltb u (variables p)) (start_value p u) (pos 0))) v (pos 0))
    in_or_out v P a b =
        let f : ℕ → ℤ = λ u. cond (ltb u (variables p)) (start_value p u) (pos 0) in
        bool_cases (ltb v max_variables) (λ e. subst P (sym (get_or-table max_variables f (pos 0) v (ltb-true v max_variables e))) a)
        (λ e. subst P (sym (get_or-eq_default (table max_variables f) (pos 0) (subst (λ (n : ℕ). n ≤ v) (sym (length-table max_variables f)) (ltb-false v max_variables e)))) b)

initial_location : (p : Plan) → Accepted p → (k : ℕ) → k < max_components → location_ok p (initial_state p) k ≡ true
unfolding location_ok initial_state component_ok
initial_location p h k l =
    let f : ℕ → ℕ = λ c. cond (ltb c (components p)) (start_location p c) 0 in
    rw (get_or-table max_components f 0 k l)
    (bool_cases (ltb k (components p)) (λ e. let (_, (low, _)) = each _ (h.component k (ltb-true k (components p) e)) in rw e low) (λ e. rw e refl))

initial_port : (p : Plan) (k : ℕ) → k < max_components → last_port_ok p (initial_state p) k ≡ true
unfolding last_port_ok initial_state
initial_port p k l =
    rw (get_or-table {A = ℕ} max_components (λ c. no_port) 0 k l) (bool_cases (ltb k (components p)) (λ e. rw e refl) (λ e. rw e refl))

pub sound_initial : (p : Plan) → Accepted p → Sound p (initial p)
unfolding initial judged initial_state
sound_initial p h =
    record {
      oracles_4 = length_next_states p (start_states p) (letter p (initial_state p));
      in_range = judged_in_range p h (start_states p) (initial_state p) (start_in_range p h);
      locations_16 = length-table max_components (λ c. cond (ltb c (components p)) (start_location p c) 0);
      ports_16 = length-table {A = ℕ} max_components (λ c. no_port);
      location = initial_location p h;
      port = initial_port p;
      valued = initial-valued p;
    }

-- ---- one move

-- a component that takes part is one of the plan's, through one of its ports
pub record Part (p : Plan) (i c : ℕ) : Type 0 where
  pub component< : c < components p
  pub port< : port_in p i c < ports p c

pub part : (p : Plan) → Accepted p → (i c : ℕ) → i < interactions p → c < max_components → takes_part p i c ≡ true → Part p i c
unfolding interaction_ok port_ok takes_part
part p h i c l m t =
    let (in_range, _) = each _ (h.interaction i l) in
    or_cases (eqb (port_in p i c) no_port) (all_of (ltb c (components p) ∷ ltb (port_in p i c) (ports p c) ∷ []))
    (every-at max_components (port_ok p i) in_range c m)
    (λ e. absurd_bool e (not_yes (eqb (port_in p i c) no_port) t))
    (λ e. let (k, (n, _)) = each _ e in record { component< = ltb-true _ _ k; port< = ltb-true _ _ n })

module _ (p : Plan) (h : Accepted p) (c : Configuration) (g : Sound p c) (i : ℕ) (l : i < interactions p) (e : enabled p c.state i ≡ true) where
  use_of : (k : ℕ) → k < max_components → takes_part p i k ≡ true → Part p i k × Uses p c.state i k
  use_of k m t = let q = part p h i k l m t in (q, uses p c.state i k e q.component< t)

  fired_location : (k : ℕ) → k < max_components → location_ok p (fired p c.state i) k ≡ true
  unfolding location_ok fired transition_ok
  fired_location k m =
      let f : ℕ → ℕ = λ n. cond (takes_part p i n) (destination p (chosen_in p c.state i n)) (get_or c.state.locations n 0) in
      rw (get_or-table max_components f 0 k m)
      (bool_cases (takes_part p i k)
      (λ t.
      let (q, u) = use_of k m t in
      let (_, (_, (_, (low, _)))) = each _ (h.transition (chosen_in p c.state i k) u.known) in
      rw (t, lt-ltb k (components p) q.component<) (rw u.own at low))
      (λ t. rw t (g.location k m)))

  fired_port : (k : ℕ) → k < max_components → last_port_ok p (fired p c.state i) k ≡ true
  unfolding last_port_ok fired
  fired_port k m =
      let f : ℕ → ℕ = λ n. cond (takes_part p i n) (port_in p i n) (get_or c.state.last_ports n 0) in
      rw (get_or-table max_components f 0 k m)
      (bool_cases (takes_part p i k)
      (λ t.
      let (q, _) = use_of k m t in
      rw (t, lt-ltb k (components p) q.component<)
      (or_right (eqb (port_in p i k) no_port) (ltb (port_in p i k) (ports p k)) (lt-ltb (port_in p i k) (ports p k) q.port<)))
      (λ t. rw t (g.port k m)))

  owned_low : (k v : ℕ) → owned_by p k v ≡ true → v < variables p
  unfolding owned_by
  owned_low k v o = let (low, _) = each _ o in ltb-true _ _ low

  shared_low : (v : ℕ) → shared_in p i v ≡ true → v < variables p
  unfolding shared_in
  shared_low v o = let (low, _) = each _ o in ltb-true _ _ low

  acted-below : (n : ℕ) → n ≤ max_components → Valued p (acted_below p c.state i n).values
  unfolding acted_below
  acted-below zero m = acted-valued p (shared_in p i) (transfer_of p i) c.state (transfer_ok p h i l) shared_low g.valued
  acted-below (suc n) m =
      let r = acted_below p c.state i n in
      let before : Valued p r.values = acted-below n (le_trans (le_of_lt (le_refl (suc n))) m) in
      bool_cases (takes_part p i n)
      (λ t.
      let (_, u) = use_of n m t in
      rw t
      (acted-valued p (owned_by p (component_of p (chosen_in p c.state i n))) (action_of p (chosen_in p c.state i n)) r
      (action_ok p h (chosen_in p c.state i n) u.known) (owned_low (component_of p (chosen_in p c.state i n))) before))
      (λ t. rw t before)

  pub sound_after : Sound p (after p c i)
  unfolding after judged fired
  sound_after =
      record {
        oracles_4 = length_next_states p c.oracles (letter p (fired p c.state i));
        in_range = judged_in_range p h c.oracles (fired p c.state i) g.in_range;
        locations_16 = length-table max_components (λ k. cond (takes_part p i k) (destination p (chosen_in p c.state i k)) (get_or c.state.locations k 0));
        ports_16 = length-table max_components (λ k. cond (takes_part p i k) (port_in p i k) (get_or c.state.last_ports k 0));
        location = fired_location;
        port = fired_port;
        valued = acted-below (components p) (counts_of_lem p h.counts).components≤;
      }
