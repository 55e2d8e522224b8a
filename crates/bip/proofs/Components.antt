-- The states of 001 and 002, definitions 3 and 7: the configurations that the engine reaches hold them, and each is the tuple of its components.
use mathlib.Core.Path.{◌≡◌, refl, sym, ap, ◌∙◌, subst}
use mathlib.Core.Logic.{◌⊎◌, inl, inr, ◌↔◌}
use Prim.Native.Nat.{ℕ, ◌≤◌, ◌<◌}
use native.Mathlib.Nat.{le_trans}
use native.Mathlib.Omega.{arith}
use mathlib.Core.Bool.{Bool, true, false, cond, ◌&&◌, ◌||◌, and-true}
use mathlib.Core.List.{List}
use lib.ListN.{length, get_or, get_or-eq_default}
use lib.Seq.{ext_get_or}
use lib.Dec.{ltb, eqb}
use lib.IntN.{ℤ, pos}
use lib.Signed.{mag}
use Rattle.semantics.specs.Bytes.{all_of}
use Rattle.semantics.specs.Plan.{Plan, max_oracles, components, variables, locations, ports, owner, takes_part}
use Rattle.semantics.specs.Code.{State, owned_by, shared_in}
use Rattle.semantics.specs.Rules.{variable_ok, plan_refusal}
use Rattle.semantics.specs.Move.{Configuration, oracles_in_range}
use Rattle.semantics.specs.Image.{location_ok, last_port_ok}
use Rattle.bip.specs.Steps.{Local, restricted_to, variable_of, restricted, component, Q, variable_in}
use Rattle.semantics.proofs.Basics.{bool_cases, and_both, both_and, or_cases, or_left, or_right, each, ltb-true, ltb-false, lt-ltb, le-ltb, eqb-true, eqb_same, eq-eqb, length-table, get_or-table}
use Rattle.semantics.proofs.AcceptedPlan.{accepted_plan, Counts, counts_of_lem}
use Rattle.semantics.proofs.Commute.{Agree, one_owner}
use Rattle.semantics.proofs.Sound.{Sound}

-- the counts of an accepted plan
pub counted : (p : Plan) → plan_refusal p ≡ 0 → Counts p
counted p z = counts_of_lem p (accepted_plan p z).counts

-- ---- valuations

-- a variable of a component is one of the plan's, with that owner
pub owned : (p : Plan) (c v : ℕ) → variable_of p c v ≡ true → (v < variables p) × (owner p v ≡ c)
unfolding variable_of
owned p c v o = let (l, e) = and_both (ltb v (variables p)) (eqb (owner p v) c) o in (ltb-true _ _ l, eqb-true _ _ e)

-- the variables that the code of a component, and of an interaction, may name (01) are X of the component, and of the interaction
pub names_own : (p : Plan) (c : ℕ) → owned_by p c ≡ variable_of p c
unfolding owned_by variable_of all_of
names_own p c = λ i v. ltb v (variables p) && and-true (eqb (owner p v) c) i

pub names_shared : (p : Plan) (i : ℕ) → shared_in p i ≡ variable_in p i
unfolding shared_in variable_in all_of
names_shared p i = λ k v. ltb v (variables p) && and-true (takes_part p i (owner p v)) k

-- a variable has one owner
pub apart : (p : Plan) (c d : ℕ) → (c ≡ d → ⊥) → (v : ℕ) → variable_of p c v ≡ true → variable_of p d v ≡ false
apart p c d different v = rw (← names_own p c, ← names_own p d) (one_owner p c d different v)

-- a variable of the plan is its owner's
pub owned_by_owner : (p : Plan) (v : ℕ) → v < variables p → variable_of p (owner p v) v ≡ true
unfolding variable_of
owned_by_owner p v l = both_and (lt-ltb _ _ l) (eqb_same (owner p v))

module _ (names : ℕ → Bool) where
  pub restricted_long : (vs : List ℤ) → length (restricted_to names vs) ≡ 64
  unfolding restricted_to
  restricted_long vs = length-table 64 (λ v. cond (names v) (get_or vs v (pos 0)) (pos 0))

  restricted-at : (vs : List ℤ) (v : ℕ) → v < 64 → get_or (restricted_to names vs) v (pos 0) ≡ cond (names v) (get_or vs v (pos 0)) (pos 0)
  unfolding restricted_to
  restricted-at vs v l = get_or-table 64 (λ v. cond (names v) (get_or vs v (pos 0)) (pos 0)) (pos 0) v l

  -- a restriction holds 0 outside its variables
  pub restricted_other : (vs : List ℤ) (v : ℕ) → names v ≡ false → get_or (restricted_to names vs) v (pos 0) ≡ pos 0
  restricted_other vs v o =
      bool_cases (ltb v 64) (λ e. restricted-at vs v (ltb-true v 64 e) ∙ rw o refl)
      (λ e. get_or-eq_default (restricted_to names vs) (pos 0) (subst (λ (n : ℕ). n ≤ v) (sym (restricted_long vs)) (ltb-false v 64 e)))

  -- and is the only list of sixty-four places that does and holds its variables
  pub restricted_is : (vs ws : List ℤ) → length ws ≡ 64 → ((v : ℕ) → names v ≡ true → get_or vs v (pos 0) ≡ get_or ws v (pos 0))
      → ((v : ℕ) → names v ≡ false → get_or ws v (pos 0) ≡ pos 0) → restricted_to names vs ≡ ws
  restricted_is vs ws long own other =
      ext_get_or (pos 0) (restricted_to names vs) ws (restricted_long vs ∙ sym long)
      (λ v l.
      restricted-at vs v (subst (λ (n : ℕ). v < n) (restricted_long vs) l)
      ∙ bool_cases (names v) (λ o. rw o (own v o)) (λ o. rw o (sym (other v o))))

  module _ (few : (v : ℕ) → names v ≡ true → v < 64) where
    -- a restriction holds its variables
    pub restricted_own : (vs : List ℤ) (v : ℕ) → names v ≡ true → get_or (restricted_to names vs) v (pos 0) ≡ get_or vs v (pos 0)
    restricted_own vs v o = restricted-at vs v (few v o) ∙ rw o refl

    -- a valuation and its restriction agree on the variables
    pub restricted_agrees : (vs : List ℤ) → length vs ≡ 64 → Agree names (restricted_to names vs) vs
    restricted_agrees vs long = record { same_length = restricted_long vs ∙ sym long; same_at = restricted_own vs }

    -- restrictions are the same exactly when the variables are
    pub same_restricted : (vs ws : List ℤ) → restricted_to names vs ≡ restricted_to names ws ↔ ((v : ℕ) → names v ≡ true → get_or vs v (pos 0) ≡ get_or ws v (pos 0))
    same_restricted vs ws = (
      (λ e v o. sym (restricted_own vs v o) ∙ ap (λ (xs : List ℤ). get_or xs v (pos 0)) e ∙ restricted_own ws v o),
      (λ f. restricted_is vs (restricted_to names ws) (restricted_long ws) (λ v o. f v o ∙ sym (restricted_own ws v o)) (restricted_other ws)),
    )

-- the variables of a component and those of the components taking part are the plan's
pub few_owned : (p : Plan) → plan_refusal p ≡ 0 → (c v : ℕ) → variable_of p c v ≡ true → v < 64
few_owned p z c v o = le_trans (owned p c v o).0 (counted p z).variables≤

pub few_shared : (p : Plan) → plan_refusal p ≡ 0 → (i v : ℕ) → variable_in p i v ≡ true → v < 64
unfolding variable_in
few_shared p z i v s =
    let (l, _) = and_both (ltb v (variables p)) (takes_part p i (owner p v)) s in le_trans (ltb-true _ _ l) (counted p z).variables≤

-- ---- states

-- a place of a list is a component's, or past the components
known_place : (p : Plan) {A : Type 0} (c : ℕ) → (c < components p → A) → (components p ≤ c → A) → A
known_place p c f g = bool_cases (ltb c (components p)) (λ e. f (ltb-true _ _ e)) (λ e. g (ltb-false _ _ e))

sound_location : (p : Plan) (s : State) (c : ℕ) → location_ok p s c ≡ true → c < components p → get_or s.locations c 0 < locations p c
unfolding location_ok
sound_location p s c e l = ltb-true _ _ (rw (lt-ltb _ _ l) at e)

sound_no_location : (p : Plan) (s : State) (c : ℕ) → location_ok p s c ≡ true → components p ≤ c → get_or s.locations c 0 ≡ 0
unfolding location_ok
sound_no_location p s c e l = eqb-true _ _ (rw (le-ltb _ _ l) at e)

sound_port : (p : Plan) (s : State) (c : ℕ) → last_port_ok p s c ≡ true → c < components p
    → (get_or s.last_ports c 0 ≡ 255) ⊎ (get_or s.last_ports c 0 < ports p c)
unfolding last_port_ok
sound_port p s c e l =
    or_cases (eqb (get_or s.last_ports c 0) 255) (ltb (get_or s.last_ports c 0) (ports p c)) (rw (lt-ltb c (components p) l) at e)
    (λ h. inl (eqb-true _ _ h)) (λ h. inr (ltb-true _ _ h))

sound_no_port : (p : Plan) (s : State) (c : ℕ) → last_port_ok p s c ≡ true → components p ≤ c → get_or s.last_ports c 0 ≡ 255
unfolding last_port_ok
sound_no_port p s c e l = eqb-true _ _ (rw (le-ltb _ _ l) at e)

-- 002 definition 7: the engine's configurations hold states of Q
pub state_of_lem : (p : Plan) → plan_refusal p ≡ 0 → (c : Configuration) → Sound p c → Q p c.state
state_of_lem p z c h =
    let few = (counted p z).components≤ in
    record {
      locations_long = h.locations_16;
      ports_long = h.ports_16;
      values_long = h.valued.long;
      location = λ k l. sound_location p c.state k (h.location k (le_trans l few)) l;
      port = λ k l. sound_port p c.state k (h.port k (le_trans l few)) l;
      value = λ v l. h.valued.words.word_at v;
      no_location = λ k l m. sound_no_location p c.state k (h.location k m) l;
      no_port_lem = λ k l m. sound_no_port p c.state k (h.port k m) l;
      no_value = h.valued.unused;
    }

state_location : (p : Plan) (s : State) → Q p s → (c : ℕ) → c < 16 → location_ok p s c ≡ true
unfolding location_ok
state_location p s h c m =
    known_place p c (λ l. rw (lt-ltb _ _ l) (lt-ltb _ _ (h.location c l))) (λ l. rw (le-ltb c (components p) l) (eq-eqb _ _ (h.no_location c l m)))

state_port : (p : Plan) (s : State) → Q p s → (c : ℕ) → c < 16 → last_port_ok p s c ≡ true
unfolding last_port_ok
state_port p s h c m =
    known_place p c (λ l. rw (lt-ltb c (components p) l) (known l)) (λ l. rw (le-ltb c (components p) l) (eq-eqb _ _ (h.no_port_lem c l m)))
  where
    known : c < components p → (eqb (get_or s.last_ports c 0) 255 || ltb (get_or s.last_ports c 0) (ports p c)) ≡ true
    known l =
        elim (h.port c l) [
          | inl e ↦ or_left (eqb (get_or s.last_ports c 0) 255) (ltb (get_or s.last_ports c 0) (ports p c)) (eq-eqb _ _ e)
          | inr e ↦ or_right (eqb (get_or s.last_ports c 0) 255) (ltb (get_or s.last_ports c 0) (ports p c)) (lt-ltb _ _ e)
        ]

-- 002 definition 7: a state of Q with a state of the oracles is a configuration as the engine holds them
pub sound_of : (p : Plan) (q : State) (θ : List ℕ) → Q p q → length θ ≡ max_oracles → oracles_in_range p θ ≡ true → Sound p (record { state = q; oracles = θ })
sound_of p q θ h four l =
    record {
      oracles_4 = four;
      in_range = l;
      locations_16 = h.locations_long;
      ports_16 = h.ports_long;
      location = state_location p q h;
      port = state_port p q h;
      valued =
          record {
            long = h.values_long;
            words =
                record {
                  word_at =
                      λ v.
                      bool_cases (ltb v (variables p)) (λ e. h.value v (ltb-true _ _ e))
                      (λ e. subst (λ (x : ℤ). mag x < 2147483648) (sym (h.no_value v (ltb-false _ _ e))) (omega arith));
                };
            unused = h.no_value;
          };
    }

-- a component's state by its parts
pub same_component : (p : Plan) (q r : State) (c : ℕ) → get_or q.locations c 0 ≡ get_or r.locations c 0 → restricted p c q.values ≡ restricted p c r.values
    → get_or q.last_ports c 0 ≡ get_or r.last_ports c 0 → component p q c ≡ component p r c
unfolding component
same_component p q r c l v k = λ j. record { location = l j; valuation = v j; last_port = k j }

module _ (p : Plan) (z : plan_refusal p ≡ 0) (q r : State) (a : Q p q) (b : Q p r) (same : (c : ℕ) → c < components p → component p q c ≡ component p r c) where
  same_locations : q.locations ≡ r.locations
  unfolding component
  same_locations =
      ext_get_or 0 q.locations r.locations (a.locations_long ∙ sym b.locations_long)
      (λ c l.
      let m : c < 16 = subst (λ (n : ℕ). c < n) a.locations_long l in
      known_place p c (λ k. ap (λ (x : Local). x.location) (same c k)) (λ k. a.no_location c k m ∙ sym (b.no_location c k m)))

  same_ports : q.last_ports ≡ r.last_ports
  unfolding component
  same_ports =
      ext_get_or 0 q.last_ports r.last_ports (a.ports_long ∙ sym b.ports_long)
      (λ c l.
      let m : c < 16 = subst (λ (n : ℕ). c < n) a.ports_long l in
      known_place p c (λ k. ap (λ (x : Local). x.last_port) (same c k)) (λ k. a.no_port_lem c k m ∙ sym (b.no_port_lem c k m)))

  same_own : (c : ℕ) → c < components p → restricted p c q.values ≡ restricted p c r.values
  unfolding component
  same_own c l = ap (λ (x : Local). x.valuation) (same c l)

  owner_known : (v : ℕ) → v < variables p → owner p v < components p
  unfolding variable_ok
  owner_known v l = ltb-true _ _ (each _ ((accepted_plan p z).variable v l)).0

  same_values : q.values ≡ r.values
  same_values =
      ext_get_or (pos 0) q.values r.values (a.values_long ∙ sym b.values_long)
      (λ v l.
      bool_cases (ltb v (variables p))
      (λ e.
      let k = ltb-true v (variables p) e in
      (same_restricted (variable_of p (owner p v)) (few_owned p z (owner p v)) q.values r.values).0 (same_own (owner p v) (owner_known v k)) v (owned_by_owner p v k))
      (λ e. a.no_value v (ltb-false _ _ e) ∙ sym (b.no_value v (ltb-false _ _ e))))

  -- 002 definition 7, Q = B_1.Q × .. × B_n.Q: a state is its components
  pub state_is_tuple : q ≡ r
  state_is_tuple = λ j. record { locations = same_locations j; last_ports = same_ports j; values = same_values j }
