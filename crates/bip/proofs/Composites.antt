-- The engine's definitions of enabled interactions and of the state after one are the rules of 001 and 002, definitions 3 and 7, with 01's choice.
use mathlib.Core.Path.{◌≡◌, refl, sym, ◌∙◌, subst}
use mathlib.Core.Logic.{◌↔◌}
use Prim.Native.Nat.{ℕ, zero, suc, ◌≤◌, ◌<◌}
use native.Mathlib.Nat.{le_refl, le_trans, le_of_lt, lt_irrefl, not-suc-le-zero}
use mathlib.Core.Bool.{true, false, cond}
use mathlib.Core.List.{List}
use lib.ListN.{length, get_or}
use lib.Dec.{ltb}
use lib.IntN.{ℤ, pos}
use Rattle.semantics.specs.Bytes.{implies, lowest}
use Rattle.semantics.specs.Plan.{Plan, components, variables, transitions, interactions, start_states, action_of, port_in, takes_part, transfer_of, owner}
use Rattle.semantics.specs.Code.{State, valued, acted, as_update, span_ok}
use Rattle.semantics.specs.Rules.{plan_refusal}
use Rattle.semantics.specs.Move.{Configuration, ready, chosen, chosen_in, enabled, acted_below, fired, judged, after}
use Rattle.bip.specs.Steps.{Local, variable_of, restricted, Able, Takes, Atomic, atomic, component, Q, variable_in, received, Composite, fire, ByLowest, Chosen}
use Rattle.semantics.proofs.Basics.{bool_cases, absurd_bool, and_both, implies-yes, each, all_of_lem, lt-ltb, below_suc, every_all, ltb-true, lowest_is, lowest_unique, lowest-none}
use Rattle.semantics.proofs.AcceptedPlan.{accepted_plan}
use Rattle.semantics.proofs.OneMove.{uses, uses_lowest, part-moves, other_stays}
use Rattle.semantics.proofs.Oracles.{start_in_range}
use Rattle.semantics.proofs.Sound.{sound_after}
use Rattle.semantics.proofs.Commute.{Agree, local, frame, acted_long}
use Rattle.bip.proofs.Components.{counted, owned, apart, few_owned, restricted_long, restricted_other, restricted_is, restricted_agrees, same_restricted, state_of_lem, sound_of, same_component, state_is_tuple}
use Rattle.bip.proofs.Reading.{own_action, shared_transfer, same_guard, able_ready, ready_able, guard_sees, transfer_sees}

-- ---- atomic components

-- from a component's state and what it received, a transition leads to one state
takes_one : (p : Plan) (c port t : ℕ) (q : Local) (vs : List ℤ) (a b : Local) → Takes p c port t q vs a → Takes p c port t q vs b → a ≡ b
takes_one p c port t q vs a b h k =
    λ j. record { location = (h.reaches ∙ sym k.reaches) j; valuation = (h.computes ∙ sym k.computes) j; last_port = (h.remembers ∙ sym k.remembers) j }

module _ (p : Plan) (z : plan_refusal p ≡ 0) (q : State) (h : Q p q) where
  module _ (i : ℕ) (l : i < interactions p) where
    -- ---- the move is a step

    module _ (e : enabled p q i ≡ true) where
      transferred : State
      transferred = acted p q (transfer_of p i)

      use_own : (c : ℕ) → c < components p → takes_part p i c ≡ true → span_ok p as_update (variable_of p c) (action_of p (chosen_in p q i c)) ≡ true
      use_own c k t = let u = uses p q i c e k t in own_action p z c (chosen_in p q i c) u.known u.own

      -- the turn of another component changes none of c's variables
      other_turn : (c n : ℕ) → (c ≡ n → ⊥) → n < components p → (v : ℕ) → variable_of p c v ≡ true
          → get_or (acted_below p q i (suc n)).values v (pos 0) ≡ get_or (acted_below p q i n).values v (pos 0)
      unfolding acted_below
      other_turn c n different k v o =
          bool_cases (takes_part p i n)
          (λ t. rw t (frame p as_update (variable_of p n) (action_of p (chosen_in p q i n)) (use_own n k t) (acted_below p q i n) v (apart p c n different v o)))
          (λ t. rw t refl)

      -- before its own turn, c's variables are as the transfer left them
      before_turn : (c n : ℕ) → n ≤ c → c < components p → (v : ℕ) → variable_of p c v ≡ true
          → get_or (acted_below p q i n).values v (pos 0) ≡ get_or transferred.values v (pos 0)
      before_turn c zero m k v o = unfold acted_below transferred in refl
      before_turn c (suc n) m k v o =
          other_turn c n (λ d. lt_irrefl c (subst (λ (x : ℕ). x < c) (sym d) m)) (le_trans m (le_of_lt k)) v o
          ∙ before_turn c n (le_of_lt m) k v o

      below_long : (n : ℕ) → length (acted_below p q i n).values ≡ 64
      unfolding acted_below
      below_long zero = acted_long p q (transfer_of p i) ∙ h.values_long
      below_long (suc n) =
          bool_cases (takes_part p i n) (λ t. rw t (acted_long p (acted_below p q i n) (action_of p (chosen_in p q i n)) ∙ below_long n)) (λ t. rw t (below_long n))

      transferred_long : length transferred.values ≡ 64
      unfolding transferred
      transferred_long = acted_long p q (transfer_of p i) ∙ h.values_long

      -- what component c makes of the transferred values
      turned : ℕ → State
      turned c = cond (takes_part p i c) (acted p transferred (action_of p (chosen_in p q i c))) transferred

      own_turn : (c : ℕ) → c < components p → (v : ℕ) → variable_of p c v ≡ true
          → get_or (acted_below p q i (suc c)).values v (pos 0) ≡ get_or (turned c).values v (pos 0)
      unfolding acted_below turned
      own_turn c k v o =
          let a : Agree (variable_of p c) (acted_below p q i c).values transferred.values
          = record { same_length = below_long c ∙ sym transferred_long; same_at = before_turn c c (le_refl c) k } in
          bool_cases (takes_part p i c)
          (λ t. rw t ((local p as_update (variable_of p c) refl (action_of p (chosen_in p q i c)) (use_own c k t) (acted_below p q i c) transferred a).1.same_at v o))
          (λ t. rw t (a.same_at v o))

      -- from its own turn on, c's variables are as it made them
      after_turn : (c n : ℕ) → c < n → n ≤ components p → (v : ℕ) → variable_of p c v ≡ true
          → get_or (acted_below p q i n).values v (pos 0) ≡ get_or (turned c).values v (pos 0)
      after_turn c zero m k v o = absurd (not-suc-le-zero m)
      after_turn c (suc n) m k v o =
          below_suc m (λ b. other_turn c n (λ d. lt_irrefl c (subst (λ (x : ℕ). c < x) (sym d) b)) k v o ∙ after_turn c n b (le_of_lt k) v o)
          (λ d. subst (λ (x : ℕ). get_or (acted_below p q i (suc x)).values v (pos 0) ≡ get_or (turned c).values v (pos 0)) d (own_turn c (subst (λ (x : ℕ). x < components p) (sym d) k) v o))

      fired_own : (c : ℕ) → c < components p → (v : ℕ) → variable_of p c v ≡ true → get_or (fired p q i).values v (pos 0) ≡ get_or (turned c).values v (pos 0)
      unfolding fired
      fired_own c k v o = after_turn c (components p) k (le_refl (components p)) v o

      -- a component taking part computes from what it received
      part_computes : (c : ℕ) → c < components p → takes_part p i c ≡ true
          → restricted p c (fired p q i).values ≡ (acted p (valued (received p q i c)) (action_of p (chosen_in p q i c))).values
      unfolding turned transferred
      part_computes c k t =
          let g = action_of p (chosen_in p q i c) in
          let vs : List ℤ = transferred.values in
          let got : State = valued (restricted p c vs) in
          rw (transfer_sees p z q h i l c t)
          (restricted_is (variable_of p c) (fired p q i).values (acted p got g).values (acted_long p got g ∙ restricted_long (variable_of p c) vs)
          (λ v o. (fired_own c k v o ∙ rw t refl)
          ∙ sym ((local p as_update (variable_of p c) refl g (use_own c k t) got transferred (restricted_agrees (variable_of p c) (few_owned p z c) vs transferred_long)).1.same_at v o))
          (λ v o. frame p as_update (variable_of p c) g (use_own c k t) got v o ∙ restricted_other (variable_of p c) vs v o))

      not_shared : (c v : ℕ) → takes_part p i c ≡ false → variable_of p c v ≡ true → variable_in p i v ≡ false
      unfolding variable_in
      not_shared c v t o =
          bool_cases (variable_in p i v)
          (λ s. let (_, part) = and_both (ltb v (variables p)) (takes_part p i (owner p v)) s in
          absurd_bool (subst (λ (d : ℕ). takes_part p i d ≡ true) (owned p c v o).1 part) t)
          (λ s. s)

      -- a component taking no part keeps its valuation
      other_keeps : (c : ℕ) → c < components p → takes_part p i c ≡ false → restricted p c (fired p q i).values ≡ restricted p c q.values
      unfolding turned transferred
      other_keeps c k t =
          (same_restricted (variable_of p c) (few_owned p z c) (fired p q i).values q.values).1
          (λ v o. (fired_own c k v o ∙ rw t refl) ∙ frame p as_update (variable_in p i) (transfer_of p i) (shared_transfer p z i l) q v (not_shared c v t o))

      begun : Configuration
      begun = record { state = q; oracles = start_states p }

      -- 002 definition 7: the engine's move ends in a state of Q
      pub fired-state : Q p (fired p q i)
      unfolding after judged begun
      fired-state = state_of_lem p z (after p begun i) (sound_after p (accepted_plan p z) begun (sound_of p q (start_states p) h refl (start_in_range p (accepted_plan p z))) i l e)

      low : (c : ℕ) → c < components p → c < 16
      low c k = le_trans k (counted p z).components≤

      part_takes : (c : ℕ) → c < components p → takes_part p i c ≡ true
          → Takes p c (port_in p i c) (chosen_in p q i c) (component p q c) (received p q i c) (component p (fired p q i) c)
      unfolding component after judged begun
      part_takes c k t =
          let u = uses p q i c e k t in
          let m = part-moves p begun i c (low c k) t in
          record {
            able =
                record {
                  known = u.known;
                  own = u.own;
                  leaves = u.leaves;
                  through = u.through;
                  guarded = same_guard p z q h.values_long c (chosen_in p q i c) u.known u.own ∙ u.guarded;
                };
            reaches = m.0;
            computes = part_computes c k t;
            remembers = m.1;
          }

      other_same : (c : ℕ) → c < components p → takes_part p i c ≡ false → component p (fired p q i) c ≡ component p q c
      unfolding after judged begun
      other_same c k t = let m = other_stays p begun i c (low c k) t in same_component p (fired p q i) q c m.0 (other_keeps c k t) m.1

      used_lowest : (c : ℕ) (t : ℕ) → t < chosen_in p q i c → Able p c (port_in p i c) t (component p q c) → ⊥
      used_lowest c t m a = absurd_bool (able_ready p z q h c (port_in p i c) t a) (uses_lowest p q i c t m)

      -- 002 definition 7 with 01's choice: the engine's move is a step
      pub move_is_step : Chosen p q i (fired p q i)
      unfolding enabled
      move_is_step =
          record {
            step = fire l (guard_sees p z q h i l ∙ (each _ e).0) (λ c k t. atomic (chosen_in p q i c) (part_takes c k t)) other_same fired-state;
            picks = λ c k t. record { transition = chosen_in p q i c; takes = part_takes c k t; lowest = used_lowest c };
          }

    -- ---- the steps are the move

    -- where some transition may fire, the lowest is found
    used_known : (c t : ℕ) → Able p c (port_in p i c) t (component p q c) → chosen_in p q i c < transitions p
    unfolding chosen_in chosen
    used_known c t a =
        let f = ready p q c (port_in p i c) in
        bool_cases (ltb (lowest (transitions p) f) (transitions p)) (ltb-true _ _)
        (λ n. absurd_bool (able_ready p z q h c (port_in p i c) t a) (lowest-none (transitions p) f n t a.known))

    -- 002 definition 7: where there is a step, the engine's test holds
    pub step_enabled : (q' : State) → Composite p q i q' → enabled p q i ≡ true
    unfolding enabled
    step_enabled q' (fire k g parts others state) =
        all_of_lem _ (
          sym (guard_sees p z q h i l) ∙ g,
          (
            every_all (components p) (λ c. implies (takes_part p i c) (ltb (chosen_in p q i c) (transitions p)))
                (λ c m. implies-yes (takes_part p i c) (ltb (chosen_in p q i c) (transitions p)) (λ t. lt-ltb _ _ (found c (parts c m t)))),
            tt,
          ),
        )
      where
        found : (c : ℕ) → Atomic p c (port_in p i c) (component p q c) (received p q i c) (component p q' c) → chosen_in p q i c < transitions p
        found c (atomic t k) = used_known c t k.able

    -- 002 definition 7: an interaction is enabled exactly when it has a step
    pub enabled_exactly : enabled p q i ≡ true ↔ ((q' : State) × Composite p q i q')
    enabled_exactly = ((λ e. (fired p q i, (move_is_step e).step)), (λ s. step_enabled s.0 s.1))

    -- the lowest transition that may fire is the one that the engine uses
    lowest_used : (c : ℕ) (t : ℕ) → Able p c (port_in p i c) t (component p q c) → ((u : ℕ) → u < t → Able p c (port_in p i c) u (component p q c) → ⊥) → t ≡ chosen_in p q i c
    unfolding chosen_in chosen
    lowest_used c t a none =
        let f = ready p q c (port_in p i c) in
        lowest_unique (transitions p) f t (lowest (transitions p) f)
        (record {
          at_most = le_of_lt a.known;
          hit = λ m. able_ready p z q h c (port_in p i c) t a;
          missed = λ u m. bool_cases (f u) (λ r. absurd (none u m (ready_able p z q h c (port_in p i c) u (le_trans m (le_of_lt a.known)) r))) (λ r. r);
        })
        (lowest_is (transitions p) f)

    -- a step by the lowest transitions is the engine's move
    chosen_is_move : (q' : State) → Composite p q i q' → ((c : ℕ) → c < components p → takes_part p i c ≡ true → ByLowest p q i q' c) → enabled p q i ≡ true → q' ≡ fired p q i
    chosen_is_move q' (fire k g parts others state) picks e = state_is_tuple p z q' (fired p q i) state (fired-state e) same
      where
        part : (c : ℕ) → c < components p → takes_part p i c ≡ true → component p q' c ≡ component p (fired p q i) c
        part c m t =
            let b = picks c m t in
            let d = lowest_used c b.transition b.takes.able b.lowest in
            takes_one p c (port_in p i c) (chosen_in p q i c) (component p q c) (received p q i c) (component p q' c) (component p (fired p q i) c)
            (subst (λ (t : ℕ). Takes p c (port_in p i c) t (component p q c) (received p q i c) (component p q' c)) d b.takes) (part_takes e c m t)

        same : (c : ℕ) → c < components p → component p q' c ≡ component p (fired p q i) c
        same c m = bool_cases (takes_part p i c) (part c m) (λ t. others c m t ∙ sym (other_same e c m t))

    -- 01's choice: the steps by the lowest transitions are the engine's move, where it is enabled
    pub chosen_exactly : (q' : State) → Chosen p q i q' ↔ ((enabled p q i ≡ true) × (q' ≡ fired p q i))
    chosen_exactly q' = (
      (λ s. let e = step_enabled q' s.step in (e, chosen_is_move q' s.step s.picks e)),
      (λ r. subst (λ (x : State). Chosen p q i x) (sym r.1) (move_is_step r.0)),
    )

    -- 002 definition 7: where each component taking part has one transition that may fire at its port, the engine's move is the only step
    pub only_step : (q' : State) → Composite p q i q'
        → ((c : ℕ) → c < components p → takes_part p i c ≡ true → (t u : ℕ) → Able p c (port_in p i c) t (component p q c) → Able p c (port_in p i c) u (component p q c) → t ≡ u)
        → q' ≡ fired p q i
    only_step q' (fire k g parts others state) one =
        let s : Composite p q i q' = fire k g parts others state in
        chosen_is_move q' s (λ c m t. lowest_of c m t (parts c m t)) (step_enabled q' s)
      where
        lowest_of : (c : ℕ) → c < components p → takes_part p i c ≡ true
            → Atomic p c (port_in p i c) (component p q c) (received p q i c) (component p q' c) → ByLowest p q i q' c
        lowest_of c m t (atomic a k) =
            record { transition = a; takes = k; lowest = λ u b r. lt_irrefl u (subst (λ (x : ℕ). u < x) (one c m t a u k.able r) b) }
