-- Events and verdicts: every state has one event, and 01's good and bad are the oracles' verdicts (000 section 4.3, 002 definition 14).
use mathlib.Core.Path.{◌≡◌, refl, sym, ap, ◌∙◌, subst}
use mathlib.Core.Logic.{◌↔◌, inl, inr}
use Prim.Native.Nat.{ℕ, ◌<◌}
use native.Mathlib.Nat.{le_trans}
use mathlib.Core.Bool.{true, false, cond}
use lib.Seq.{ext_get_or}
use lib.Dec.{ltb}
use lib.IntN.{ℤ, pos}
use Rattle.semantics.specs.Bytes.{bit, table}
use Rattle.semantics.specs.Plan.{Plan, components, variables, propositions, start_states, proposition_of, start_location, start_value}
use Rattle.semantics.specs.Code.{State, guard_holds}
use Rattle.semantics.specs.Rules.{plan_refusal}
use Rattle.semantics.specs.Move.{Configuration, letter, next_states, judged, oracles_in_range, reaches, good, tolerable, initial_state, initial}
use Rattle.bip.specs.Steps.{Init}
use Rattle.bip.specs.Monitor.{Letter, Satisfies, Allows, Forbids, Tolerates, Begins}
use Rattle.semantics.proofs.Basics.{bool_cases, absurd_bool, leb-false, lt_leb, ltb-true, ltb-false, lt-ltb, length-table, get_or-table}
use Rattle.semantics.proofs.Masks.{bit_mask, mask_same, mask-bits}
use Rattle.semantics.proofs.AcceptedPlan.{accepted_plan, Counts, counts_of_lem}
use Rattle.semantics.proofs.Sound.{letter_lt, sound_initial}
use Rattle.semantics.proofs.Oracles.{tolerable-verdict}
use Rattle.bip.proofs.Components.{state_of_lem}
use Rattle.bip.proofs.OracleRules.{reads_is, reads_next, verdict_exactly, forbidden_exactly, not_both, allows_or_forbids}

-- ---- events

-- 000 section 4.3: every state has an event, the engine's letter
pub event_of : (p : Plan) (q : State) → Satisfies p q (letter p q, letter_lt p q)
unfolding letter
event_of p q k h = bit_mask (propositions p) (λ j. guard_holds p q (proposition_of p j)) k h

-- 000 section 4.3: and it has no other
pub event_once : (p : Plan) (q : State) (e : Letter p) → Satisfies p q e → e.0 ≡ letter p q
unfolding letter
event_once p q e s =
    sym (mask-bits (propositions p) e.0 e.1) ∙ mask_same (propositions p) (λ k. guard_holds p q (proposition_of p k)) (bit e.0) s

-- ---- verdicts

-- 01's bad, as 02's job 6 has it, is the oracles' verdict ⊥ or ⊥_c
pub bad_forbids : (p : Plan) (c : Configuration) → good p c ≡ false ↔ Forbids p c.oracles
unfolding good reaches
bad_forbids p c =
    let forbidden = forbidden_exactly p c.oracles in (λ e. forbidden.1 (leb-false 2 _ e), λ f. lt_leb 2 _ (forbidden.0 f))

-- 02, job 6: "its verdict is not 0"
pub tolerable_exactly : (p : Plan) (c : Configuration) → tolerable p c ≡ true ↔ Tolerates p c.oracles
tolerable_exactly p c =
    let is = verdict_exactly p c.oracles 0 in
    (λ e h. (tolerable-verdict p c).0 e (sym (is.0 h)), λ t. (tolerable-verdict p c).1 (λ z. t (is.1 (sym z))))

module _ (p : Plan) (ok : plan_refusal p ≡ 0) where
  -- 01's good is the oracles' verdict ⊤ or ⊤_c
  pub good_allows : (c : Configuration) → oracles_in_range p c.oracles ≡ true → good p c ≡ true ↔ Allows p c.oracles
  good_allows c l = (
    (λ g. elim (allows_or_forbids p ok c.oracles l) [ inl a ↦ a | inr f ↦ absurd_bool g ((bad_forbids p c).1 f) ]),
    (λ a. bool_cases (good p c) (λ g. g) (λ g. absurd (not_both p c.oracles a ((bad_forbids p c).0 g)))),
  )

  -- 000 section 5.5, remark 2: the engine's starting configuration is a judged beginning
  pub initial_begins : Begins p (initial p)
  unfolding initial judged initial_state
  initial_begins =
      let counts : Counts p = counts_of_lem p (accepted_plan p ok).counts in
      let event : Letter p = (letter p (initial_state p), letter_lt p (initial_state p)) in
      record {
        initial-state =
            record {
              state = state_of_lem p ok (initial p) (sound_initial p (accepted_plan p ok));
              starts = λ c l. get_or-table 16 (λ k. cond (ltb k (components p)) (start_location p k) 0) 0 c (le_trans l counts.components≤) ∙ rw (lt-ltb c (components p) l) refl;
              silent = λ c l. get_or-table {A = ℕ} 16 (λ k. 255) 0 c (le_trans l counts.components≤);
              holds = λ v l. get_or-table 64 (λ k. cond (ltb k (variables p)) (start_value p k) (pos 0)) (pos 0) v (le_trans l counts.variables≤) ∙ rw (lt-ltb v (variables p) l) refl;
            };
        first_event = event;
        observed = event_of p (initial_state p);
        judged-first = reads_next p (start_states p) event;
      }

-- ---- the one beginning

initial-locations : (p : Plan) (q : State) → Init p q → q.locations ≡ (initial_state p).locations
unfolding initial_state
initial-locations p q h =
    let f : ℕ → ℕ = λ c. cond (ltb c (components p)) (start_location p c) 0 in
    ext_get_or 0 q.locations (table 16 f) (h.state.locations_long ∙ sym (length-table 16 f))
    (λ c m.
    let l : c < 16 = subst (λ (n : ℕ). c < n) h.state.locations_long m in
    bool_cases (ltb c (components p)) (λ t. h.starts c (ltb-true _ _ t) ∙ sym (get_or-table 16 f 0 c l ∙ rw t refl))
    (λ t. h.state.no_location c (ltb-false _ _ t) l ∙ sym (get_or-table 16 f 0 c l ∙ rw t refl)))

initial-ports : (p : Plan) (q : State) → Init p q → q.last_ports ≡ (initial_state p).last_ports
unfolding initial_state
initial-ports p q h =
    let f : ℕ → ℕ = λ c. 255 in
    ext_get_or 0 q.last_ports (table 16 f) (h.state.ports_long ∙ sym (length-table 16 f))
    (λ c m.
    let l : c < 16 = subst (λ (n : ℕ). c < n) h.state.ports_long m in
    bool_cases (ltb c (components p)) (λ t. h.silent c (ltb-true _ _ t) ∙ sym (get_or-table 16 f 0 c l))
    (λ t. h.state.no_port_lem c (ltb-false _ _ t) l ∙ sym (get_or-table 16 f 0 c l)))

initial_values : (p : Plan) (q : State) → Init p q → q.values ≡ (initial_state p).values
unfolding initial_state
initial_values p q h =
    let f : ℕ → ℤ = λ v. cond (ltb v (variables p)) (start_value p v) (pos 0) in
    ext_get_or (pos 0) q.values (table 64 f) (h.state.values_long ∙ sym (length-table 64 f))
    (λ v m.
    let l : v < 64 = subst (λ (n : ℕ). v < n) h.state.values_long m in
    bool_cases (ltb v (variables p)) (λ t. h.holds v (ltb-true _ _ t) ∙ sym (get_or-table 64 f (pos 0) v l ∙ rw t refl))
    (λ t. h.state.no_value v (ltb-false _ _ t) ∙ sym (get_or-table 64 f (pos 0) v l ∙ rw t refl)))

-- 001 definition 9: Init has one state
pub one_initial_state : (p : Plan) (q : State) → Init p q → q ≡ initial_state p
one_initial_state p q h =
    λ i. record { locations = initial-locations p q h i; last_ports = initial-ports p q h i; values = initial_values p q h i }

-- 000 section 5.5, remark 2: every judged beginning is the engine's starting configuration
pub begins_initial : (p : Plan) (c : Configuration) → Begins p c → c ≡ initial p
unfolding initial judged
begins_initial p c h =
    let s : c.state ≡ initial_state p = one_initial_state p c.state h.initial-state in
    let o : c.oracles ≡ next_states p (start_states p) (letter p (initial_state p))
    = reads_is h.judged-first ∙ ap (next_states p (start_states p)) (event_once p c.state h.first_event h.observed ∙ ap (letter p) s) in
    λ i. record { state = s i; oracles = o i }
