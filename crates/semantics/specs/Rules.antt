-- The planner's refusals, 1 to 10 and 20: when a plan's bytes are a lawful plan.
use Rattle.std.specs.Prelude.{ℕ, suc, ◌+◌, Bool, not, cond, ◌&&◌, ◌||◌, List, [], ◌∷◌, ◌++◌, length, leb, ltb, eqb}
use Rattle.semantics.specs.Bytes.{byte, all_of, implies, every, some_below}
use Rattle.semantics.specs.Plan.{Plan, max_components, max_variables, max_interactions, max_oracles, no_port, reserved_byte, total_length, components, variables, transitions, interactions, propositions}
use Rattle.semantics.specs.Plan.{first_oracle, added_oracles, oracles, oracle_states, code_words, letters, section, section_start, component_at, locations, start_location, ports, variable_at, owner, component_of, source}
use Rattle.semantics.specs.Plan.{port_of, destination, guard_of, action_of, port_in, takes_part, interaction_guard, transfer_of, below, proposition_of, verdict, next}
use Rattle.semantics.specs.Code.{as_guard, as_update, as_proposition, owned_by, shared_in, declared, span_ok}
use Rattle.semantics.specs.Refusal.{Rule, rule, refusal}

-- low ≤ n ≤ high
unfoldable pub within : ℕ → ℕ → ℕ → Bool
within low high n = all_of (leb low n ∷ leb n high ∷ [])

-- 1: "fewer than 48 bytes, wrong letters, or bytes 42–47 not zero", of which 02, job 1, leaves 46 and 47. The letters PLAN are the bytes 80 76 65 78.
unfoldable pub head_ok : Plan → Bool
head_ok p =
    all_of (leb 48 (length p) ∷ eqb (byte p 0) 80 ∷ eqb (byte p 1) 76 ∷ eqb (byte p 2) 65 ∷ eqb (byte p 3) 78
    ∷ every 2 (λ k. eqb (reserved_byte p k) 0) ∷ [])

-- 2: the states of oracle n, "1–32"; 02, job 1: of an added one "zero where unused".
unfoldable pub state_count_ok : Plan → ℕ → Bool
state_count_ok p n = cond (ltb n (oracles p)) (within 1 32 (oracle_states p n)) (eqb (oracle_states p n) 0)

-- 2, 02, job 1: "how many (0–3)" and "their state counts"; "Anything else in these four is met by 2".
unfoldable pub oracle_counts_ok : Plan → Bool
oracle_counts_ok p = all_of (leb (added_oracles p) 3 ∷ every max_oracles (state_count_ok p) ∷ [])

-- 2: "a count or the first oracle state outside its range".
unfoldable pub counts_ok : Plan → Bool
counts_ok p =
    all_of (within 1 max_components (components p) ∷ leb (variables p) max_variables ∷ leb (transitions p) 256
    ∷ within 1 max_interactions (interactions p) ∷ leb (propositions p) 4 ∷ oracle_counts_ok p
    ∷ ltb (first_oracle p) (oracle_states p 0) ∷ leb (code_words p) 4096 ∷ [])

-- 3: "an offset, the stated length or the slice's own length is not as the counts give".
unfoldable pub layout_ok : Plan → Bool
layout_ok p =
    all_of (every 8 (λ n. eqb (section p n) (section_start p n)) ∷ eqb (total_length p) (section_start p 8) ∷ eqb (length p) (section_start p 8) ∷ [])

-- 4: "locations (1–16), starting location, ports (1–16), zero".
unfoldable pub component_ok : Plan → ℕ → Bool
component_ok p c =
    all_of (within 1 16 (locations p c) ∷ ltb (start_location p c) (locations p c) ∷ within 1 16 (ports p c)
    ∷ eqb (byte p (component_at p c + 3)) 0 ∷ [])

-- 5: "owner, three zeros, starting value".
unfoldable pub variable_ok : Plan → ℕ → Bool
variable_ok p v = all_of (ltb (owner p v) (components p) ∷ every 3 (λ k. eqb (byte p (variable_at p v + (1 + k))) 0) ∷ [])

-- 6: "component, source, port, destination", each one that the plan has.
unfoldable pub transition_ok : Plan → ℕ → Bool
transition_ok p t =
    all_of (ltb (component_of p t) (components p) ∷ ltb (source p t) (locations p (component_of p t))
    ∷ ltb (port_of p t) (ports p (component_of p t)) ∷ ltb (destination p t) (locations p (component_of p t)) ∷ [])

-- 7: "sixteen port bytes, 255 for a component that takes no part and for components from C up".
unfoldable pub port_ok : Plan → ℕ → ℕ → Bool
port_ok p i c = eqb (port_in p i c) no_port || all_of (ltb c (components p) ∷ ltb (port_in p i c) (ports p c) ∷ [])

-- 7: "At least one component takes part."
unfoldable pub interaction_ok : Plan → ℕ → Bool
interaction_ok p i = all_of (every max_components (port_ok p i) ∷ some_below max_components (takes_part p i) ∷ [])

-- 8: "a rank bit at or above I, an interaction below itself, or i below j and j below k without i below k".
unfoldable pub rank_ok : Plan → ℕ → Bool
rank_ok p i =
    all_of (every max_interactions (λ j. implies (below p i j) (ltb j (interactions p))) ∷ not (below p i i)
    ∷ every (interactions p) (λ j. every (interactions p) (λ k. implies (below p i j && below p j k) (below p i k))) ∷ [])

-- 9: "a verdict other than 0, 2, 3", of which 02, job 6, makes 1 lawful, "with no rule on its followers".
unfoldable pub verdict_ok : ℕ → Bool
verdict_ok v = leb v 3

-- 9: "a next state at or above S, a bad state with a follower that is not bad, a 3 state with a follower that is not 3", of oracle n. 02, job 6: "In the rules of 9
-- and 20 a bad state is still one of verdict 0."
unfoldable pub follower_ok : Plan → ℕ → ℕ → ℕ → Bool
follower_ok p n q r =
    all_of (ltb r (oracle_states p n) ∷ implies (eqb (verdict p n q) 0) (eqb (verdict p n r) 0)
    ∷ implies (eqb (verdict p n q) 3) (eqb (verdict p n r) 3) ∷ [])

-- 9: the rule of one state of oracle n.
unfoldable pub oracle_ok : Plan → ℕ → ℕ → Bool
oracle_ok p n q = all_of (verdict_ok (verdict p n q) ∷ every (letters p) (λ a. follower_ok p n q (next p n q a)) ∷ [])

-- 9: the table of oracle n.
unfoldable pub table_ok : Plan → ℕ → Bool
table_ok p n = every (oracle_states p n) (oracle_ok p n)

-- 10: "a span whose start plus length exceeds W, or any rule under "Code words" broken".
unfoldable pub transition_code : Plan → ℕ → Bool
transition_code p t =
    all_of (span_ok p as_guard (owned_by p (component_of p t)) (guard_of p t) ∷ span_ok p as_update (owned_by p (component_of p t)) (action_of p t) ∷ [])

unfoldable pub interaction_code : Plan → ℕ → Bool
interaction_code p i = all_of (span_ok p as_guard (shared_in p i) (interaction_guard p i) ∷ span_ok p as_update (shared_in p i) (transfer_of p i) ∷ [])

unfoldable pub proposition_code : Plan → ℕ → Bool
proposition_code p k = span_ok p as_proposition (declared p) (proposition_of p k)

unfoldable pub code_ok : Plan → Bool
code_ok p =
    all_of (every (transitions p) (transition_code p) ∷ every (interactions p) (interaction_code p) ∷ every (propositions p) (proposition_code p) ∷ [])

-- 01, "The planner": 1 to 10, in order. First the header, then the tables, then the code. 02, job 1: "20 when an added table breaks the rule of 9; it is
-- tested after 9 and before 10."
abbrev pub header_rules : Plan → List Rule
header_rules p = rule 1 (head_ok p) ∷ rule 2 (counts_ok p) ∷ rule 3 (layout_ok p) ∷ []

abbrev pub table_rules : Plan → List Rule
table_rules p =
    rule 4 (every (components p) (component_ok p)) ∷ rule 5 (every (variables p) (variable_ok p)) ∷ rule 6 (every (transitions p) (transition_ok p))
    ∷ rule 7 (every (interactions p) (interaction_ok p)) ∷ rule 8 (every (interactions p) (rank_ok p))
    ∷ rule 9 (table_ok p 0) ∷ rule 20 (every (added_oracles p) (λ k. table_ok p (suc k))) ∷ []

abbrev pub code_rules : Plan → List Rule
code_rules p = rule 10 (code_ok p) ∷ []

unfoldable pub plan_rules : Plan → List Rule
plan_rules p = header_rules p ++ table_rules p ++ code_rules p

-- The number of the first refusal that applies; 0 for an accepted plan.
unfoldable pub plan_refusal : Plan → ℕ
plan_refusal p = refusal (plan_rules p)
