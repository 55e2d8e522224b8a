-- One move, 01 "One move": enabled, outranked, the state after a move, its event and the oracles' verdict.
use Rattle.std.specs.Prelude.{ℕ, zero, suc, min, Bool, not, cond, ◌&&◌, List, [], ◌∷◌, get_or, leb, ltb, eqb, pos}
use Rattle.semantics.specs.Bytes.{all_of, implies, every, some_below, lowest, table, mask}
use Rattle.semantics.specs.Plan.{Plan, max_components, max_variables, max_oracles, no_port, components, variables, transitions, interactions, propositions, added_oracles, oracles, oracle_states, start_states}
use Rattle.semantics.specs.Plan.{start_location, start_value}
use Rattle.semantics.specs.Plan.{component_of, source, port_of, destination, guard_of, action_of, port_in, takes_part, interaction_guard, transfer_of, below, proposition_of, verdict, next}
use Rattle.semantics.specs.Code.{State, guard_holds, acted}

-- A configuration (01's lane): the components' state, and the oracles' (four places, 0 where unused).
pub record Configuration : Type 0 where
  pub state : State
  pub oracles : List ℕ

-- Transition t of component c leaves its location through port q, and its guard holds.
unfoldable pub ready : Plan → State → ℕ → ℕ → ℕ → Bool
ready p s c q t =
    all_of (eqb (component_of p t) c ∷ eqb (source p t) (get_or s.locations c 0) ∷ eqb (port_of p t) q ∷ guard_holds p s (guard_of p t) ∷ [])

-- "The lowest-numbered such transition is used." The number of transitions where there is none.
unfoldable pub chosen : Plan → State → ℕ → ℕ → ℕ
chosen p s c q = lowest (transitions p) (ready p s c q)

-- The transition that component c, taking part, uses in interaction i.
unfoldable pub chosen_in : Plan → State → ℕ → ℕ → ℕ
chosen_in p s i c = chosen p s c (port_in p i c)

-- "An interaction is enabled when its guard holds and each component taking part has, at its location and that port, a
-- transition whose guard holds."
unfoldable pub enabled : Plan → State → ℕ → Bool
enabled p s i =
    all_of (guard_holds p s (interaction_guard p i) ∷ every (components p) (λ c. implies (takes_part p i c) (ltb (chosen_in p s i c) (transitions p))) ∷ [])

-- 02, job 3: "Outranked now means that an enabled, unmarked interaction lies above." The marks are a set of interactions.
unfoldable pub outranked : Plan → State → (ℕ → Bool) → ℕ → Bool
outranked p s marked i = some_below (interactions p) (λ j. all_of (below p i j ∷ enabled p s j ∷ not (marked j) ∷ []))

-- Enabled and not outranked: an unmarked one is what the priority rule of BIP lets pass where the marked are disabled (002, remark 7).
unfoldable pub eligible : Plan → State → (ℕ → Bool) → ℕ → Bool
eligible p s marked i = all_of (enabled p s i ∷ not (outranked p s marked i) ∷ [])

-- "All guards read the old state. Then come the transfer, each action word by word": the transfer, then the actions of the
-- components below n that take part. The transitions are those that the state s, before the move, chose.
unfoldable pub acted_below : Plan → State → ℕ → ℕ → State
acted_below p s i zero = acted p s (transfer_of p i)
acted_below p s i (suc n) = let r = acted_below p s i n in cond (takes_part p i n) (acted p r (action_of p (chosen_in p s i n))) r

-- ".. the destinations and the last ports. A component that takes no part keeps its last port", and its location.
unfoldable pub fired : Plan → State → ℕ → State
fired p s i =
    record {
      locations = table max_components (λ c. cond (takes_part p i c) (destination p (chosen_in p s i c)) (get_or s.locations c 0));
      last_ports = table max_components (λ c. cond (takes_part p i c) (port_in p i c) (get_or s.last_ports c 0));
      values = (acted_below p s i (components p)).values;
    }

-- "The event's letter is the sum of 2^k over true propositions k of the new state."
unfoldable pub letter : Plan → State → ℕ
letter p s = mask (propositions p) (λ k. guard_holds p s (proposition_of p k))

-- 02, job 1: "more oracles over the same propositions". The states when each of them has read the letter a.
unfoldable pub next_states : Plan → List ℕ → ℕ → List ℕ
next_states p qs a = table max_oracles (λ n. cond (ltb n (oracles p)) (next p n (get_or qs n 0) a) 0)

-- The configuration when the oracles in the states qs have read the event of the state s.
unfoldable pub judged : Plan → List ℕ → State → Configuration
judged p qs s = record { state = s; oracles = next_states p qs (letter p s) }

-- The configuration after interaction i: the new state, its event read.
unfoldable pub after : Plan → Configuration → ℕ → Configuration
after p c i = judged p c.oracles (fired p c.state i)

-- 13 has "oracle state at or above S" refused: a state that oracle n has. Where the plan has no oracle n, 02, job 1: "zero where unused".
unfoldable pub state_in_range : Plan → ℕ → ℕ → Bool
state_in_range p n q = cond (ltb n (oracles p)) (ltb q (oracle_states p n)) (eqb q 0)

-- The same of all four.
unfoldable pub oracles_in_range : Plan → List ℕ → Bool
oracles_in_range p qs = every max_oracles (λ n. state_in_range p n (get_or qs n 0))

-- 02, job 1: "The verdict of a move, and of the starting state, is the lowest of all the oracles' verdicts": of the first oracle and n more.
unfoldable pub lowest_verdict : Plan → List ℕ → ℕ → ℕ
lowest_verdict p qs zero = verdict p 0 (get_or qs 0 0)
lowest_verdict p qs (suc n) = min (lowest_verdict p qs n) (verdict p (suc n) (get_or qs (suc n) 0))

-- The verdict of the oracles' states is v or more.
unfoldable pub reaches : Plan → ℕ → List ℕ → Bool
reaches p v qs = leb v (lowest_verdict p qs (added_oracles p))

-- "A state is good when the oracle's new verdict is not 0"; 02, job 6: "For one tried or settled move, for marks, for the log check, for 13 and for 15, only verdicts 2
-- and 3 are good."
unfoldable pub good : Plan → Configuration → Bool
good p c = reaches p 2 c.oracles

-- 02, job 6, of an entry of a list: "its verdict is not 0". A state of verdict 1, 002's currently false, is tolerable and not good.
unfoldable pub tolerable : Plan → Configuration → Bool
tolerable p c = reaches p 1 c.oracles

-- The move is enabled and leads to a verdict of v or more.
unfoldable pub leads : Plan → ℕ → Configuration → ℕ → Bool
leads p v c i = all_of (enabled p c.state i ∷ reaches p v (after p c i).oracles ∷ [])

-- Such a move lies above interaction i.
unfoldable pub leads_above : Plan → ℕ → Configuration → ℕ → Bool
leads_above p v c i = some_below (interactions p) (λ j. below p i j && leads p v c j)

-- The move is enabled and ends good: what the monitor of 002 lets be done.
unfoldable pub safe : Plan → Configuration → ℕ → Bool
safe p c i = leads p 2 c i

-- 02, job 3: ".. this ranking, where an enabled good move above is what outranks".
unfoldable pub dominated : Plan → Configuration → ℕ → Bool
dominated p c i = leads_above p 2 c i

-- The move may be committed: it "is enabled, good, and has no enabled good move above it". BIP's priority rule over the monitor's commits.
unfoldable pub may_commit : Plan → Configuration → ℕ → Bool
may_commit p c i = all_of (safe p c i ∷ not (dominated p c i) ∷ [])

-- "Settling commits the lowest-numbered" such move: that move, or I where there is none.
unfoldable pub safe_move : Plan → Configuration → ℕ
safe_move p c = lowest (interactions p) (may_commit p c)

-- The configuration after the listed moves in turn.
unfoldable pub replay : Plan → Configuration → List ℕ → Configuration
replay p c [] = c
replay p c (i ∷ is) = replay p (after p c i) is

-- Each component at its starting location, no last port yet, each variable at its starting value; unused entries as the image has them.
unfoldable pub initial_state : Plan → State
initial_state p =
    record {
      locations = table max_components (λ c. cond (ltb c (components p)) (start_location p c) 0);
      last_ports = table max_components (λ c. no_port);
      values = table max_variables (λ v. cond (ltb v (variables p)) (start_value p v) (pos 0));
    }

-- "The oracle also reads the starting state's event (000), so a run begins judged."
unfoldable pub initial : Plan → Configuration
initial p = judged p (start_states p) (initial_state p)
