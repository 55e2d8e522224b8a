-- The meaning before job 1 of 02, for the theorem that old plans mean what they meant; no call cites it.
-- Here stand the definitions that moved with job 1, and those over them, with one oracle. What did not move with it is as it stands now: sums stop at the ends
-- (`Wrapping` says where job 2 made them differ), the ranking is that of job 3 (`OldRanking` says what it kept), and verdict 1 and lists are those of job 6 (`OldVerdicts`). The theorem speaks of the oracles.
use Prim.Native.Nat.{ℕ, zero, suc, ◌+◌, ◌*◌}
use mathlib.Core.Bool.{Bool, not, cond, ◌&&◌, ◌||◌}
use mathlib.Core.List.{List, [], ◌∷◌, ◌++◌}
use lib.ListN.{length, get_or, take, drop}
use lib.Dec.{leb, ltb, eqb}
use Rattle.semantics.specs.Bytes.{entries, byte, u16, u32, le_bytes, all_of, implies, every, some_below, lowest, table, bit, mask, with_bit}
use Rattle.semantics.specs.Signed.{signed}
use Rattle.semantics.specs.Plan.{Plan, max_components, max_variables, max_interactions, number_byte, total_length, components, variables, transitions, interactions, propositions, first_oracle, code_words, letters, section, below}
use Rattle.semantics.specs.Code.{State}
use Rattle.semantics.specs.Refusal.{Rule, rule, refusal}
use Rattle.semantics.specs.Rules.{within, component_ok, variable_ok, transition_ok, interaction_ok, rank_ok, verdict_ok, code_rules}
use Rattle.semantics.specs.Move.{enabled, outranked, eligible, fired, letter, initial_state}
use Rattle.semantics.specs.Image.{Image, locations_place, last_ports_place, value_place, value_bytes, with_marks, marks_of, location_ok, last_port_ok, value_ok, length_rule}
use Rattle.semantics.specs.Calls.{Answer, accepted, offers, committed, cancelled, stalled, penned, Outcome, outcome, unless_refused, Call, offered, try, settle, list}
use Rattle.semantics.specs.Load.{list_rules}

-- ---- the plan

-- Bytes 42 to 47, which are zero: byte k of them.
abbrev pub reserved_byte : Plan → ℕ → ℕ
reserved_byte p k = byte p (42 + k)

-- "20 oracle states S".
abbrev pub oracle_states : Plan → ℕ
oracle_states p = u16 p 20

-- The size in bytes of section n, by its bullet.
unfoldable pub section_size : Plan → ℕ → ℕ
section_size p n =
    get_or ((4 * components p) ∷ (8 * variables p) ∷ (12 * transitions p) ∷ (24 * interactions p) ∷ (8 * interactions p)
    ∷ (4 * propositions p) ∷ ((1 + letters p) * oracle_states p) ∷ (2 * code_words p) ∷ []) n 0

-- "The first section begins at 48, each next one where the last ended."
unfoldable pub section_start : Plan → ℕ → ℕ
section_start p zero = 48
section_start p (suc n) = section_start p n + section_size p n

-- "Oracle state, 1 + 2^K: verdict, then the next state for each letter."
abbrev pub oracle_at : Plan → ℕ → ℕ
oracle_at p q = section p 6 + (1 + letters p) * q

unfoldable pub verdict : Plan → ℕ → ℕ
verdict p q = byte p (oracle_at p q)

unfoldable pub next : Plan → ℕ → ℕ → ℕ
next p q a = byte p (oracle_at p q + (1 + a))

-- ---- the planner's refusals

-- 1: "fewer than 48 bytes, wrong letters, or bytes 42–47 not zero".
unfoldable pub head_ok : Plan → Bool
head_ok p =
    all_of (leb 48 (length p) ∷ eqb (byte p 0) 80 ∷ eqb (byte p 1) 76 ∷ eqb (byte p 2) 65 ∷ eqb (byte p 3) 78
    ∷ every 6 (λ k. eqb (reserved_byte p k) 0) ∷ [])

-- 2: "a count or the first oracle state outside its range".
unfoldable pub counts_ok : Plan → Bool
counts_ok p =
    all_of (within 1 max_components (components p) ∷ leb (variables p) max_variables ∷ leb (transitions p) 256
    ∷ within 1 max_interactions (interactions p) ∷ leb (propositions p) 4 ∷ within 1 32 (oracle_states p)
    ∷ ltb (first_oracle p) (oracle_states p) ∷ leb (code_words p) 4096 ∷ [])

-- 3: "an offset, the stated length or the slice's own length is not as the counts give".
unfoldable pub layout_ok : Plan → Bool
layout_ok p =
    all_of (every 8 (λ n. eqb (section p n) (section_start p n)) ∷ eqb (total_length p) (section_start p 8) ∷ eqb (length p) (section_start p 8) ∷ [])

-- 9: "a next state at or above S, a bad state with a follower that is not bad, a 3 state with a follower that is not 3".
unfoldable pub follower_ok : Plan → ℕ → ℕ → Bool
follower_ok p q r =
    all_of (ltb r (oracle_states p) ∷ implies (eqb (verdict p q) 0) (eqb (verdict p r) 0) ∷ implies (eqb (verdict p q) 3) (eqb (verdict p r) 3) ∷ [])

unfoldable pub oracle_ok : Plan → ℕ → Bool
oracle_ok p q = all_of (verdict_ok (verdict p q) ∷ every (letters p) (λ a. follower_ok p q (next p q a)) ∷ [])

-- 01, "The planner": 1 to 10, in order. First the header, then the tables, then the code.
abbrev pub header_rules : Plan → List Rule
header_rules p = rule 1 (head_ok p) ∷ rule 2 (counts_ok p) ∷ rule 3 (layout_ok p) ∷ []

abbrev pub table_rules : Plan → List Rule
table_rules p =
    rule 4 (every (components p) (component_ok p)) ∷ rule 5 (every (variables p) (variable_ok p)) ∷ rule 6 (every (transitions p) (transition_ok p))
    ∷ rule 7 (every (interactions p) (interaction_ok p)) ∷ rule 8 (every (interactions p) (rank_ok p))
    ∷ rule 9 (every (oracle_states p) (oracle_ok p)) ∷ []

unfoldable pub plan_rules : Plan → List Rule
plan_rules p = header_rules p ++ table_rules p ++ code_rules p

-- The number of the first refusal of 1 to 10 that applies; 0 for an accepted plan.
unfoldable pub plan_refusal : Plan → ℕ
plan_refusal p = refusal (plan_rules p)

-- ---- one move

-- A configuration (01's lane): the components' state and the oracle's.
pub record Configuration : Type 0 where
  pub state : State
  pub oracle : ℕ

-- The configuration when the oracle in state q has read the event of the state s.
unfoldable pub judged : Plan → ℕ → State → Configuration
judged p q s = record { state = s; oracle = next p q (letter p s) }

-- The configuration after interaction i: the new state, its event read.
unfoldable pub after : Plan → Configuration → ℕ → Configuration
after p c i = judged p c.oracle (fired p c.state i)

-- An oracle state that the plan has.
unfoldable pub oracle_in_range : Plan → ℕ → Bool
oracle_in_range p q = ltb q (oracle_states p)

-- "A state is good when the oracle's new verdict is" 2 or 3.
unfoldable pub good : Plan → Configuration → Bool
good p c = leb 2 (verdict p c.oracle)

-- Its verdict is not 0.
unfoldable pub tolerable : Plan → Configuration → Bool
tolerable p c = leb 1 (verdict p c.oracle)

-- The move is enabled and ends good.
unfoldable pub safe : Plan → Configuration → ℕ → Bool
safe p c i = all_of (enabled p c.state i ∷ good p (after p c i) ∷ [])

-- An enabled good move lies above.
unfoldable pub dominated : Plan → Configuration → ℕ → Bool
dominated p c i = some_below (interactions p) (λ j. below p i j && safe p c j)

-- The move may be committed.
unfoldable pub may_commit : Plan → Configuration → ℕ → Bool
may_commit p c i = all_of (safe p c i ∷ not (dominated p c i) ∷ [])

-- The lowest such move, or I where there is none.
unfoldable pub safe_move : Plan → Configuration → ℕ
safe_move p c = lowest (interactions p) (may_commit p c)

-- The configuration after the listed moves in turn.
unfoldable pub replay : Plan → Configuration → List ℕ → Configuration
replay p c [] = c
replay p c (i ∷ is) = replay p (after p c i) is

-- An entry of a list is allowed.
unfoldable pub passable : Plan → Configuration → ℕ → Bool
passable p c i = all_of (enabled p c.state i ∷ tolerable p (after p c i) ∷ [])

unfoldable pub entry_allowed : Plan → Configuration → ℕ → Bool
entry_allowed p c i =
    all_of (ltb i (interactions p) ∷ passable p c i ∷ not (some_below (interactions p) (λ j. below p i j && passable p c j)) ∷ [])

-- Where a list stops, and whether it completes.
unfoldable pub stops_at : Plan → Configuration → List ℕ → ℕ
stops_at p c [] = 0
stops_at p c (i ∷ is) = cond (entry_allowed p c i) (suc (stops_at p (after p c i) is)) 0

unfoldable pub completes : Plan → Configuration → List ℕ → Bool
completes p c is = all_of (eqb (stops_at p c is) (length is) ∷ good p (replay p c is) ∷ [])

-- "The oracle also reads the starting state's event (000), so a run begins judged."
unfoldable pub initial : Plan → Configuration
initial p = judged p (first_oracle p) (initial_state p)

-- ---- the image

abbrev pub oracle_place : ℕ
oracle_place = 8

-- "0–3 the letters YARD; 4 form, 1; 5 C; 6 V; 7 I; 8 oracle state; 9–11 zero; 12–15 plan number".
unfoldable pub head : Plan → ℕ → List ℕ
head p q =
    89 ∷ 65 ∷ 82 ∷ 68 ∷ 1 ∷ components p ∷ variables p ∷ interactions p ∷ q ∷ 0 ∷ 0 ∷ 0 ∷ number_byte p 0 ∷ number_byte p 1 ∷ number_byte p 2
    ∷ number_byte p 3 ∷ []

-- ".. 16–23 marks; 24–39 locations; 40–55 last ports (255 none yet); 56–311 values."
unfoldable pub image : Plan → Configuration → ℕ → Image
image p c m = head p c.oracle ++ le_bytes 8 m ++ c.state.locations ++ c.state.last_ports ++ value_bytes c.state.values

-- What an image holds.
unfoldable pub configuration_of : Image → Configuration
configuration_of b =
    record {
      state =
          record {
            locations = take max_components (drop locations_place b);
            last_ports = take max_components (drop last_ports_place b);
            values = table max_variables (λ v. signed (u32 b (value_place v)));
          };
      oracle = byte b oracle_place;
    }

-- 12: "bytes 0–7 or 9–15 do not match form 1 and the plan".
unfoldable pub head_matches : Plan → Image → Bool
head_matches p b = every 16 (λ k. eqb k oracle_place || eqb (byte b k) (byte (head p 0) k))

-- 13: "oracle state at or above S or bad" too.
unfoldable pub configuration_ok : Plan → Configuration → Bool
configuration_ok p c =
    all_of (oracle_in_range p c.oracle ∷ good p c ∷ every max_components (location_ok p c.state) ∷ every max_components (last_port_ok p c.state)
    ∷ every max_variables (value_ok p c.state) ∷ [])

-- 14: "a mark at or above I, or on an interaction that is not enabled, is outranked, or would end in a good state".
unfoldable pub mark_ok : Plan → Configuration → (ℕ → Bool) → ℕ → Bool
mark_ok p c marked i = all_of (ltb i (interactions p) ∷ eligible p c.state marked i ∷ not (good p (after p c i)) ∷ [])

unfoldable pub marks_ok : Plan → Configuration → ℕ → Bool
marks_ok p c m = every max_interactions (λ i. implies (bit m i) (mark_ok p c (bit m) i))

-- 01, "The caller's programmer" and "The keeper of the image": 11 to 14, in order.
unfoldable pub image_rules : Plan → Image → List Rule
image_rules p b =
    length_rule b ∷ rule 12 (head_matches p b) ∷ rule 13 (configuration_ok p (configuration_of b)) ∷ rule 14 (marks_ok p (configuration_of b) (marks_of b)) ∷ []

-- ---- the calls

-- Check a plan: 1 to 10. It lends no image.
unfoldable pub check : Plan → Answer
check p = (unless_refused (refusal (plan_rules p)) [] (outcome accepted [])).answer

-- "Start skips 12–14, since it overwrites the image"; "15: at start only, the starting state is bad".
unfoldable pub start_rules : Plan → Image → List Rule
start_rules p b = plan_rules p ++ length_rule b ∷ rule 15 (good p (initial p)) ∷ []

unfoldable pub start : Plan → Image → Outcome
start p b = unless_refused (refusal (start_rules p b)) b (outcome accepted (image p (initial p) 0))

-- "16: the number is I or more. 17: not enabled. 18: outranked. 19: marked."
unfoldable pub clerk_rules : Plan → Image → ℕ → List Rule
clerk_rules p b i =
    rule 16 (ltb i (interactions p)) ∷ rule 17 (enabled p (configuration_of b).state i) ∷ rule 18 (not (outranked p (configuration_of b).state (bit (marks_of b)) i))
    ∷ rule 19 (not (bit (marks_of b) i)) ∷ []

-- "Offered means enabled, unoutranked, unmarked. The offered answer is a 64-bit number with bit i for interaction i."
unfoldable pub offered_mask : Plan → Image → ℕ
offered_mask p b = mask (interactions p) (λ i. all_of (eligible p (configuration_of b).state (bit (marks_of b)) i ∷ not (bit (marks_of b) i) ∷ []))

-- "A good move is committed: new state, new oracle state, marks cleared. A bad one is cancelled: its mark is set and no other byte differs."
unfoldable pub tried : Plan → Image → ℕ → Outcome
tried p b i =
    cond (good p (after p (configuration_of b) i)) (outcome (committed i) (image p (after p (configuration_of b) i) 0))
    (outcome (cancelled i) (with_marks b (with_bit (marks_of b) i)))

-- Settling commits the safe move; with none it answers stalled or penned.
unfoldable pub settled : Plan → Image → Outcome
settled p b =
    let i = safe_move p (configuration_of b) in
    cond (ltb i (interactions p)) (outcome (committed i) (image p (after p (configuration_of b) i) 0))
    (cond (some_below (interactions p) (enabled p (configuration_of b).state))
    (outcome penned (with_marks b (mask (interactions p) (enabled p (configuration_of b).state)))) (outcome stalled b))

-- A list is committed whole, or nothing changes.
unfoldable pub handed_in : Plan → Image → List ℕ → Outcome
handed_in p b is =
    cond (completes p (configuration_of b) is) (outcome (committed (length is)) (image p (replay p (configuration_of b) is) 0))
    (outcome (cancelled (stops_at p (configuration_of b) is)) b)

-- Each call's refusals, in order: offered and settle 1 to 14, try 1 to 14 and then 16 to 19, a list 1 to 14 and then 22.
unfoldable pub call_rules : Plan → Image → Call → List Rule
call_rules p b offered = plan_rules p ++ image_rules p b
call_rules p b (try i) = plan_rules p ++ image_rules p b ++ clerk_rules p b i
call_rules p b settle = plan_rules p ++ image_rules p b
call_rules p b (list l) = plan_rules p ++ image_rules p b ++ list_rules l

-- What a call does that is not refused.
unfoldable pub performed : Plan → Image → Call → Outcome
performed p b offered = outcome (offers (offered_mask p b)) b
performed p b (try i) = tried p b i
performed p b settle = settled p b
performed p b (list l) = handed_in p b (entries l)

unfoldable pub called : Plan → Image → Call → Outcome
called p b k = unless_refused (refusal (call_rules p b k)) b (performed p b k)

-- A sequence of calls, each handed the bytes that the last one left.
unfoldable pub called_all : Plan → Image → List Call → List Outcome
called_all p b [] = []
called_all p b (k ∷ ks) = called p b k ∷ called_all p (called p b k).image ks

-- The same after a start: the start's outcome first.
unfoldable pub session : Plan → Image → List Call → List Outcome
session p b ks = start p b ∷ called_all p (start p b).image ks
