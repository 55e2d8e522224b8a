-- The check of a simulator's log, 02, job 4: whether the moves that it lists are a run from the starting state. The call is lent a plan and a log, and no image.
use Rattle.std.specs.Prelude.{ℕ, suc, ◌%◌, Bool, not, cond, List, [], ◌∷◌, ◌++◌, length, ltb, eqb}
use Rattle.semantics.specs.Bytes.{entries, le_bytes, all_of}
use Rattle.semantics.specs.Plan.{Plan, interactions}
use Rattle.semantics.specs.Refusal.{Rule, rule, refusal}
use Rattle.semantics.specs.Rules.{plan_rules}
use Rattle.semantics.specs.Move.{Configuration, enabled, after, reaches, good, leads_above, initial}
use Rattle.semantics.specs.Calls.{Answer, accepted, outcome, unless_refused}

-- A log is its bytes: "the moves it made, 16 bits each" (`entries`).
abbrev pub Log : Type 0
Log = List ℕ

-- Moves written as a log.
unfoldable pub log_of : List ℕ → Log
log_of [] = []
log_of (i ∷ is) = le_bytes 2 i ++ log_of is

-- "the first cause that fits it: 16, 17 or 18 with their conditions, then bad", of a move that is to lead to a verdict of v or more: 18 means that an enabled one above
-- does. For a log v is 2; with 1 the entries of a list pass that are allowed (Load).
unfoldable pub cause_rules : Plan → ℕ → Configuration → ℕ → List Rule
cause_rules p v c i = rule 16 (ltb i (interactions p)) ∷ rule 17 (enabled p c.state i) ∷ rule 18 (not (leads_above p v c i)) ∷ []

-- The first of these that fits; 0 where none does: the move passes then, or its own verdict is less than v.
unfoldable pub cause_from : Plan → ℕ → Configuration → ℕ → ℕ
cause_from p v c i = refusal (cause_rules p v c i)

-- A move to which none of these applies, and which leads to v or more.
unfoldable pub passes : Plan → ℕ → Configuration → ℕ → Bool
passes p v c i = all_of (eqb (cause_from p v c i) 0 ∷ reaches p v (after p c i).oracles ∷ [])

-- "For this test 18 means that an enabled good move lies above." Bad has the number 0.
unfoldable pub cause : Plan → Configuration → ℕ → ℕ
cause p c i = cause_from p 2 c i

-- An entry that is not wrong.
unfoldable pub right : Plan → Configuration → ℕ → Bool
right p c i = passes p 2 c i

-- Kind 6, wrong: the cause, and "the index, from 0, of the first wrong entry", which a second call gives.
abbrev pub wrong : ℕ → ℕ → Answer
wrong n k = record { kind = 6; number = n; bits = k }

-- The entries from number k on, in the configuration that those before them left: accepted, or what is wrong with the first one that is.
unfoldable pub walked : Plan → Configuration → ℕ → List ℕ → Answer
walked p c k [] = accepted
walked p c k (i ∷ is) = cond (right p c i) (walked p (after p c i) (suc k) is) (wrong (cause p c i) k)

-- "21 when the log has an odd number of bytes; it is tested after the plan's numbers and before 15."
unfoldable pub log_rules : Plan → Log → List Rule
log_rules p l = plan_rules p ++ rule 21 (eqb (length l % 2) 0) ∷ rule 15 (good p (initial p)) ∷ []

-- "hear whether it is a run from the starting state"; "Past 15, empty logs are accepted."
unfoldable pub check_log : Plan → Log → Answer
check_log p l = (unless_refused (refusal (log_rules p l)) [] (outcome (walked p (initial p) 0 (entries l)) [])).answer

-- The index of the first wrong entry; 0 where there is none.
unfoldable pub log_index : Plan → Log → ℕ
log_index p l = (check_log p l).bits
