-- The answers and the calls, from the plan's bytes and the image's to the answer and the image's bytes afterwards. Each call reads its image.
use Rattle.std.specs.Prelude.{ℕ, zero, suc, ◌+◌, ◌*◌, not, cond, List, [], ◌∷◌, ◌++◌, length, ltb}
use Rattle.semantics.specs.Bytes.{entries, all_of, some_below, bit, mask, with_bit}
use Rattle.semantics.specs.Plan.{Plan, interactions}
use Rattle.semantics.specs.Refusal.{Rule, rule, refusal}
use Rattle.semantics.specs.Rules.{plan_rules}
use Rattle.semantics.specs.Move.{enabled, outranked, eligible, after, good, safe_move, replay, initial}
use Rattle.semantics.specs.Image.{Image, image, with_marks, marks_of, configuration_of, length_rule, image_rules}
use Rattle.semantics.specs.Load.{list_rules, stops_at, completes}

-- "Other answers are a kind .. and a number"; "An accepted offered call answers kind 0, number 0 and the bits; a refused one kind 5,
-- its number and no bits." The bits are what a second call returns; of a log (02, job 4) they are an index.
pub record Answer : Type 0 where
  pub kind : ℕ
  pub number : ℕ
  pub bits : ℕ

-- "(0 accepted, 1 committed, 2 cancelled, 3 stalled, 4 penned, 5 refused) and a number: the interaction for 1 and 2, the refusal
-- for 5, else 0"; of a list (02, job 6) the number of entries for 1, and an index for 2. Stalled: nothing is enabled. Penned: something is, and settling found no
-- move that ends good.
abbrev pub accepted : Answer
accepted = record { kind = 0; number = 0; bits = 0 }

abbrev pub offers : ℕ → Answer
offers m = record { kind = 0; number = 0; bits = m }

abbrev pub committed : ℕ → Answer
committed i = record { kind = 1; number = i; bits = 0 }

abbrev pub cancelled : ℕ → Answer
cancelled i = record { kind = 2; number = i; bits = 0 }

abbrev pub stalled : Answer
stalled = record { kind = 3; number = 0; bits = 0 }

abbrev pub penned : Answer
penned = record { kind = 4; number = 0; bits = 0 }

abbrev pub refused : ℕ → Answer
refused n = record { kind = 5; number = n; bits = 0 }

-- "To it an answer is one number, kind times 65536 plus the answer's number".
unfoldable pub packed : Answer → ℕ
packed a = a.kind * 65536 + a.number

-- An answer and the image's bytes after it.
pub record Outcome : Type 0 where
  pub answer : Answer
  pub image : Image

abbrev pub outcome : Answer → Image → Outcome
outcome a b = record { answer = a; image = b }

-- "Every refusal changes no byte": where a rule is broken the answer is its number and the image as it was.
unfoldable pub unless_refused : ℕ → Image → Outcome → Outcome
unless_refused zero b o = o
unless_refused (suc n) b o = outcome (refused (suc n)) b

-- Check a plan: 1 to 10 and 20. It lends no image.
unfoldable pub check : Plan → Answer
check p = (unless_refused (refusal (plan_rules p)) [] (outcome accepted [])).answer

-- "Start skips 12–14, since it overwrites the image"; "15: at start only, the starting state is bad" (and, by 02, job 4, of a log: Log).
unfoldable pub start_rules : Plan → Image → List Rule
start_rules p b = plan_rules p ++ length_rule b ∷ rule 15 (good p (initial p)) ∷ []

unfoldable pub start : Plan → Image → Outcome
start p b = unless_refused (refusal (start_rules p b)) b (outcome accepted (image p (initial p) 0))

-- "16: the number is I or more. 17: not enabled. 18: outranked. 19: marked."
unfoldable pub clerk_rules : Plan → Image → ℕ → List Rule
clerk_rules p b i =
    rule 16 (ltb i (interactions p)) ∷ rule 17 (enabled p (configuration_of b).state i) ∷ rule 18 (not (outranked p (configuration_of b).state (bit (marks_of b)) i))
    ∷ rule 19 (not (bit (marks_of b) i)) ∷ []

-- "Offered means enabled, unoutranked, unmarked. The offered answer is a 64-bit number with bit i for interaction i."
unfoldable pub offered_mask : Plan → Image → ℕ
offered_mask p b = mask (interactions p) (λ i. all_of (eligible p (configuration_of b).state (bit (marks_of b)) i ∷ not (bit (marks_of b) i) ∷ []))

-- "A good move is committed: new state, new oracle state, marks cleared. A bad one is cancelled: its mark is set and no other byte differs."
unfoldable pub tried : Plan → Image → ℕ → Outcome
tried p b i =
    cond (good p (after p (configuration_of b) i)) (outcome (committed i) (image p (after p (configuration_of b) i) 0))
    (outcome (cancelled i) (with_marks b (with_bit (marks_of b) i)))

-- Settling commits the safe move. "With none, it answers stalled when nothing is enabled (no byte changes) and penned otherwise"; 02, job 3: "and leaves every
-- enabled interaction marked".
unfoldable pub settled : Plan → Image → Outcome
settled p b =
    let i = safe_move p (configuration_of b) in
    cond (ltb i (interactions p)) (outcome (committed i) (image p (after p (configuration_of b) i) 0))
    (cond (some_below (interactions p) (enabled p (configuration_of b).state))
    (outcome penned (with_marks b (mask (interactions p) (enabled p (configuration_of b).state)))) (outcome stalled b))

-- 02, job 6: "the list is committed whole, marks are cleared, and the answer is kind 1 with the number of entries. Otherwise the image is untouched, marks
-- included, and the answer is kind 2 with the index, from 0, of the first entry not allowed, or the number of entries when only the end was not good."
unfoldable pub handed_in : Plan → Image → List ℕ → Outcome
handed_in p b is =
    cond (completes p (configuration_of b) is) (outcome (committed (length is)) (image p (replay p (configuration_of b) is) 0))
    (outcome (cancelled (stops_at p (configuration_of b) is)) b)

-- The calls on a started image. A list is its bytes.
pub data Call : Type 0 where
  offered : Call
  try : ℕ → Call
  settle : Call
  list : List ℕ → Call

-- Each call's refusals, in order: of the plan and of the image, 11 to 14; for a try then 16 to 19, for a list 22.
unfoldable pub call_rules : Plan → Image → Call → List Rule
call_rules p b offered = plan_rules p ++ image_rules p b
call_rules p b (try i) = plan_rules p ++ image_rules p b ++ clerk_rules p b i
call_rules p b settle = plan_rules p ++ image_rules p b
call_rules p b (list l) = plan_rules p ++ image_rules p b ++ list_rules l

-- What a call does that is not refused.
unfoldable pub performed : Plan → Image → Call → Outcome
performed p b offered = outcome (offers (offered_mask p b)) b
performed p b (try i) = tried p b i
performed p b settle = settled p b
performed p b (list l) = handed_in p b (entries l)

unfoldable pub called : Plan → Image → Call → Outcome
called p b k = unless_refused (refusal (call_rules p b k)) b (performed p b k)

-- "the offered bits come from a second call, which returns 0 when refused".
unfoldable pub offered_bits : Plan → Image → ℕ
offered_bits p b = (called p b offered).answer.bits

-- A sequence of calls, each handed the bytes that the last one left.
unfoldable pub called_all : Plan → Image → List Call → List Outcome
called_all p b [] = []
called_all p b (k ∷ ks) = called p b k ∷ called_all p (called p b k).image ks

-- The same after a start: the start's outcome first.
unfoldable pub session : Plan → Image → List Call → List Outcome
session p b ks = start p b ∷ called_all p (start p b).image ks
