-- The exact condition of each refusal number, 01 "Who causes which number": its own rule is broken and each rule before it is kept.
-- First what the law of a list of rules (RuleLists) says of each call; then the numbers, one theorem each. The order is that of the list.
use mathlib.Core.Path.{◌≡◌, refl, sym, ap, ◌∙◌}
use mathlib.Core.Logic.Iff
use mathlib.Core.Logic.{◌↔◌, ◌⊎◌, inl, inr, ◌≢◌}
use Prim.Native.Nat.{ℕ, zero, suc, ◌%◌, ◌≤◌, ◌<◌}
use native.Mathlib.Nat.{suc-ne-zero}
use native.Mathlib.Omega.{arith}
use mathlib.Core.Bool.{Bool, true, false, not, false≢true}
use mathlib.Core.List.{List, [], ◌∷◌, ◌++◌}
use lib.ListN.{length}
use lib.Dec.{leb, ltb, eqb}
use Rattle.semantics.specs.Bytes.{entries, all_of, every, bit}
use Rattle.semantics.specs.Plan.{Plan, components, variables, transitions, interactions, added_oracles}
use Rattle.semantics.specs.Refusal.{Rule, rule, refusal}
use Rattle.semantics.specs.Rules.{head_ok, counts_ok, layout_ok, component_ok, variable_ok, transition_ok, interaction_ok, rank_ok, table_ok, code_ok, plan_rules}
use Rattle.semantics.specs.Move.{enabled, outranked, good, initial}
use Rattle.semantics.specs.Image.{Image, image_length, image, marks_of, configuration_of, head_matches, configuration_ok, marks_ok, length_rule, image_rules}
use Rattle.semantics.specs.Calls.{Answer, accepted, refused, Outcome, outcome, unless_refused, check, start_rules, start, clerk_rules, Call, offered, try, settle, list, call_rules, performed, called}
use Rattle.semantics.specs.Load.{max_moves, list_rules}
use Rattle.semantics.specs.Log.{Log, walked, log_rules, check_log}
use Rattle.semantics.proofs.Basics.{bool_cases, absurd_bool, not_no, each, all_of_lem, leb-false, lt_leb, ltb-false, le-ltb, eqb-false, ne_eqb}
use Rattle.semantics.proofs.Refusing.{numbered}
use Rattle.semantics.proofs.Counting.{among}
use Rattle.semantics.proofs.RuleLists.{Kept, before, keeps, Exactly, numbers, distinct, broken_among, no_rule_0, refusal_exactly, exactly_append, among_append}
use Rattle.semantics.proofs.RefusedUnchanged.{Refused, accepted_not_refused, performed_not_refused}
use Rattle.semantics.proofs.LogWalk.{walk_not_refused}

-- ---- the calls

-- The calls: check lends no image, start one that it overwrites, offered, try, settle and a list one that was started; the check of a log lends the log and no image.
pub data AnyCall : Type 0 where
  checking : AnyCall
  starting : Image → AnyCall
  calling : Image → Call → AnyCall
  logging : Log → AnyCall

abbrev pub answer_to : Plan → AnyCall → Answer
answer_to p checking = check p
answer_to p (starting b) = (start p b).answer
answer_to p (calling b k) = (called p b k).answer
answer_to p (logging l) = check_log p l

-- The rules that a call must keep.
abbrev pub rules_of : Plan → AnyCall → List Rule
rules_of p checking = plan_rules p
rules_of p (starting b) = start_rules p b
rules_of p (calling b k) = call_rules p b k
rules_of p (logging l) = log_rules p l

-- The numbers that a call can give, in the order of its list: the plan's, and after them those of a start, of the image, of the clerk, of a log, of a list.
abbrev pub plan_numbers : List ℕ
plan_numbers = 1 ∷ 2 ∷ 3 ∷ 4 ∷ 5 ∷ 6 ∷ 7 ∷ 8 ∷ 9 ∷ 20 ∷ 10 ∷ []

-- "Start skips 12–14, since it overwrites the image."
abbrev pub start_numbers : List ℕ
start_numbers = 11 ∷ 15 ∷ []

abbrev pub image_numbers : List ℕ
image_numbers = 11 ∷ 12 ∷ 13 ∷ 14 ∷ []

abbrev pub clerk_numbers : List ℕ
clerk_numbers = 16 ∷ 17 ∷ 18 ∷ 19 ∷ []

-- "21 ..; it is tested after the plan's numbers and before 15."
abbrev pub log_numbers : List ℕ
log_numbers = 21 ∷ 15 ∷ []

-- 02, job 6: "22 ..; it is tested after 14."
abbrev pub list_numbers : List ℕ
list_numbers = 22 ∷ []

-- .. and those of each call.
abbrev pub numbers_of : AnyCall → List ℕ
numbers_of checking = plan_numbers
numbers_of (starting b) = plan_numbers ++ start_numbers
numbers_of (calling b offered) = plan_numbers ++ image_numbers
numbers_of (calling b (try i)) = plan_numbers ++ image_numbers ++ clerk_numbers
numbers_of (calling b settle) = plan_numbers ++ image_numbers
numbers_of (calling b (list l)) = plan_numbers ++ image_numbers ++ list_numbers
numbers_of (logging l) = plan_numbers ++ log_numbers

-- Each rule of a call has a number of its own, and none has 0.
pub distinct_numbers : (p : Plan) (q : AnyCall) → distinct (rules_of p q) ≡ true
unfolding distinct plan_rules length_rule image_rules clerk_rules list_rules start_rules call_rules log_rules
distinct_numbers p checking = refl
distinct_numbers p (starting b) = refl
distinct_numbers p (calling b offered) = refl
distinct_numbers p (calling b (try i)) = refl
distinct_numbers p (calling b settle) = refl
distinct_numbers p (calling b (list l)) = refl
distinct_numbers p (logging l) = refl

pub all_numbered : (p : Plan) (q : AnyCall) → numbered (rules_of p q) ≡ true
unfolding numbered plan_rules length_rule image_rules clerk_rules list_rules start_rules call_rules log_rules
all_numbered p checking = refl
all_numbered p (starting b) = refl
all_numbered p (calling b offered) = refl
all_numbered p (calling b (try i)) = refl
all_numbered p (calling b settle) = refl
all_numbered p (calling b (list l)) = refl
all_numbered p (logging l) = refl

refused-number : (m n : ℕ) (b : Image) (o : Outcome) → ¬ Refused o.answer → (unless_refused m b o).answer ≡ refused (suc n) ↔ m ≡ suc n
unfolding unless_refused
refused-number zero n b o f = (λ e. absurd (f (ap (λ (a : Answer). a.kind) e)), λ e. absurd (suc-ne-zero n (sym e)))
refused-number (suc m) n b o f = (ap (λ (a : Answer). a.number), ap refused)

not_refused_0 : (m : ℕ) (b : Image) (o : Outcome) → ¬ Refused o.answer → ¬ ((unless_refused m b o).answer ≡ refused 0)
unfolding unless_refused
not_refused_0 zero b o f e = f (ap (λ (a : Answer). a.kind) e)
not_refused_0 (suc m) b o f e = suc-ne-zero m (ap (λ (a : Answer). a.number) e)

refused_exactly : (n : ℕ) (rs : List Rule) (b : Image) (o : Outcome) → distinct rs ≡ true → numbered rs ≡ true → ¬ Refused o.answer
    → (unless_refused (refusal rs) b o).answer ≡ refused n ↔ Exactly n rs
refused_exactly zero rs b o d m f = (λ e. absurd (not_refused_0 (refusal rs) b o f e), λ x. absurd_bool (no_rule_0 rs m) x.1)
refused_exactly (suc n) rs b o d m f = Iff.trans (refused-number (refusal rs) n b o f) (refusal_exactly (suc n) rs d (suc-ne-zero n))

-- A call answers with the number n exactly where its rule n is broken and each of its rules before it is kept.
pub check_refuses : (p : Plan) (n : ℕ) → check p ≡ refused n ↔ Exactly n (plan_rules p)
unfolding check
check_refuses p n =
    refused_exactly n (plan_rules p) [] (outcome accepted []) (distinct_numbers p checking) (all_numbered p checking) accepted_not_refused

pub start_refuses : (p : Plan) (b : Image) (n : ℕ) → (start p b).answer ≡ refused n ↔ Exactly n (start_rules p b)
unfolding start
start_refuses p b n =
    refused_exactly n (start_rules p b) b (outcome accepted (image p (initial p) 0)) (distinct_numbers p (starting b)) (all_numbered p (starting b))
    accepted_not_refused

pub call_refuses : (p : Plan) (b : Image) (k : Call) (n : ℕ) → (called p b k).answer ≡ refused n ↔ Exactly n (call_rules p b k)
unfolding called
call_refuses p b k n =
    refused_exactly n (call_rules p b k) b (performed p b k) (distinct_numbers p (calling b k)) (all_numbered p (calling b k))
    (performed_not_refused p b k)

pub log_refuses : (p : Plan) (l : Log) (n : ℕ) → check_log p l ≡ refused n ↔ Exactly n (log_rules p l)
unfolding check_log
log_refuses p l n =
    refused_exactly n (log_rules p l) [] (outcome (walked p (initial p) 0 (entries l)) []) (distinct_numbers p (logging l)) (all_numbered p (logging l))
    (walk_not_refused p (initial p) (entries l))

pub refuses : (p : Plan) (q : AnyCall) (n : ℕ) → answer_to p q ≡ refused n ↔ Exactly n (rules_of p q)
refuses p checking n = check_refuses p n
refuses p (starting b) n = start_refuses p b n
refuses p (calling b k) n = call_refuses p b k n
refuses p (logging l) n = log_refuses p l n

-- For the numbers of the plan the condition is the same for all calls; for those of the image it is the same for offered, try, settle and a list.
same_by_call : (p : Plan) (b : Image) (k : Call) (n : ℕ)
    → among n (plan_numbers ++ image_numbers) ≡ true → Exactly n (call_rules p b k) ≡ Exactly n (plan_rules p ++ image_rules p b)
unfolding plan_rules length_rule image_rules call_rules
same_by_call p b offered n h = refl
same_by_call p b (try i) n h = exactly_append n (plan_rules p ++ image_rules p b) (clerk_rules p b i) h
same_by_call p b settle n h = refl
same_by_call p b (list l) n h = exactly_append n (plan_rules p ++ image_rules p b) (list_rules l) h

same_by_any : (p : Plan) (q : AnyCall) (n : ℕ) → among n plan_numbers ≡ true → Exactly n (rules_of p q) ≡ Exactly n (plan_rules p)
unfolding plan_rules start_rules log_rules
same_by_any p checking n h = refl
same_by_any p (starting b) n h = exactly_append n (plan_rules p) (length_rule b ∷ rule 15 (good p (initial p)) ∷ []) h
same_by_any p (calling b k) n h =
    same_by_call p b k n (among_append n plan_numbers image_numbers h) ∙ exactly_append n (plan_rules p) (image_rules p b) h
same_by_any p (logging l) n h = exactly_append n (plan_rules p) _ h

pub image_refuses : (p : Plan) (b : Image) (k : Call) (n : ℕ)
    → among n (plan_numbers ++ image_numbers) ≡ true → (called p b k).answer ≡ refused n ↔ Exactly n (plan_rules p ++ image_rules p b)
image_refuses p b k n h = rw (← same_by_call p b k n h) (call_refuses p b k n)

pub plan_refuses : (p : Plan) (q : AnyCall) (n : ℕ) → among n plan_numbers ≡ true → answer_to p q ≡ refused n ↔ Exactly n (plan_rules p)
plan_refuses p q n h = rw (← same_by_any p q n h) (refuses p q n)

-- ---- the simulator, 21: the check of a log

-- 21 (02, job 4): "when the log has an odd number of bytes; it is tested after the plan's numbers and before 15".
pub refusal_21 : (p : Plan) (l : Log) → check_log p l ≡ refused 21 ↔ Kept (plan_rules p) × (length l % 2 ≢ 0)
unfolding before keeps plan_rules log_rules
refusal_21 p l = Iff.trans (log_refuses p l 21) (Iff.and Iff.rfl (eqb-false (length l % 2) 0, ne_eqb (length l % 2) 0))

-- ---- which numbers a call gives

-- A call gives only numbers of its own rules: a number that no rule of its list has is never given.
pub gives : (p : Plan) (q : AnyCall) (n : ℕ) → answer_to p q ≡ refused n → among n (numbers (rules_of p q)) ≡ true
gives p q n e = broken_among n (rules_of p q) ((refuses p q n).0 e).1

pub gives_own : (p : Plan) (q : AnyCall) (n : ℕ) → answer_to p q ≡ refused n → among n (numbers_of q) ≡ true
unfolding plan_rules length_rule image_rules clerk_rules list_rules start_rules call_rules log_rules
gives_own p checking n = gives p checking n
gives_own p (starting b) n = gives p (starting b) n
gives_own p (calling b offered) n = gives p (calling b offered) n
gives_own p (calling b (try i)) n = gives p (calling b (try i)) n
gives_own p (calling b settle) n = gives p (calling b settle) n
gives_own p (calling b (list l)) n = gives p (calling b (list l)) n
gives_own p (logging l) n = gives p (logging l) n

pub check_gives : (p : Plan) (n : ℕ) → check p ≡ refused n → among n plan_numbers ≡ true
check_gives p n = gives_own p checking n

pub start_gives : (p : Plan) (b : Image) (n : ℕ) → (start p b).answer ≡ refused n → among n (plan_numbers ++ start_numbers) ≡ true
start_gives p b n = gives_own p (starting b) n

pub offered_gives : (p : Plan) (b : Image) (n : ℕ) → (called p b offered).answer ≡ refused n → among n (plan_numbers ++ image_numbers) ≡ true
offered_gives p b n = gives_own p (calling b offered) n

pub settle_gives : (p : Plan) (b : Image) (n : ℕ) → (called p b settle).answer ≡ refused n → among n (plan_numbers ++ image_numbers) ≡ true
settle_gives p b n = gives_own p (calling b settle) n

pub try_gives : (p : Plan) (b : Image) (i n : ℕ) → (called p b (try i)).answer ≡ refused n
    → among n (plan_numbers ++ image_numbers ++ clerk_numbers) ≡ true
try_gives p b i n = gives_own p (calling b (try i)) n

pub list_gives : (p : Plan) (b : Image) (l : List ℕ) (n : ℕ) → (called p b (list l)).answer ≡ refused n
    → among n (plan_numbers ++ image_numbers ++ list_numbers) ≡ true
list_gives p b l n = gives_own p (calling b (list l)) n

pub log_gives : (p : Plan) (l : Log) (n : ℕ) → check_log p l ≡ refused n → among n (plan_numbers ++ log_numbers) ≡ true
log_gives p l n = gives_own p (logging l) n

-- ---- the planner, 1 to 10 and 20: check, start, offered, try, settle, a list and the check of a log alike. From 4 on, `before n` names the rules that stand before rule n at once.

-- 1: "fewer than 48 bytes, wrong letters, or bytes" 46 and 47 "not zero".
pub refusal_1 : (p : Plan) (q : AnyCall) → answer_to p q ≡ refused 1 ↔ head_ok p ≡ false
unfolding before keeps plan_rules
refusal_1 p q = Iff.trans (plan_refuses p q 1 refl) (λ (_, b). b, λ b. (tt, b))

-- 2: "a count or the first oracle state outside its range".
pub refusal_2 : (p : Plan) (q : AnyCall) → answer_to p q ≡ refused 2 ↔ (head_ok p ≡ true) × (counts_ok p ≡ false)
unfolding before keeps plan_rules
refusal_2 p q = Iff.trans (plan_refuses p q 2 refl) (λ ((h, _), b). (h, b), λ (h, b). ((h, tt), b))

-- 3: "an offset, the stated length or the slice's own length is not as the counts give".
pub refusal_3 : (p : Plan) (q : AnyCall) → answer_to p q ≡ refused 3 ↔ (head_ok p ≡ true) × (counts_ok p ≡ true) × (layout_ok p ≡ false)
unfolding before keeps plan_rules
refusal_3 p q = Iff.trans (plan_refuses p q 3 refl) (λ ((h, (c, _)), b). (h, c, b), λ (h, c, b). ((h, (c, tt)), b))

-- 4, 5, 6, 7: "a component, variable, transition or interaction record breaks its line above (code spans aside) or names what the
-- plan lacks".
pub refusal_4 : (p : Plan) (q : AnyCall) → answer_to p q ≡ refused 4 ↔ Kept (before 4 (plan_rules p)) × (every (components p) (component_ok p) ≡ false)
unfolding keeps plan_rules
refusal_4 p q = plan_refuses p q 4 refl

pub refusal_5 : (p : Plan) (q : AnyCall) → answer_to p q ≡ refused 5 ↔ Kept (before 5 (plan_rules p)) × (every (variables p) (variable_ok p) ≡ false)
unfolding keeps plan_rules
refusal_5 p q = plan_refuses p q 5 refl

pub refusal_6 : (p : Plan) (q : AnyCall) → answer_to p q ≡ refused 6 ↔ Kept (before 6 (plan_rules p)) × (every (transitions p) (transition_ok p) ≡ false)
unfolding keeps plan_rules
refusal_6 p q = plan_refuses p q 6 refl

pub refusal_7 : (p : Plan) (q : AnyCall) → answer_to p q ≡ refused 7 ↔ Kept (before 7 (plan_rules p)) × (every (interactions p) (interaction_ok p) ≡ false)
unfolding keeps plan_rules
refusal_7 p q = plan_refuses p q 7 refl

-- 8: "a rank bit at or above I, an interaction below itself, or i below j and j below k without i below k".
pub refusal_8 : (p : Plan) (q : AnyCall) → answer_to p q ≡ refused 8 ↔ Kept (before 8 (plan_rules p)) × (every (interactions p) (rank_ok p) ≡ false)
unfolding keeps plan_rules
refusal_8 p q = plan_refuses p q 8 refl

-- 9: "a verdict other than 0, 2, 3", where 02, job 6, lets 1 be too, "a next state at or above S, a bad state with a follower that is not bad, a 3 state
-- with a follower that is not 3".
pub refusal_9 : (p : Plan) (q : AnyCall) → answer_to p q ≡ refused 9 ↔ Kept (before 9 (plan_rules p)) × (table_ok p 0 ≡ false)
unfolding keeps plan_rules
refusal_9 p q = plan_refuses p q 9 refl

-- 20 (02, job 1): "when an added table breaks the rule of 9; it is tested after 9 and before 10".
pub refusal_20 : (p : Plan) (q : AnyCall)
    → answer_to p q ≡ refused 20 ↔ Kept (before 20 (plan_rules p)) × (every (added_oracles p) (λ k. table_ok p (suc k)) ≡ false)
unfolding keeps plan_rules
refusal_20 p q = plan_refuses p q 20 refl

-- 10: "a span whose start plus length exceeds W, or any rule under "Code words" broken".
pub refusal_10 : (p : Plan) (q : AnyCall) → answer_to p q ≡ refused 10 ↔ Kept (before 10 (plan_rules p)) × (code_ok p ≡ false)
unfolding keeps plan_rules
refusal_10 p q = plan_refuses p q 10 refl

-- ---- the caller's programmer, 11: start, offered, try, settle and a list

-- 11: "the image slice is not 312 bytes", and the plan is accepted.
abbrev pub WrongLength : Plan → Image → Type 0
WrongLength p b = Kept (plan_rules p) × (length b ≢ image_length)

pub refusal_11 : (p : Plan) (b : Image)
    → ((start p b).answer ≡ refused 11 ↔ WrongLength p b) × ((k : Call) → (called p b k).answer ≡ refused 11 ↔ WrongLength p b)
unfolding before keeps plan_rules start_rules image_rules length_rule
refusal_11 p b =
    let differs = Iff.and Iff.rfl (eqb-false (length b) image_length, ne_eqb (length b) image_length) in
    (Iff.trans (start_refuses p b 11) differs, λ k. Iff.trans (image_refuses p b k 11 refl) differs)

-- ---- the keeper of the image, 12 to 14: offered, try, settle and a list

-- 12: "bytes 0–7 or" 12–15 "do not match form 1 and the plan".
pub refusal_12 : (p : Plan) (b : Image) (k : Call)
    → (called p b k).answer ≡ refused 12 ↔ Kept (before 12 (plan_rules p ++ image_rules p b)) × (head_matches p b ≡ false)
unfolding keeps plan_rules image_rules length_rule
refusal_12 p b k = image_refuses p b k 12 refl

-- 13: "oracle state at or above S or bad, a location or last port out of range, an unused entry filled", of every oracle.
pub refusal_13 : (p : Plan) (b : Image) (k : Call)
    → (called p b k).answer ≡ refused 13 ↔ Kept (before 13 (plan_rules p ++ image_rules p b)) × (configuration_ok p (configuration_of b) ≡ false)
unfolding keeps plan_rules image_rules length_rule
refusal_13 p b k = image_refuses p b k 13 refl

-- 14: "a mark at or above I, or on an interaction that is not enabled, is outranked, or would end in a good state" (`marks_kept`, `marks_ok_lem`).
pub refusal_14 : (p : Plan) (b : Image) (k : Call)
    → (called p b k).answer ≡ refused 14 ↔ Kept (before 14 (plan_rules p ++ image_rules p b)) × (marks_ok p (configuration_of b) (marks_of b) ≡ false)
unfolding keeps plan_rules image_rules length_rule
refusal_14 p b k = image_refuses p b k 14 refl

-- ---- the site, 15: start, and the check of a log

-- 15: "at start only, the starting state is bad"; 02, job 4, has it of a log too.
pub refusal_15 : (p : Plan) (b : Image) → (start p b).answer ≡ refused 15 ↔ Kept (before 15 (start_rules p b)) × (good p (initial p) ≡ false)
unfolding keeps plan_rules start_rules length_rule
refusal_15 p b = start_refuses p b 15

-- 15 of a log, an empty one too.
pub log_refusal_15 : (p : Plan) (l : Log) → check_log p l ≡ refused 15 ↔ Kept (before 15 (log_rules p l)) × (good p (initial p) ≡ false)
unfolding keeps plan_rules log_rules
log_refusal_15 p l = log_refuses p l 15

-- Offered, try, settle and a list never give it.
pub calls_give_no_15 : (p : Plan) (b : Image) (k : Call) → (called p b k).answer ≢ refused 15
calls_give_no_15 p b offered e = false≢true (offered_gives p b 15 e)
calls_give_no_15 p b (try i) e = false≢true (try_gives p b i 15 e)
calls_give_no_15 p b settle e = false≢true (settle_gives p b 15 e)
calls_give_no_15 p b (list l) e = false≢true (list_gives p b l 15 e)

-- ---- the clerk, 16 to 19: try

-- 16: "the number is I or more".
pub refusal_16 : (p : Plan) (b : Image) (i : ℕ)
    → (called p b (try i)).answer ≡ refused 16 ↔ Kept (before 16 (call_rules p b (try i))) × (interactions p ≤ i)
unfolding keeps plan_rules image_rules length_rule clerk_rules call_rules
refusal_16 p b i = Iff.trans (call_refuses p b (try i) 16) (Iff.and Iff.rfl (ltb-false i (interactions p), le-ltb i (interactions p)))

-- 17: "not enabled".
pub refusal_17 : (p : Plan) (b : Image) (i : ℕ)
    → (called p b (try i)).answer ≡ refused 17 ↔ Kept (before 17 (call_rules p b (try i))) × (enabled p (configuration_of b).state i ≡ false)
unfolding keeps plan_rules image_rules length_rule clerk_rules call_rules
refusal_17 p b i = call_refuses p b (try i) 17

broken-not : (b : Bool) → not b ≡ false ↔ b ≡ true
broken-not b = (not_no b, ap not)

-- 18: "outranked", by an enabled, unmarked one (02, job 3).
pub refusal_18 : (p : Plan) (b : Image) (i : ℕ)
    → (called p b (try i)).answer ≡ refused 18 ↔ Kept (before 18 (call_rules p b (try i))) × (outranked p (configuration_of b).state (bit (marks_of b)) i ≡ true)
unfolding keeps plan_rules image_rules length_rule clerk_rules call_rules
refusal_18 p b i = Iff.trans (call_refuses p b (try i) 18) (Iff.and Iff.rfl (broken-not (outranked p (configuration_of b).state (bit (marks_of b)) i)))

-- 19: "marked".
pub refusal_19 : (p : Plan) (b : Image) (i : ℕ)
    → (called p b (try i)).answer ≡ refused 19 ↔ Kept (before 19 (call_rules p b (try i))) × (bit (marks_of b) i ≡ true)
unfolding keeps plan_rules image_rules length_rule clerk_rules call_rules
refusal_19 p b i = Iff.trans (call_refuses p b (try i) 19) (Iff.and Iff.rfl (broken-not (bit (marks_of b) i)))

-- ---- the clerk, 22: a list

-- "the list is empty, odd in bytes, or longer than 8 moves"
abbrev pub BadList : List ℕ → Type 0
BadList l = (length l ≡ 0) ⊎ (length l % 2 ≢ 0) ⊎ (max_moves < length (entries l))

list-broken : (l : List ℕ) → all_of (ltb 0 (length l) ∷ eqb (length l % 2) 0 ∷ leb (length (entries l)) max_moves ∷ []) ≡ false ↔ BadList l
list-broken l = (
  (λ e.
      bool_cases (ltb 0 (length l))
      (λ a. bool_cases (eqb (length l % 2) 0)
      (λ c. bool_cases (leb (length (entries l)) max_moves) (λ d. absurd_bool (all_of_lem _ (a, (c, (d, tt)))) e) (λ d. inr (inr (leb-false _ _ d))))
      (λ c. inr (inl (eqb-false _ _ c))))
      (λ a. inl (empty (length l) (ltb-false _ _ a)))),
  from,
)
  where
    empty : (n : ℕ) → n ≤ 0 → n ≡ 0
    empty n h = omega arith

    broken : (a b c : Bool) → (a ≡ false) ⊎ (b ≡ false) ⊎ (c ≡ false) → all_of (a ∷ b ∷ c ∷ []) ≡ false
    broken a b c h =
        bool_cases (all_of (a ∷ b ∷ c ∷ []))
        (λ t. let (x, (y, (z, _))) = each _ t in elim h [ inl u ↦ absurd_bool x u | inr v ↦ elim v [ inl u ↦ absurd_bool y u | inr u ↦ absurd_bool z u ] ]) (λ t. t)

    from : BadList l → all_of (ltb 0 (length l) ∷ eqb (length l % 2) 0 ∷ leb (length (entries l)) max_moves ∷ []) ≡ false
    from (inl z) = broken _ _ _ (inl (ap (ltb 0) z))
    from (inr (inl o)) = broken _ _ _ (inr (inl (ne_eqb _ _ o)))
    from (inr (inr m)) = broken _ _ _ (inr (inr (lt_leb _ _ m)))

-- 22 (02, job 6): "when the list is empty, odd in bytes, or longer than 8 moves; it is tested after 14".
pub refusal_22 : (p : Plan) (b : Image) (l : List ℕ) → (called p b (list l)).answer ≡ refused 22 ↔ Kept (plan_rules p ++ image_rules p b) × BadList l
unfolding before keeps plan_rules image_rules length_rule list_rules call_rules
refusal_22 p b l = Iff.trans (call_refuses p b (list l) 22) (Iff.and Iff.rfl (list-broken l))
