-- Each answer exactly when its condition holds, on any plan and any image (demand 2): what a call answers that is not refused, and the bytes after it.
-- The conditions of the refusals stand in RefusalConditions, that of penned in PennedExactly.
use mathlib.Core.Path.{◌≡◌, refl, sym, ap, ◌∙◌, subst}
use mathlib.Core.Logic.Iff
use mathlib.Core.Logic.{◌↔◌}
use Prim.Native.Nat.{ℕ, zero, suc, ◌+◌, ◌≤◌, ◌<◌}
use native.Mathlib.Nat.{le_antisymm, le_trans, zero-add}
use mathlib.Core.Bool.{Bool, true, false, cond}
use mathlib.Core.List.{List, [], ◌++◌}
use lib.ListN.{length}
use lib.Dec.{ltb, eqb}
use Rattle.semantics.specs.Bytes.{entries, bit, mask, with_bit}
use Rattle.semantics.specs.Plan.{Plan, interactions, below}
use Rattle.semantics.specs.Refusal.{refusal}
use Rattle.semantics.specs.Rules.{plan_rules}
use Rattle.semantics.specs.Move.{Configuration, enabled, outranked, after, good, may_commit, safe_move, replay, initial}
use Rattle.semantics.specs.Image.{Image, image, with_marks, marks_of, configuration_of, length_rule, image_rules}
use Rattle.semantics.specs.Calls.{Answer, accepted, offers, committed, cancelled, stalled, penned, refused, Outcome, outcome, unless_refused, check, start_rules, start, clerk_rules, offered_mask, Call, offered, try, settle, list, call_rules, performed, called, offered_bits}
use Rattle.semantics.specs.Log.{Log, wrong, walked, log_rules, check_log}
use Rattle.semantics.proofs.Basics.{bool_cases, absurd_bool, not_yes, ltb-true, ltb-false, eqb-true, eqb-false, some_found}
use Rattle.semantics.proofs.Masks.{bit-zero, bit_mask, mask-holds}
use Rattle.semantics.proofs.Ranking.{above_marked, commit_enabled, commit_good, commit_above, commit_from, safe-commits, safe-lowest, safe-none}
use Rattle.semantics.proofs.Refusing.{none-refused, all_kept}
use Rattle.semantics.proofs.Counting.{among}
use Rattle.semantics.proofs.RuleLists.{Kept, keeps, kept_append, kept-number}
use Rattle.semantics.proofs.AcceptedPlan.{accepted_plan, counts_of_lem, mask_small}
use Rattle.semantics.proofs.LawfulImage.{LawfulImage, lawful_image, marks_kept}
use Rattle.semantics.proofs.Loads.{stops_within}
use Rattle.semantics.proofs.PennedExactly.{Stuck, penned_exactly}
use Rattle.semantics.proofs.Performed.{Performs, offering, committing, cancelling, settling, penning, stalling, completing, stopping, performs, other_kind}
use Rattle.semantics.proofs.RefusedUnchanged.{Refused, same_not_refused, accepted_not_refused, performed_not_refused, not-refused, called-performed, answers_exactly, own_exactly, kept_exactly, refused_is}
use Rattle.semantics.proofs.RefusalConditions.{AnyCall, checking, starting, calling, logging, answer_to, rules_of, numbers_of, all_numbered, gives_own}
use Rattle.semantics.proofs.LogWalk.{cause_numbers, cause-number, Walks, through, stops, walks, walk_not_refused}
use Rattle.semantics.proofs.OneCall.{SameButMarks, OneMarkMore, marks_written, others_same, offered_means, bad_cancelled}

-- ---- not refused

-- A call is not refused exactly where each of its rules is kept.
pub unrefused_exactly : (p : Plan) (q : AnyCall) → ¬ Refused (answer_to p q) ↔ Kept (rules_of p q)
unfolding check start called check_log
unrefused_exactly p checking = kept_exactly (plan_rules p) [] _ (all_numbered p checking) accepted_not_refused
unrefused_exactly p (starting b) = kept_exactly (start_rules p b) b _ (all_numbered p (starting b)) accepted_not_refused
unrefused_exactly p (calling b k) = kept_exactly (call_rules p b k) b _ (all_numbered p (calling b k)) (performed_not_refused p b k)
unrefused_exactly p (logging l) = kept_exactly (log_rules p l) [] _ (all_numbered p (logging l)) (walk_not_refused p (initial p) (entries l))

pub call_exactly : (p : Plan) (b : Image) (k : Call) (a : Answer) {C : Type 0} → ¬ Refused a → (performed p b k).answer ≡ a ↔ C
    → (called p b k).answer ≡ a ↔ Kept (call_rules p b k) × C
unfolding called
call_exactly p b k a f c = Iff.trans (answers_exactly (call_rules p b k) b (performed p b k) (all_numbered p (calling b k)) a f) (Iff.and Iff.rfl c)

-- ---- accepted

bits-performed : (p : Plan) (b : Image) → Kept (call_rules p b offered) → offered_bits p b ≡ (performed p b offered).answer.bits
unfolding offered_bits
bits-performed p b h = ap (λ (o : Outcome). o.answer.bits) (called-performed p b offered ((unrefused_exactly p (calling b offered)).1 h))

-- Check, start and offered are accepted exactly where each rule of theirs is kept.
pub accepted_exactly : (p : Plan) (b : Image)
    → (check p ≡ accepted ↔ Kept (plan_rules p))
    × ((start p b).answer ≡ accepted ↔ Kept (start_rules p b))
    × ((called p b offered).answer ≡ offers (offered_bits p b) ↔ Kept (call_rules p b offered))
unfolding check start performed
accepted_exactly p b =
    let bits = call_exactly p b offered (offers (offered_bits p b)) accepted_not_refused Iff.rfl in (
      own_exactly (plan_rules p) [] _ (all_numbered p checking) accepted_not_refused,
      own_exactly (start_rules p b) b _ (all_numbered p (starting b)) accepted_not_refused,
      (λ e. (bits.0 e).0, λ h. bits.1 (h, ap offers (sym (bits-performed p b h)))),
    )

-- ---- offered

-- "Offered means enabled, unoutranked, unmarked", of a call that is not refused; what lies above it and is enabled is marked.
pub record Offered (p : Plan) (b : Image) (i : ℕ) : Type 0 where
  pub unrefused : Kept (call_rules p b offered)
  pub number< : i < interactions p
  pub is_enabled : enabled p (configuration_of b).state i ≡ true
  pub not-outranked : outranked p (configuration_of b).state (bit (marks_of b)) i ≡ false
  pub unmarked : bit (marks_of b) i ≡ false

-- "a refused one kind 5, its number and no bits"
pub refused_no_bits : (p : Plan) (b : Image) → Refused (called p b offered).answer → offered_bits p b ≡ 0
unfolding called offered_bits
refused_no_bits p b r = ap (λ (o : Outcome). o.answer.bits) (refused_is _ b (performed p b offered) (performed_not_refused p b offered) r)

-- "a 64-bit number with bit i for interaction i"
pub offered_exactly : (p : Plan) (b : Image) (i : ℕ) → bit (offered_bits p b) i ≡ true ↔ Offered p b i
unfolding performed offered_mask
offered_exactly p b i = (
  (λ h. bool_cases (eqb (called p b offered).answer.kind 5)
      (λ r. absurd_bool h (ap (λ (m : ℕ). bit m i) (refused_no_bits p b (eqb-true _ _ r)) ∙ bit-zero i))
      (λ r.
      let kept = (unrefused_exactly p (calling b offered)).0 (eqb-false _ _ r) in
      let set = sym (ap (λ (m : ℕ). bit m i) (bits-performed p b kept)) ∙ h in
      let (l, _) = mask-holds (interactions p) _ i set in
      let (e, o, u) = (offered_means p b i l).0 set in
      record { unrefused = kept; number< = l; is_enabled = e; not-outranked = o; unmarked = u })),
  (λ f. ap (λ (m : ℕ). bit m i) (bits-performed p b f.unrefused)
      ∙ (offered_means p b i f.number<).1 (f.is_enabled, f.not-outranked, f.unmarked)),
)

-- ---- a try

module _ (p : Plan) (b : Image) {i : ℕ} where
  try_commits : {o : Outcome} → Performs p b (try i) o → o.answer ≡ committed i ↔ good p (after p (configuration_of b) i) ≡ true
  try_commits (committing g) = (λ e. g, λ h. refl)
  try_commits (cancelling g) = (λ e. other_kind e refl, λ h. absurd_bool h g)

  try_cancels : {o : Outcome} → Performs p b (try i) o → o.answer ≡ cancelled i ↔ good p (after p (configuration_of b) i) ≡ false
  try_cancels (committing g) = (λ e. other_kind e refl, λ h. absurd_bool g h)
  try_cancels (cancelling g) = (λ e. g, λ h. refl)

-- "A good move is committed", and no other.
pub committed_exactly : (p : Plan) (b : Image) (i : ℕ)
    → (called p b (try i)).answer ≡ committed i ↔ Kept (call_rules p b (try i)) × (good p (after p (configuration_of b) i) ≡ true)
committed_exactly p b i = call_exactly p b (try i) (committed i) (eqb-false 1 5 refl) (try_commits p b (performs p b (try i)))

-- "A bad one is cancelled", and no other.
pub cancelled_exactly : (p : Plan) (b : Image) (i : ℕ)
    → (called p b (try i)).answer ≡ cancelled i ↔ Kept (call_rules p b (try i)) × (good p (after p (configuration_of b) i) ≡ false)
cancelled_exactly p b i = call_exactly p b (try i) (cancelled i) (eqb-false 2 5 refl) (try_cancels p b (performs p b (try i)))

-- "enabled, good, and has no enabled good move above it"
pub record Allowed (p : Plan) (c : Configuration) (i : ℕ) : Type 0 where
  pub number< : i < interactions p
  pub is_enabled : enabled p c.state i ≡ true
  pub ends_good : good p (after p c i) ≡ true
  pub above_bad : (j : ℕ) → j < interactions p → below p i j ≡ true → enabled p c.state j ≡ true → good p (after p c j) ≡ false

pub allowed_exactly : (p : Plan) (c : Configuration) (i : ℕ) → i < interactions p → may_commit p c i ≡ true ↔ Allowed p c i
allowed_exactly p c i l = (
  (λ m. record { number< = l; is_enabled = commit_enabled p c i m; ends_good = commit_good p c i m; above_bad = commit_above p c i m }),
  (λ a. commit_from p c i a.is_enabled a.ends_good a.above_bad),
)

-- Above a try that is not refused each enabled move is marked, and ends bad.
pub tried_above : (p : Plan) (b : Image) (i : ℕ) → Kept (call_rules p b (try i)) → (j : ℕ) → j < interactions p → below p i j ≡ true
    → enabled p (configuration_of b).state j ≡ true → good p (after p (configuration_of b) j) ≡ false
unfolding keeps plan_rules image_rules length_rule clerk_rules call_rules
tried_above p b i h j l up on =
    let c : Configuration = configuration_of b in
    let first = ((kept_append (plan_rules p ++ image_rules p b) (clerk_rules p b i)).0 h).0 in
    let k : LawfulImage p b = lawful_image p b (all_kept (plan_rules p ++ image_rules p b) first) in
    let few = (counts_of_lem p (accepted_plan p k.plan_accepted).counts).interactions≤ in
    let top = not_yes _ (kept-number 18 (call_rules p b (try i)) h) in
    (marks_kept p c (marks_of b) k.marks j (le_trans l few) (above_marked p c.state (bit (marks_of b)) i top j l up on)).ends_bad

-- A try that commits has no enabled good move above.
pub tried-allowed : (p : Plan) (b : Image) (i : ℕ) → (called p b (try i)).answer ≡ committed i → Allowed p (configuration_of b) i
unfolding keeps plan_rules image_rules length_rule clerk_rules call_rules
tried-allowed p b i e =
    let (h, g) = (committed_exactly p b i).0 e in
    record {
      number< = ltb-true _ _ (kept-number 16 (call_rules p b (try i)) h);
      is_enabled = kept-number 17 (call_rules p b (try i)) h;
      ends_good = g;
      above_bad = tried_above p b i h;
    }

-- ---- a settling

-- "the lowest-numbered move that is enabled, good, and has no enabled good move above it"
pub record LowestSafe (p : Plan) (c : Configuration) (i : ℕ) : Type 0 where
  pub allowed : Allowed p c i
  pub lowest : (j : ℕ) → j < i → ¬ Allowed p c j

safe_is_lowest : (p : Plan) (c : Configuration) → safe_move p c < interactions p → LowestSafe p c (safe_move p c)
safe_is_lowest p c l =
    record {
      allowed = (allowed_exactly p c (safe_move p c) l).0 (safe-commits p c l);
      lowest = λ j h a. absurd_bool ((allowed_exactly p c j a.number<).1 a) (safe-lowest p c j h);
    }

safe_le : (p : Plan) (c : Configuration) (i j : ℕ) → LowestSafe p c i → LowestSafe p c j → i ≤ j
safe_le p c i j a d = bool_cases (ltb j i) (λ l. absurd (a.lowest j (ltb-true j i l) d.allowed)) (ltb-false j i)

module _ (p : Plan) (b : Image) where
  settle_commits : (i : ℕ) {o : Outcome} → Performs p b settle o → o.answer ≡ committed i ↔ LowestSafe p (configuration_of b) i
  settle_commits i (settling l) =
      let c : Configuration = configuration_of b in
      let s = safe_is_lowest p c l in (
        (λ e. subst (LowestSafe p c) (ap (λ (a : Answer). a.number) e) s),
        (λ m. ap committed (le_antisymm (safe_le p c (safe_move p c) i s m) (safe_le p c i (safe_move p c) m s))),
      )
  settle_commits i (penning t u) =
      let c : Configuration = configuration_of b in (
        (λ e. other_kind e refl),
        (λ m. let a = m.allowed in absurd_bool ((allowed_exactly p c i a.number<).1 a) (safe-none p c t i a.number<)),
      )
  settle_commits i (stalling n) = (λ e. other_kind e refl, λ m. absurd_bool m.allowed.is_enabled (n i m.allowed.number<))

  settle_stalls : {o : Outcome} → Performs p b settle o
      → o.answer ≡ stalled ↔ ((i : ℕ) → i < interactions p → enabled p (configuration_of b).state i ≡ false)
  settle_stalls (settling l) = (λ e. other_kind e refl, λ n. absurd_bool (safe_is_lowest p (configuration_of b) l).allowed.is_enabled (n _ l))
  settle_stalls (penning t u) = (
    (λ e. other_kind e refl),
    (λ n. let (j, l, e) = some_found (interactions p) (enabled p (configuration_of b).state) u in absurd_bool e (n j l)),
  )
  settle_stalls (stalling n) = (λ e. n, λ m. refl)

-- "Settling commits the lowest-numbered move that is enabled, good, and has no enabled good move above it", and no other.
pub settled_exactly : (p : Plan) (b : Image) (i : ℕ)
    → (called p b settle).answer ≡ committed i ↔ Kept (call_rules p b settle) × LowestSafe p (configuration_of b) i
settled_exactly p b i = call_exactly p b settle (committed i) (eqb-false 1 5 refl) (settle_commits p b i (performs p b settle))

-- "it answers stalled when nothing is enabled", and at no other time.
pub stalled_exactly : (p : Plan) (b : Image)
    → (called p b settle).answer ≡ stalled ↔ Kept (call_rules p b settle) × ((i : ℕ) → i < interactions p → enabled p (configuration_of b).state i ≡ false)
stalled_exactly p b = call_exactly p b settle stalled (eqb-false 3 5 refl) (settle_stalls p b (performs p b settle))

-- Penned as PennedExactly has it, with the rules of the call.
pub penned_kept_exactly : (p : Plan) (b : Image) → (called p b settle).answer ≡ penned ↔ Kept (call_rules p b settle) × Stuck p (configuration_of b)
penned_kept_exactly p b = (
  (λ e. let f : ¬ Refused (called p b settle).answer = same_not_refused e (eqb-false 4 5 refl) in
      ((unrefused_exactly p (calling b settle)).0 f, (penned_exactly p b f).0 e)),
  (λ (h, s). (penned_exactly p b ((unrefused_exactly p (calling b settle)).1 h)).1 s),
)

-- ---- every answer is one of 01's list

-- "Other answers are a kind .. and a number": the answers that each call can give.
pub data Answers (p : Plan) : AnyCall → Answer → Type 0 where
  refuses_with : {q : AnyCall} (n : ℕ) → among n (numbers_of q) ≡ true → Answers p q (refused n)
  accepts_plan : Answers p checking accepted
  accepts_start : {b : Image} → Answers p (starting b) accepted
  offers-bits : {b : Image} (m : ℕ) → Answers p (calling b offered) (offers m)
  commits-tried : {b : Image} {i : ℕ} → i < interactions p → Answers p (calling b (try i)) (committed i)
  cancels_tried : {b : Image} {i : ℕ} → i < interactions p → Answers p (calling b (try i)) (cancelled i)
  commits-lowest : {b : Image} (i : ℕ) → i < interactions p → Answers p (calling b settle) (committed i)
  stalls : {b : Image} → Answers p (calling b settle) stalled
  pens : {b : Image} → Answers p (calling b settle) penned
  commits-list : {b : Image} {l : List ℕ} → Answers p (calling b (list l)) (committed (length (entries l)))
  stops_list : {b : Image} {l : List ℕ} (k : ℕ) → k ≤ length (entries l) → Answers p (calling b (list l)) (cancelled k)
  accepts_log : {l : Log} → Answers p (logging l) accepted
  finds_wrong : {l : Log} (n k : ℕ) → among n cause_numbers ≡ true → k < length (entries l) → Answers p (logging l) (wrong n k)

performed-answer : (p : Plan) (b : Image) (k : Call) {o : Outcome} → Kept (call_rules p b k) → Performs p b k o → Answers p (calling b k) o.answer
unfolding keeps plan_rules image_rules length_rule clerk_rules call_rules
performed-answer p b _ h offering = offers-bits _
performed-answer p b (try i) h (committing g) = commits-tried (ltb-true _ _ (kept-number 16 (call_rules p b (try i)) h))
performed-answer p b (try i) h (cancelling g) = cancels_tried (ltb-true _ _ (kept-number 16 (call_rules p b (try i)) h))
performed-answer p b _ h (settling l) = commits-lowest _ l
performed-answer p b _ h (penning t u) = pens
performed-answer p b _ h (stalling n) = stalls
performed-answer p b (list l) h (completing t) = commits-list
performed-answer p b (list l) h (stopping t) = stops_list _ (stops_within p (configuration_of b) (entries l))

walked-answer : (p : Plan) (l : Log) {a : Answer} → Walks p (initial p) 0 (entries l) a → Answers p (logging l) a
walked-answer p l (through r) = accepts_log
walked-answer p l (stops k n f) = finds_wrong {l = l} n (0 + k) (cause-number _ _ _ f.why) (rw (zero-add k) f.index<)

unless-answer : (p : Plan) (q : AnyCall) (b : Image) (o : Outcome) → answer_to p q ≡ (unless_refused (refusal (rules_of p q)) b o).answer
    → (Kept (rules_of p q) → Answers p q o.answer) → Answers p q (answer_to p q)
unfolding unless_refused
unless-answer p q b o e f = subst (Answers p q) (sym e) (go (refusal (rules_of p q)) refl)
  where
    go : (n : ℕ) → refusal (rules_of p q) ≡ n → Answers p q (unless_refused n b o).answer
    go zero r = f (none-refused (rules_of p q) (all_numbered p q) r)
    go (suc n) r = refuses_with (suc n) (gives_own p q (suc n) (e ∙ ap (λ (m : ℕ). (unless_refused m b o).answer) r))

pub every-answer : (p : Plan) (q : AnyCall) → Answers p q (answer_to p q)
unfolding check start called check_log
every-answer p checking = unless-answer p checking [] (outcome accepted []) refl (λ h. accepts_plan)
every-answer p (starting b) = unless-answer p (starting b) b (outcome accepted (image p (initial p) 0)) refl (λ h. accepts_start)
every-answer p (calling b k) = unless-answer p (calling b k) b (performed p b k) refl (λ h. performed-answer p b k h (performs p b k))
every-answer p (logging l) =
    unless-answer p (logging l) [] (outcome (walked p (initial p) 0 (entries l)) []) refl (λ h. walked-answer p l (walks p (initial p) 0 (entries l)))

-- ---- the bytes after each answer

-- What the image b is after an answer of offered, try or settle: the new state without marks after a commit, one more mark after a cancelled move, every enabled
-- interaction marked after penned; as it was after any other. After a list: the state after all its entries, without marks, or as it was.
unfoldable pub bytes_after : Plan → Image → Call → Answer → Image
bytes_after p b offered a = b
bytes_after p b (try i) a =
    cond (eqb a.kind 1) (image p (after p (configuration_of b) a.number) 0) (cond (eqb a.kind 2) (with_marks b (with_bit (marks_of b) a.number)) b)
bytes_after p b settle a =
    cond (eqb a.kind 1) (image p (after p (configuration_of b) a.number) 0)
    (cond (eqb a.kind 4) (with_marks b (mask (interactions p) (enabled p (configuration_of b).state))) b)
bytes_after p b (list l) a = cond (eqb a.kind 1) (image p (replay p (configuration_of b) (entries l)) 0) b

performed-bytes : (p : Plan) (b : Image) (k : Call) {o : Outcome} → Performs p b k o → o.image ≡ bytes_after p b k o.answer
unfolding bytes_after
performed-bytes p b _ offering = refl
performed-bytes p b _ (committing g) = refl
performed-bytes p b _ (cancelling g) = refl
performed-bytes p b _ (settling l) = refl
performed-bytes p b _ (penning t u) = refl
performed-bytes p b _ (stalling n) = refl
performed-bytes p b _ (completing t) = refl
performed-bytes p b _ (stopping t) = refl

refused-bytes : (p : Plan) (b : Image) (k : Call) (n : ℕ) → b ≡ bytes_after p b k (refused n)
unfolding bytes_after
refused-bytes p b offered n = refl
refused-bytes p b (try i) n = refl
refused-bytes p b settle n = refl
refused-bytes p b (list l) n = refl

pub bytes_after_lem : (p : Plan) (b : Image) (k : Call) → (called p b k).image ≡ bytes_after p b k (called p b k).answer
unfolding called unless_refused
bytes_after_lem p b k = go (refusal (call_rules p b k))
  where
    go : (n : ℕ) → (unless_refused n b (performed p b k)).image ≡ bytes_after p b k (unless_refused n b (performed p b k)).answer
    go zero = performed-bytes p b k (performs p b k)
    go (suc n) = refused-bytes p b k (suc n)

-- An accepted start leaves the starting state, judged and without marks; a refused one the image as it was (start-refused-unchanged).
pub start-bytes : (p : Plan) (b : Image) → (start p b).answer ≡ accepted → (start p b).image ≡ image p (initial p) 0
unfolding start unless_refused
start-bytes p b e =
    ap (λ (n : ℕ). (unless_refused n b (outcome accepted (image p (initial p) 0))).image)
    (not-refused (refusal (start_rules p b)) b _ (same_not_refused e accepted_not_refused))

-- "its mark is set and no other byte differs"
pub cancelled-bytes : (p : Plan) (b : Image) (i : ℕ) → (called p b (try i)).answer ≡ cancelled i → OneMarkMore b (called p b (try i)).image i
unfolding keeps plan_rules image_rules length_rule call_rules
cancelled-bytes p b i e =
    let (h, g) = (cancelled_exactly p b i).0 e in
    rw (called-performed p b (try i) (same_not_refused e (eqb-false 2 5 refl)))
    (bad_cancelled p b i (eqb-true _ _ (kept-number 11 (call_rules p b (try i)) h)) g).1

-- "Penned .. leaves every enabled interaction marked"
pub record EnabledMarked (p : Plan) (b b' : Image) : Type 0 where
  pub marks : (j : ℕ) → bit (marks_of b') j ≡ true ↔ (j < interactions p) × (enabled p (configuration_of b).state j ≡ true)
  pub others : SameButMarks b' b

pub penned-bytes : (p : Plan) (b : Image) → (called p b settle).answer ≡ penned → EnabledMarked p b (called p b settle).image
unfolding call_rules bytes_after
penned-bytes p b e =
    let on : ℕ → Bool = enabled p (configuration_of b).state in
    let m : ℕ = mask (interactions p) on in
    let (h, _) = (call_exactly p b settle penned (eqb-false 4 5 refl) Iff.rfl).0 e in
    let g : LawfulImage p b = lawful_image p b (all_kept (call_rules p b settle) h) in
    subst (EnabledMarked p b) (sym (bytes_after_lem p b settle ∙ ap (bytes_after p b settle) e))
    (record {
      marks = λ j. rw (marks_written b m g.long (mask_small p g.plan_accepted on)) (mask-holds (interactions p) on j, λ (l, n). bit_mask (interactions p) on j l ∙ n);
      others = others_same b m g.long;
    })
