-- "Old plans and images mean what they meant" (02, job 1), the image and the calls: where a plan's bytes 42 to 45 and an image's bytes 9 to 11 are
-- zero, each call and each sequence of calls gives what it gives by OldMeaning.
use mathlib.Core.Path.{◌≡◌, refl, sym, ap, ap₂, ◌∙◌}
use Prim.Native.Nat.{ℕ, zero, suc, ◌+◌, ◌<◌}
use native.Mathlib.Omega.{arith}
use mathlib.Core.Bool.{Bool, and-true}
use mathlib.Core.List.{List, [], ◌∷◌, ◌++◌}
use lib.ListN.{length, get_or, take, drop}
use lib.Seq.{get_or-take, get_or-drop}
use lib.Dec.{eqb}
use Rattle.semantics.specs.Bytes.{entries, byte, all_of, implies, every, table, bit}
use Rattle.semantics.specs.Plan.{Plan, max_oracles, max_interactions, oracle_states}
use Rattle.semantics.specs.Refusal.{Rule, rule, refusal}
use Rattle.semantics.specs.Rules.{plan_rules, plan_refusal}
use Rattle.semantics.specs.Move.{Configuration, after, initial, state_in_range, oracles_in_range, good, safe_move}
use Rattle.semantics.specs.Image.{Image, image_length, oracles_place, head, image, with_marks, marks_of, configuration_of, oracle_byte, head_matches, configuration_ok, mark_ok, marks_ok, length_rule, image_rules}
use Rattle.semantics.specs.Calls.{accepted, outcome, Outcome, unless_refused, check, start_rules, start, clerk_rules, offered_mask, tried, settled, handed_in, Call, offered, try, settle, list, call_rules, performed, called, called_all, session}
use Rattle.semantics.specs.Load.{list_rules}
use Rattle.semantics.proofs.Basics.{eqb-true, every-at, part-table}
use Rattle.semantics.proofs.Refusing.{numbered}
use Rattle.semantics.proofs.RuleLists.{keeps, rule-kept}
use Rattle.semantics.proofs.OneCall.{others_same}
use Rattle.semantics.proofs.Performed.{Performs, offering, committing, cancelling, settling, penning, stalling, completing, stopping, performs}
use Rattle.semantics.proofs.ExactAnswers.{start-bytes}
use Rattle.semantics.proofs.OldPlans.{OldPlan, none_added, same_rules, same_refusal, as_now, as_old, same_after, same_initial, same_good, same_good_after, same_safe_move, same_stops, same_replay, same_completes}
use Rattle.semantics.proofs.OldMeaning as old

-- An image with no state of an added oracle: bytes 9 to 11 are zero.
pub record OldImage (b : Image) : Type 0 where
  pub image-zero : (k : ℕ) → k < 3 → byte b (9 + k) ≡ 0

-- ---- written and read

-- The image of an old configuration.
pub same_image : (p : Plan) (c : old.Configuration) (m : ℕ) → image p (as_now c) m ≡ old.image p c m
unfolding image old.image head old.head
same_image p c m = refl

-- byte 8 + k is the state of oracle k
oracle_read : (b : Image) (k : ℕ) → k < max_oracles → get_or (take max_oracles (drop oracles_place b)) k 0 ≡ byte b (8 + k)
oracle_read b k l = get_or-take max_oracles (drop oracles_place b) k 0 l ∙ get_or-drop oracles_place b k 0

-- The state and the first oracle's state that any image holds.
pub same_read : (b : Image) → as_old (configuration_of b) ≡ old.configuration_of b
unfolding configuration_of old.configuration_of
same_read b = λ i. record { state = (configuration_of b).state; oracle = oracle_read b 0 (omega arith) i }

module _ (b : Image) (z : OldImage b) where
  -- bytes 9 to 11
  zero_9 : byte b 9 ≡ 0
  zero_9 = z.image-zero 0 (omega arith)

  zero_10 : byte b 10 ≡ 0
  zero_10 = z.image-zero 1 (omega arith)

  zero_11 : byte b 11 ≡ 0
  zero_11 = z.image-zero 2 (omega arith)

  oracles_read : length b ≡ image_length → take max_oracles (drop oracles_place b) ≡ byte b 8 ∷ 0 ∷ 0 ∷ 0 ∷ []
  unfolding table
  oracles_read e = part-table 0 b oracles_place max_oracles (rw e (omega arith)) ∙ rw (zero_9, zero_10, zero_11) refl

  -- The configuration that an old image of the right length holds.
  pub same_configuration : length b ≡ image_length → configuration_of b ≡ as_now (old.configuration_of b)
  unfolding configuration_of old.configuration_of
  same_configuration e = λ i. record { state = (configuration_of b).state; oracles = oracles_read e i }

  -- Rule 12.
  pub same_head_matches : (p : Plan) → head_matches p b ≡ old.head_matches p b
  unfolding head_matches old.head_matches oracle_byte all_of every head old.head
  same_head_matches p = rw (zero_9, zero_10, zero_11)

-- ---- old images that a call leaves

-- the image of an old configuration is one
written_old : (p : Plan) (c : old.Configuration) (m : ℕ) → OldImage (image p (as_now c) m)
unfolding image head every
written_old p c m = record { image-zero = λ k l. eqb-true _ _ (every-at 3 (λ n. eqb (byte (image p (as_now c) m) (9 + n)) 0) refl k l) }

-- an old image with other marks is one
marked_old : (b : Image) (m : ℕ) → length b ≡ image_length → OldImage b → OldImage (with_marks b m)
marked_old b m e z = record { image-zero = λ k l. at (9 + k) (omega arith) ∙ z.image-zero k l }
  where
    at : (k : ℕ) → k < 16 → byte (with_marks b m) k ≡ byte b k
    at k l = sym (get_or-take 16 (with_marks b m) k 0 l) ∙ ap (λ (x : List ℕ). byte x k) (others_same b m e).before ∙ get_or-take 16 b k 0 l

-- a call that is not refused has an image of the right length
call_long : (p : Plan) (b : Image) (k : Call) → refusal (call_rules p b k) ≡ 0 → length b ≡ image_length
unfolding call_rules plan_rules image_rules length_rule clerk_rules list_rules numbered keeps
call_long p b offered e = eqb-true _ _ (rule-kept (call_rules p b offered) refl e 11)
call_long p b (try i) e = eqb-true _ _ (rule-kept (call_rules p b (try i)) refl e 11)
call_long p b settle e = eqb-true _ _ (rule-kept (call_rules p b settle) refl e 11)
call_long p b (list l) e = eqb-true _ _ (rule-kept (call_rules p b (list l)) refl e 11)

module _ (p : Plan) (o : OldPlan p) where
  -- ---- the keeper's refusals

  -- Of 13: the oracles' states are in range where the first one's is.
  pub same_in_range : (b : Image) → OldImage b → oracles_in_range p (configuration_of b).oracles ≡ old.oracle_in_range p (old.configuration_of b).oracle
  unfolding oracles_in_range old.oracle_in_range state_in_range oracle_states every configuration_of old.configuration_of
  same_in_range b z =
      rw (none_added p o, oracle_read b 0 (omega arith), oracle_read b 1 (omega arith), oracle_read b 2 (omega arith), oracle_read b 3 (omega arith), zero_9 b z, zero_10 b z, zero_11 b z)
      (simp and-true)

  -- Rule 13.
  pub same_configuration_ok : (b : Image) → OldImage b → configuration_ok p (configuration_of b) ≡ old.configuration_ok p (old.configuration_of b)
  unfolding configuration_ok old.configuration_ok configuration_of old.configuration_of
  same_configuration_ok b z = rw (same_in_range b z, same_good p o (configuration_of b), oracle_read b 0 (omega arith))

  -- Rule 14.
  same_mark_ok : (c : Configuration) (marked : ℕ → Bool) (i : ℕ) → mark_ok p c marked i ≡ old.mark_ok p (as_old c) marked i
  unfolding mark_ok old.mark_ok
  same_mark_ok c marked i = rw (same_good_after p o c i)

  pub same_marks_ok : (b : Image) (m : ℕ) → marks_ok p (configuration_of b) m ≡ old.marks_ok p (old.configuration_of b) m
  unfolding marks_ok old.marks_ok
  same_marks_ok b m =
      (λ i. every max_interactions (λ k. implies (bit m k) (same_mark_ok (configuration_of b) (bit m) k i))) ∙ ap (λ (c : old.Configuration). old.marks_ok p c m) (same_read b)

  -- 11 to 14.
  pub same_image_rules : (b : Image) → OldImage b → image_rules p b ≡ old.image_rules p b
  unfolding image_rules old.image_rules
  same_image_rules b z =
      λ i. length_rule b ∷ rule 12 (same_head_matches b z p i) ∷ rule 13 (same_configuration_ok b z i) ∷ rule 14 (same_marks_ok b (marks_of b) i) ∷ []

  -- ---- check and start

  -- A check.
  pub same_check : check p ≡ old.check p
  unfolding check old.check plan_refusal old.plan_refusal
  same_check = λ i. (unless_refused (same_refusal p o i) [] (outcome accepted [])).answer

  -- A start, on any image.
  pub same_start : (b : Image) → start p b ≡ old.start p b
  unfolding start old.start start_rules old.start_rules
  same_start b =
      let judged-good : good p (initial p) ≡ old.good p (old.initial p) = rw (same_initial p o) (same_good p o (as_now (old.initial p))) in
      let judged-image : image p (initial p) 0 ≡ old.image p (old.initial p) 0 = rw (same_initial p o) (same_image p (old.initial p) 0) in
      λ i. unless_refused (same_rules p o _ _ (λ j. refusal (length_rule b ∷ rule 15 (judged-good j) ∷ [])) i) b (outcome accepted (judged-image i))

  -- ---- the calls

  -- A move from the configuration of any image ends good.
  pub same_good_read : (b : Image) (i : ℕ) → good p (after p (configuration_of b) i) ≡ old.good p (old.after p (old.configuration_of b) i)
  same_good_read b i = same_good_after p o (configuration_of b) i ∙ ap (λ (c : old.Configuration). old.good p (old.after p c i)) (same_read b)

  -- The image that a committed move leaves.
  pub same_image_after : (b : Image) (i : ℕ) → image p (after p (configuration_of b) i) 0 ≡ old.image p (old.after p (old.configuration_of b) i) 0
  same_image_after b i =
      ap (λ (c : Configuration). image p c 0) (same_after p o (configuration_of b) i)
      ∙ same_image p (old.after p (as_old (configuration_of b)) i) 0
      ∙ ap (λ (c : old.Configuration). old.image p (old.after p c i) 0) (same_read b)

  -- The move that settling commits.
  pub same_safe_read : (b : Image) → safe_move p (configuration_of b) ≡ old.safe_move p (old.configuration_of b)
  same_safe_read b = same_safe_move p o (configuration_of b) ∙ ap (old.safe_move p) (same_read b)

  -- A list, on an old image of the right length.
  same_handed : (b : Image) → OldImage b → length b ≡ image_length → (is : List ℕ) → handed_in p b is ≡ old.handed_in p b is
  unfolding handed_in old.handed_in
  same_handed b z e is =
      let c = old.configuration_of b in
      rw (same_configuration b z e, same_completes p o c is, same_stops p o (as_now c) is, same_replay p o c is, same_image p (old.replay p c is) 0)

  -- What a call does that is not refused, on an old image of the right length.
  pub same_performed : (b : Image) → OldImage b → length b ≡ image_length → (k : Call) → performed p b k ≡ old.performed p b k
  unfolding performed old.performed offered_mask old.offered_mask tried old.tried settled old.settled configuration_of old.configuration_of
  same_performed b z e offered = refl
  same_performed b z e (try i) = rw (same_good_read b i, same_image_after b i)
  same_performed b z e settle = rw (same_safe_read b, same_image_after b (old.safe_move p (old.configuration_of b)))
  same_performed b z e (list l) = same_handed b z e (entries l)

  -- The refusal of a call.
  pub same_call_refusal : (b : Image) → OldImage b → (k : Call) → refusal (call_rules p b k) ≡ refusal (old.call_rules p b k)
  unfolding call_rules old.call_rules clerk_rules old.clerk_rules configuration_of old.configuration_of plan_rules old.plan_rules
  same_call_refusal b z offered = same_rules p o _ _ (ap refusal (same_image_rules b z))
  same_call_refusal b z (try i) = same_rules p o _ _ (ap (λ (rs : List Rule). refusal (rs ++ clerk_rules p b i)) (same_image_rules b z))
  same_call_refusal b z settle = same_rules p o _ _ (ap refusal (same_image_rules b z))
  same_call_refusal b z (list l) = same_rules p o _ _ (ap (λ (rs : List Rule). refusal (rs ++ list_rules l)) (same_image_rules b z))

  -- Each call on an old image, of any length and content, gives what it gives by OldMeaning.
  pub same_call : (b : Image) → OldImage b → (k : Call) → called p b k ≡ old.called p b k
  unfolding called old.called unless_refused
  same_call b z k = rw (← same_call_refusal b z k) (go (refusal (call_rules p b k)) refl)
    where
      go : (n : ℕ) → refusal (call_rules p b k) ≡ n → unless_refused n b (performed p b k) ≡ unless_refused n b (old.performed p b k)
      go zero e = same_performed b z (call_long p b k e) k
      go (suc n) e = refl

  -- ---- sequences of calls

  after_old : (c : Configuration) (i : ℕ) → OldImage (image p (after p c i) 0)
  after_old c i = rw (same_after p o c i) (written_old p (old.after p (as_old c) i) 0)

  performs_old : (b : Image) (k : Call) {a : Outcome} → OldImage b → length b ≡ image_length → Performs p b k a → OldImage a.image
  performs_old b _ z e offering = z
  performs_old b _ z e (committing g) = after_old (configuration_of b) _
  performs_old b _ z e (cancelling g) = marked_old b _ e z
  performs_old b _ z e (settling l) = after_old (configuration_of b) _
  performs_old b _ z e (penning t u) = marked_old b _ e z
  performs_old b _ z e (stalling n) = z
  performs_old b _ z e (completing {l = l} t) =
      rw (same_configuration b z e, same_replay p o (old.configuration_of b) (entries l)) (written_old p (old.replay p (old.configuration_of b) (entries l)) 0)
  performs_old b _ z e (stopping t) = z

  -- What a call leaves is an old image.
  pub old_image_stays : (b : Image) → OldImage b → (k : Call) → OldImage (called p b k).image
  unfolding called unless_refused
  old_image_stays b z k = go (refusal (call_rules p b k)) refl
    where
      go : (n : ℕ) → refusal (call_rules p b k) ≡ n → OldImage (unless_refused n b (performed p b k)).image
      go zero e = performs_old b k z (call_long p b k e) (performs p b k)
      go (suc n) e = z

  -- Each sequence of calls gives what it gives by OldMeaning.
  pub same_calls : (b : Image) → OldImage b → (ks : List Call) → called_all p b ks ≡ old.called_all p b ks
  unfolding called_all old.called_all
  same_calls b z [] = refl
  same_calls b z (k ∷ ks) =
      ap₂ ◌∷◌ (same_call b z k) (same_calls (called p b k).image (old_image_stays b z k) ks ∙ ap (λ (x : Outcome). old.called_all p x.image ks) (same_call b z k))

  initial_old : OldImage (image p (initial p) 0)
  initial_old = rw (same_initial p o) (written_old p (old.initial p) 0)

  -- An accepted start leaves an old image; a refused one leaves the image as it was (start-refused-unchanged).
  pub started_old : (b : Image) → (start p b).answer ≡ accepted → OldImage (start p b).image
  started_old b e = rw (start-bytes p b e) initial_old

  -- So an old image stays one at any start.
  pub start-stays : (b : Image) → OldImage b → OldImage (start p b).image
  unfolding start unless_refused
  start-stays b z = go (refusal (start_rules p b))
    where
      go : (n : ℕ) → OldImage (unless_refused n b (outcome accepted (image p (initial p) 0))).image
      go zero = initial_old
      go (suc n) = z

  -- A start and the calls after it give what they gave, where the start is accepted (started-old) or b is an old image (start-stays).
  pub same_session : (b : Image) → OldImage (start p b).image → (ks : List Call) → session p b ks ≡ old.session p b ks
  unfolding session old.session
  same_session b z ks =
      ap₂ ◌∷◌ (same_start b) (same_calls (start p b).image z ks ∙ ap (λ (x : Outcome). old.called_all p x.image ks) (same_start b))
