-- One call on the book's image answers and leaves what the book says, and the book stays lawful.
use mathlib.Core.Path.{◌≡◌, refl, sym, ap, ap₂, ◌∙◌}
use Prim.Native.Nat.{ℕ, zero, suc, ◌≤◌, ◌<◌}
use native.Mathlib.Omega.{arith}
use mathlib.Core.Bool.{Bool, true, false, not, ◌||◌}
use mathlib.Core.List.{List, [], ◌∷◌, ◌++◌}
use lib.ListN.{length}
use lib.Dec.{ltb, eqb}
use Rattle.semantics.specs.Bytes.{entries, all_of, some_below, bit, mask, with_bit}
use Rattle.semantics.specs.Plan.{Plan, max_interactions, interactions}
use Rattle.semantics.specs.Refusal.{unless, refusal}
use Rattle.semantics.specs.Rules.{plan_rules, plan_refusal}
use Rattle.semantics.specs.Move.{Configuration, enabled, outranked, eligible, after, good, may_commit, safe_move, initial, replay}
use Rattle.semantics.specs.Image.{image_length, image, with_marks, marks_of, configuration_of, head_matches, marks_ok, length_rule, image_rules}
use Rattle.semantics.specs.Calls.{committed, cancelled, penned, outcome, unless_refused, clerk_rules, offered_mask, tried, settled, handed_in, Call, offered, try, settle, list, call_rules, performed, called}
use Rattle.semantics.specs.Book.{Book, lane, book_image, listed, crossed_off, book_offered, book_refusal, book_tried, unless_wrong, book_settled, book_listed, turn}
use Rattle.semantics.specs.Load.{list_rules, completes}
use Rattle.semantics.proofs.Basics.{bool_cases, absurd_bool, same_test, not_yes, or_cases, or_left, or_right, Each, ltb-true, ltb-false, eqb-true, eq-eqb, ne_eqb}
use Rattle.semantics.proofs.Masks.{bit_mask, bit_mask_over, mask_wider, mask_same, mask-none}
use Rattle.semantics.proofs.Refusing.{tests, numbered, none-refused, all_kept, refusal-after}
use Rattle.semantics.proofs.RuleLists.{keeps, rule-kept}
use Rattle.semantics.proofs.AcceptedPlan.{Accepted, accepted_plan, plan_numbered, counts_of_lem, mask_small}
use Rattle.semantics.proofs.Images.{length-image, with_marks-image, marks_back, head_matches_lem, configuration_back}
use Rattle.semantics.proofs.Sound.{Sound, shaped, configuration_ok_lem, sound_after}
use Rattle.semantics.proofs.RankOrder.{rank_order}
use Rattle.semantics.proofs.Ranking.{above_marked, outranked_same, eligible_same, eligible-enabled, eligible-top, eligible-from, commit_enabled, commit_good, commit_eligible, safe-commits}
use Rattle.semantics.proofs.Maximal.{none-good}
use Rattle.semantics.proofs.LawfulImage.{MarkKept, marks_ok_lem, later-rules}
use Rattle.semantics.proofs.Loads.{completes_all, completes-good, sound_replay, replay_append, replay_one}

-- what a book keeps from an accepted start on: its lane is sound and good, and each move crossed off is enabled there and ends bad, as are those enabled above
-- it, which are crossed off too
pub record Lawful (p : Plan) (k : Book) : Type 0 where
  pub sound : Sound p (lane p k)
  pub is_good : good p (lane p k) ≡ true
  pub crossed_bad : (i : ℕ) → i < interactions p → k.crossed i ≡ true → MarkKept p (lane p k) k.crossed i

-- ---- the book's lane

pub lane-listed : (p : Plan) (k : Book) (is : List ℕ) → lane p (listed k is) ≡ replay p (lane p k) is
unfolding lane
lane-listed p k is = replay_append p (initial p) k.done is

-- of one move
pub lane_moved : (p : Plan) (k : Book) (i : ℕ) → lane p (listed k (i ∷ [])) ≡ after p (lane p k) i
lane_moved p k i = lane-listed p k (i ∷ []) ∙ replay_one p (lane p k) i

-- crossing moves off leaves the lane as it is
pub lane_crossed : (p : Plan) (k : Book) (f : ℕ → Bool) → lane p (crossed_off k f) ≡ lane p k
unfolding lane
lane_crossed p k f = refl

-- the image after a commit is the book's
image-listed : (p : Plan) (k : Book) (is : List ℕ) → image p (replay p (lane p k) is) 0 ≡ book_image p (listed k is)
unfolding book_image
image-listed p k is = ap₂ (image p) (sym (lane-listed p k is)) (sym (mask-none (interactions p)))

image_moved : (p : Plan) (k : Book) (i : ℕ) → image p (after p (lane p k) i) 0 ≡ book_image p (listed k (i ∷ []))
image_moved p k i = ap (λ (c : Configuration). image p c 0) (sym (replay_one p (lane p k) i)) ∙ image-listed p k (i ∷ [])

-- ---- under an accepted plan

module _ (p : Plan) (e : plan_refusal p ≡ 0) where
  here : Accepted p
  here = accepted_plan p e

  module _ (k : Book) (h : Lawful p k) where
    -- the book's image holds its lane, and its set as marks
    pub held-lane : configuration_of (book_image p k) ≡ lane p k
    unfolding book_image
    held-lane = configuration_back p (lane p k) (mask (interactions p) k.crossed) (shaped p (lane p k) h.sound)

    pub held_marks : marks_of (book_image p k) ≡ mask (interactions p) k.crossed
    unfolding book_image
    held_marks = marks_back p (lane p k) (mask (interactions p) k.crossed) (mask_small p e k.crossed)

    -- it passes 14
    set_is : (i : ℕ) → i < interactions p → k.crossed i ≡ bit (mask (interactions p) k.crossed) i
    set_is i l = sym (bit_mask (interactions p) k.crossed i l)

    pub mark_lawful : (i : ℕ) → bit (mask (interactions p) k.crossed) i ≡ true → MarkKept p (lane p k) (bit (mask (interactions p) k.crossed)) i
    mark_lawful i b =
        bool_cases (ltb i (interactions p))
        (λ t.
        let l : i < interactions p = ltb-true i (interactions p) t in
        let m = h.crossed_bad i l (set_is i l ∙ b) in
        record { number< = l; is_enabled = m.is_enabled; ends_bad = m.ends_bad; above = λ j n up on. sym (set_is j n) ∙ m.above j n up on })
        (λ t. absurd_bool b (bit_mask_over (interactions p) k.crossed i (ltb-false i (interactions p) t)))

    marks_lawful : marks_ok p (lane p k) (mask (interactions p) k.crossed) ≡ true
    marks_lawful = marks_ok_lem p (lane p k) (mask (interactions p) k.crossed) (λ i l. mark_lawful i)

    -- 11 to 14 do not apply
    image-kept : Each (tests (image_rules p (book_image p k)))
    unfolding image_rules length_rule
    image-kept =
        (eq-eqb _ _ (image_long), (matches, (rw held-lane (configuration_ok_lem p (lane p k) h.sound h.is_good), (rw (held-lane, held_marks) marks_lawful, tt))))
      where
        image_long : length (book_image p k) ≡ image_length
        image_long = unfold book_image in length-image p (lane p k) (mask (interactions p) k.crossed) (shaped p (lane p k) h.sound)

        matches : head_matches p (book_image p k) ≡ true
        matches = unfold book_image in head_matches_lem p (lane p k) (mask (interactions p) k.crossed)

    plan_kept : Each (tests (plan_rules p))
    unfolding plan_refusal
    plan_kept = none-refused (plan_rules p) (plan_numbered p) e

    -- a bit of the marks below I is the set's
    mark_is : (i : ℕ) → i < interactions p → bit (marks_of (book_image p k)) i ≡ k.crossed i
    mark_is i l = rw held_marks (bit_mask (interactions p) k.crossed i l)

    -- 16 to 19 apply as in the book
    clerk_same : (i : ℕ) → refusal (clerk_rules p (book_image p k) i) ≡ book_refusal p k i
    unfolding clerk_rules book_refusal refusal unless
    clerk_same i =
        bool_cases (ltb i (interactions p))
        (λ t. rw (held-lane, mark_is i (ltb-true i (interactions p) t), outranked_same p (lane p k).state (bit (marks_of (book_image p k))) k.crossed mark_is i))
        (λ t. rw t)

    offered_same : offered_mask p (book_image p k) ≡ (book_offered p k).answer.bits
    unfolding offered_mask book_offered
    offered_same =
        let m = bit (marks_of (book_image p k)) in
        mask_same (interactions p) (λ i. all_of (eligible p (lane p k).state k.crossed i ∷ not (k.crossed i) ∷ []))
        (λ i. all_of (eligible p (configuration_of (book_image p k)).state m i ∷ not (m i) ∷ []))
        (λ i l. ap₂ (λ (e b : Bool). all_of (e ∷ not b ∷ []))
        (ap (λ (c : Configuration). eligible p c.state m i) held-lane ∙ eligible_same p (lane p k).state m k.crossed mark_is i) (mark_is i l))

    -- the mark of move i set beside the others
    bit-set : (i : ℕ) → i < interactions p → with_bit (mask (interactions p) k.crossed) i ≡ mask (interactions p) (crossed_off k (λ j. eqb j i)).crossed
    unfolding with_bit here
    bit-set i l =
        mask_wider (interactions p) max_interactions (λ j. k.crossed j || eqb j i) (λ j. bit (mask (interactions p) k.crossed) j || eqb j i)
        (counts_of_lem p here.counts).interactions≤
        (λ j m. ap (λ (b : Bool). b || eqb j i) (bit_mask (interactions p) k.crossed j m))
        (λ j m n. rw (bit_mask_over (interactions p) k.crossed j m) (ne_eqb j i (λ q. other j q m)))
      where
        other : (j : ℕ) → j ≡ i → interactions p ≤ j → ⊥
        other j q m = omega arith

    -- the image with other marks is the book's with other moves crossed off
    marked_crossed : (f : ℕ → Bool) → with_marks (book_image p k) (mask (interactions p) (crossed_off k f).crossed) ≡ book_image p (crossed_off k f)
    unfolding book_image lane
    marked_crossed f = with_marks-image p (lane p k) (mask (interactions p) k.crossed) (mask (interactions p) (crossed_off k f).crossed)

    -- a cancelled move: its mark is set in the image as it is crossed off in the book
    cancelled_same : (i : ℕ) → i < interactions p → with_marks (book_image p k) (with_bit (marks_of (book_image p k)) i) ≡ book_image p (crossed_off k (λ j. eqb j i))
    cancelled_same i l =
        ap (with_marks (book_image p k)) (ap (λ (m : ℕ). with_bit m i) held_marks ∙ bit-set i l) ∙ marked_crossed (λ j. eqb j i)

    tried_same : (i : ℕ) → i < interactions p → tried p (book_image p k) i ≡ outcome (book_tried p k i).answer (book_image p (book_tried p k i).book)
    unfolding tried book_tried
    tried_same i l =
        rw held-lane
        (bool_cases (good p (after p (lane p k) i)) (λ t. rw t (ap (outcome (committed i)) (image_moved p k i)))
        (λ t. rw t (ap (outcome (cancelled i)) (cancelled_same i l))))

    -- past 14 the moves crossed off are enabled: crossing off all that are leaves exactly those
    all_crossed : mask (interactions p) (enabled p (lane p k).state) ≡ mask (interactions p) (crossed_off k (enabled p (lane p k).state)).crossed
    all_crossed =
        let on : ℕ → Bool = enabled p (lane p k).state in
        mask_same (interactions p) (λ j. k.crossed j || on j) on
        (λ j l. same_test (on j) (k.crossed j || on j) (or_right (k.crossed j) (on j))
        (λ t. or_cases (k.crossed j) (on j) t (λ b. (h.crossed_bad j l b).is_enabled) (λ b. b)))

    -- penned: the image marks the enabled moves, the book crosses them off
    penned_same : with_marks (book_image p k) (mask (interactions p) (enabled p (lane p k).state)) ≡ book_image p (crossed_off k (enabled p (lane p k).state))
    penned_same = ap (with_marks (book_image p k)) all_crossed ∙ marked_crossed (enabled p (lane p k).state)

    settled_same : settled p (book_image p k) ≡ outcome (book_settled p k).answer (book_image p (book_settled p k).book)
    unfolding settled book_settled
    settled_same =
        rw held-lane
        (bool_cases (ltb (safe_move p (lane p k)) (interactions p))
        (λ t. rw t (ap (outcome (committed (safe_move p (lane p k)))) (image_moved p k (safe_move p (lane p k)))))
        (λ t. bool_cases (some_below (interactions p) (enabled p (lane p k).state)) (λ u. rw (t, u) (ap (outcome penned) penned_same)) (λ u. rw (t, u) refl)))

    -- a list, on the lane that the image holds
    handed_same : (is : List ℕ) → handed_in p (book_image p k) is ≡ outcome (book_listed p k is).answer (book_image p (book_listed p k is).book)
    unfolding handed_in book_listed
    handed_same is =
        rw held-lane
        (bool_cases (completes p (lane p k) is) (λ t. rw t (ap (outcome (committed (length is))) (image-listed p k is))) (λ t. rw t refl))

    -- ---- one call

    -- a try that is not wrong names one of the plan's interactions, eligible and not crossed off
    pub record Allowed (i : ℕ) : Type 0 where
      pub number< : i < interactions p
      pub is_eligible : eligible p (lane p k).state k.crossed i ≡ true
      pub not_crossed : k.crossed i ≡ false

    pub allowed_try : (i : ℕ) → book_refusal p k i ≡ 0 → Allowed i
    unfolding book_refusal numbered keeps
    allowed_try i r =
        let kept = rule-kept _ refl r in
        record {
          number< = ltb-true _ _ (kept 16);
          is_eligible = eligible-from p (lane p k).state k.crossed i (kept 17) (not_yes (outranked p (lane p k).state k.crossed i) (kept 18));
          not_crossed = not_yes (k.crossed i) (kept 19);
        }

    -- a good one may be committed: what is enabled above it is crossed off, and ends bad
    pub allowed-commits : (i : ℕ) → Allowed i → good p (after p (lane p k) i) ≡ true → may_commit p (lane p k) i ≡ true
    allowed-commits i a = commit_eligible p (lane p k) i k.crossed (λ j l b. (h.crossed_bad j l b).ends_bad) a.is_eligible

    -- nothing but 16 to 19 and 22 refuses a call
    no_refusal : refusal (plan_rules p ++ image_rules p (book_image p k)) ≡ 0
    no_refusal = refusal-after (plan_rules p) (image_rules p (book_image p k)) plan_kept ∙ all_kept (image_rules p (book_image p k)) image-kept

    try_refusal : (i : ℕ) → refusal (plan_rules p ++ image_rules p (book_image p k) ++ clerk_rules p (book_image p k) i) ≡ book_refusal p k i
    try_refusal i = later-rules p (book_image p k) no_refusal (clerk_rules p (book_image p k) i) ∙ clerk_same i

    tried-unless : (i n : ℕ) → book_refusal p k i ≡ n
        → unless_refused n (book_image p k) (tried p (book_image p k) i)
        ≡ outcome (unless_wrong n k (book_tried p k i)).answer (book_image p (unless_wrong n k (book_tried p k i)).book)
    unfolding unless_refused unless_wrong
    tried-unless i zero r = tried_same i (allowed_try i r).number<
    tried-unless i (suc n) r = refl

    listed-unless : (is : List ℕ) (n : ℕ)
        → unless_refused n (book_image p k) (handed_in p (book_image p k) is)
        ≡ outcome (unless_wrong n k (book_listed p k is)).answer (book_image p (unless_wrong n k (book_listed p k is)).book)
    unfolding unless_refused unless_wrong
    listed-unless is zero = handed_same is
    listed-unless is (suc n) = refl

    pub one_call : (c : Call) → called p (book_image p k) c ≡ outcome (turn p k c).answer (book_image p (turn p k c).book)
    unfolding called call_rules performed turn book_offered unless_refused
    one_call offered = rw (no_refusal, offered_same)
    one_call (try i) = rw (try_refusal i) (tried-unless i (book_refusal p k i) refl)
    one_call settle = rw no_refusal settled_same
    one_call (list l) = rw (later-rules p (book_image p k) no_refusal (list_rules l)) (listed-unless (entries l) (refusal (list_rules l)))

    -- ---- the book stays lawful

    -- moves that lead to a good lane are listed
    all_lawful : (is : List ℕ) → Sound p (replay p (lane p k) is) → good p (replay p (lane p k) is) ≡ true → Lawful p (listed k is)
    all_lawful is s g = record { sound = rw (lane-listed p k is) s; is_good = rw (lane-listed p k is) g; crossed_bad = λ j n b. absurd_bool b refl }

    -- one that may be committed
    pub listed_lawful : (i : ℕ) → i < interactions p → may_commit p (lane p k) i ≡ true → Lawful p (listed k (i ∷ []))
    unfolding here
    listed_lawful i l m =
        all_lawful (i ∷ []) (rw (replay_one p (lane p k) i) (sound_after p here (lane p k) h.sound i l (commit_enabled p (lane p k) i m)))
        (rw (replay_one p (lane p k) i) (commit_good p (lane p k) i m))

    -- the entries of a list that completes
    pub completed_lawful : (is : List ℕ) → completes p (lane p k) is ≡ true → Lawful p (listed k is)
    completed_lawful is m =
        all_lawful is (sound_replay p here (lane p k) h.sound is (completes_all p (lane p k) is m)) (completes-good p (lane p k) is m)

    -- moves that may be marked then are crossed off
    crossed_lawful : (f : ℕ → Bool) → ((i : ℕ) → i < interactions p → f i ≡ true → MarkKept p (lane p k) (crossed_off k f).crossed i) → Lawful p (crossed_off k f)
    unfolding lane
    crossed_lawful f bad =
        record {
          sound = h.sound;
          is_good = h.is_good;
          crossed_bad = λ i l b. or_cases (k.crossed i) (f i) b
              (λ t.
              let m = h.crossed_bad i l t in
              record { number< = l; is_enabled = m.is_enabled; ends_bad = m.ends_bad; above = λ j n up on. or_left (k.crossed j) (f j) (m.above j n up on) })
              (bad i l);
        }

    -- a bad one that may be tried
    allowed_mark : (i : ℕ) → Allowed i → good p (after p (lane p k) i) ≡ false → MarkKept p (lane p k) (crossed_off k (λ j. eqb j i)).crossed i
    allowed_mark i a t =
        let s = (lane p k).state in
        record {
          number< = a.number<;
          is_enabled = eligible-enabled p s k.crossed i a.is_eligible;
          ends_bad = t;
          above = λ j n up on. or_left (k.crossed j) (eqb j i) (above_marked p s k.crossed i (eligible-top p s k.crossed i a.is_eligible) j n up on);
        }

    tried_lawful : (i : ℕ) → Allowed i → Lawful p (book_tried p k i).book
    unfolding book_tried
    tried_lawful i a =
        bool_cases (good p (after p (lane p k) i)) (λ t. rw t (listed_lawful i a.number< (allowed-commits i a t)))
        (λ t. rw t (crossed_lawful (λ j. eqb j i)
        (λ j l b. rw (eqb-true j i b) (allowed_mark i a t))))

    wrong_lawful : (i n : ℕ) → book_refusal p k i ≡ n → Lawful p (unless_wrong n k (book_tried p k i)).book
    unfolding unless_wrong
    wrong_lawful i zero r = tried_lawful i (allowed_try i r)
    wrong_lawful i (suc n) r = h

    settled_lawful : Lawful p (book_settled p k).book
    unfolding book_settled
    settled_lawful =
        bool_cases (ltb (safe_move p (lane p k)) (interactions p))
        (λ t. let l = ltb-true _ _ t in rw t (listed_lawful (safe_move p (lane p k)) l (safe-commits p (lane p k) l)))
        (λ t. bool_cases (some_below (interactions p) (enabled p (lane p k).state))
        (λ u. rw (t, u) (crossed_lawful (enabled p (lane p k).state)
        (λ i l b.
        record {
          number< = l;
          is_enabled = b;
          above = λ j m up on. or_right (k.crossed j) (enabled p (lane p k).state j) on;
          ends_bad = none-good p (rank_order p e) (lane p k) t i l b;
        })))
        (λ u. rw (t, u) h))

    handed_lawful : (is : List ℕ) (n : ℕ) → Lawful p (unless_wrong n k (book_listed p k is)).book
    unfolding unless_wrong book_listed
    handed_lawful is zero = bool_cases (completes p (lane p k) is) (λ t. rw t (completed_lawful is t)) (λ t. rw t h)
    handed_lawful is (suc n) = h

    pub turn_lawful : (c : Call) → Lawful p (turn p k c).book
    unfolding turn book_offered
    turn_lawful offered = h
    turn_lawful (try i) = wrong_lawful i (book_refusal p k i) refl
    turn_lawful settle = settled_lawful
    turn_lawful (list l) = handed_lawful (entries l) (refusal (list_rules l))
