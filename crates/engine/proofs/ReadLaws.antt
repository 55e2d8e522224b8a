-- What each call answers and leaves, from what the reading of plan and image gave.
use mathlib.Core.Path.{◌≡◌, sym, ap, ◌∙◌, subst}
use Prim.Native.Nat.{ℕ, ◌^◌, ◌≤◌, ◌<◌}
use native.Mathlib.Omega.{arith}
use mathlib.Core.Bool.{Bool, true, false, ◌&&◌}
use mathlib.Core.List.{◌++◌}
use Rattle.std.proofs.Common.{Result}
use Rattle.std.specs.Result.{IsErrAnd}
use Rattle.std.proofs.lemmas.Result.{err_from_is_err_and}
use Rattle.semantics.specs.Bytes.{some_below, bit, with_bit}
use Rattle.semantics.specs.Plan.{Plan, interactions, below}
use Rattle.semantics.specs.Code.{State}
use Rattle.semantics.specs.Refusal.{refusal}
use Rattle.semantics.specs.Rules.{plan_rules, plan_refusal}
use Rattle.semantics.specs.Move.{Configuration, enabled, outranked, after, oracles_in_range, reaches, good, safe_move}
use Rattle.semantics.specs.Image.{Image, image, with_marks, marks_of, configuration_of, image_rules}
use Rattle.semantics.specs.Calls.{Answer, offers, committed, cancelled, stalled, penned, refused, Outcome, outcome, Call, offered, try, settle, called}
use Rattle.semantics.proofs.Masks.{bit_mask}
use Rattle.semantics.proofs.LawfulImage.{configured, LawfulImage, lawful_image}
use Rattle.ranks.specs.Standing.{standing}
use Rattle.layout.specs.declared.run.Run.{Run}
use Rattle.layout.specs.Runs.{state_of, configuration_in}
use Rattle.engine.specs.declared.reading.Reading.{Reading}
use Rattle.plan.specs.declared.refusal.Refusal.{Refusal}
use Rattle.plan.specs.Numbers.{number}
use Rattle.plan.proofs.Numbering.{above_0}
use Rattle.engine.specs.declared.answer.Answer.{Answer as Answered}
use Rattle.engine.specs.Answers.{unless_err, answered, answer_of, reply_of}
use Rattle.engine.specs.Known.{Known, Holds}
use Rattle.engine.proofs.CallLaws.{parts, called-refused, called_offered, try_outside, try_disabled, try_outranked, try_marked, try_committed, try_cancelled, offer_mask, open_outranks, open_small, open_enabled, closed_bad, settle_committed, settle_stalled, settle_penned}

-- What a call knows of a lane that was read: its run record, and of it what the reading gave.
pub record Read (p : Plan) (b : Image) (run : Run) (x : Reading) : Type 0 where
  pub none_is : 0 ≡ refusal (plan_rules p ++ image_rules p b)
  pub run_is : Holds b run
  pub known : Known p (state_of run.state) (bit run.marks) x

-- The same by the image's own bytes.
pub record Seen (p : Plan) (b : Image) (x : Reading) : Type 0 where
  pub none_is : 0 ≡ refusal (plan_rules p ++ image_rules p b)
  pub known : Known p (configuration_of b).state (bit (marks_of b)) x

-- a refusal of plan and image that is passed on is the call's
pub ends_refused : (p : Plan) (b : Image) (c : Call) (r : Refusal) → number r ≡ refusal (plan_rules p ++ image_rules p b)
    → called p b c ≡ outcome (refused (number r)) b
ends_refused p b c r e = called-refused p b c (number r) (sym e) (above_0 r)

pub turned_away : (p : Plan) (b : Image) (c : Call) (r : Refusal) → number r ≡ refusal (plan_rules p ++ image_rules p b)
    → (refused (number r) ≡ (called p b c).answer) × (b ≡ (called p b c).image)
turned_away p b c r e = parts (ends_refused p b c r e)

-- a refusal that is passed on is what a call gives that is refused so
pub passed_on : {A : Type 0} (said : A → Answer) (o : Outcome) (b : Image) (r : Refusal) (x : Result A Refusal) → IsErrAnd x (λ d. d ≡ r)
    → o ≡ outcome (refused (number r)) b → (unless_err said x ≡ o.answer) × (b ≡ o.image)
passed_on said o b r x h e =
    let (_, is, from) = err_from_is_err_and x h in
    rw (is, from) (parts e)

pub answer_on : (p : Plan) (b : Image) (c : Call) (r : Refusal) (x : Result Answered Refusal) → IsErrAnd x (λ d. d ≡ r)
    → number r ≡ refusal (plan_rules p ++ image_rules p b) → (answer_of x ≡ (called p b c).answer) × (b ≡ (called p b c).image)
answer_on p b c r x h e = passed_on answered (called p b c) b r x h (ends_refused p b c r e)

pub reply_on : (p : Plan) (b : Image) (c : Call) (r : Refusal) (x : Result ℕ Refusal) → IsErrAnd x (λ d. d ≡ r)
    → number r ≡ refusal (plan_rules p ++ image_rules p b) → reply_of x ≡ (called p b c).answer
reply_on p b c r x h e = (passed_on (λ (m : ℕ). offers m) (called p b c) b r x h (ends_refused p b c r e)).0

-- past the refusals of plan and image the plan is accepted
pub plan_passed : (p : Plan) (b : Image) → 0 ≡ refusal (plan_rules p ++ image_rules p b) → plan_refusal p ≡ 0
plan_passed p b e = (lawful_image p b (sym e)).plan_accepted

module _ {p : Plan} {b : Image} {run : Run} {x : Reading} (w : Read p b run x) where
  pub none : refusal (plan_rules p ++ image_rules p b) ≡ 0
  none = sym w.none_is

  pub lawful : LawfulImage p b
  lawful = lawful_image p b none

  pub lane_is : configuration_in run ≡ configuration_of b
  lane_is = w.run_is.0

  state_is : state_of run.state ≡ (configuration_of b).state
  state_is = ap (λ (c : Configuration). c.state) lane_is

  marks_are : run.marks ≡ marks_of b
  marks_are = w.run_is.1

  pub masks : Known p (configuration_of b).state (bit (marks_of b)) x
  masks = subst (λ (m : ℕ). Known p (configuration_of b).state (bit m) x) marks_are (subst (λ (s : State). Known p s (bit run.marks) x) state_is w.known)

  pub in_range : oracles_in_range p run.oracles ≡ true
  in_range =
      subst (λ (c : Configuration). oracles_in_range p c.oracles ≡ true) (sym lane_is) (configured p (configuration_of b) lawful.configuration).in_range

  -- ---- settle

  pub open_low : x.free < 2 ^ interactions p
  open_low = open_small p b none x.free masks.free_is

  -- an open move is enabled in the run
  pub open_move : (j : ℕ) → bit x.free j ≡ true → enabled p (state_of run.state) j ≡ true
  open_move j q = ap (λ (s : State). enabled p s j) state_is ∙ open_enabled p b none x.free masks.free_is j q

  -- and any other enabled one ends bad
  pub closed-move : (j : ℕ) → j < interactions p → enabled p (state_of run.state) j ≡ true → bit x.free j ≡ false → good p (after p (configuration_in run) j) ≡ false
  closed-move j l on q =
      ap (λ (c : Configuration). good p (after p c j)) lane_is
      ∙ closed_bad p b none x.free masks.free_is j l (ap (λ (s : State). enabled p s j) (sym state_is) ∙ on) q

  -- the move that was sought
  pub ends_settled : (f : ℕ) → f ≡ safe_move p (configuration_in run) → f < interactions p
      → called p b settle ≡ outcome (committed f) (image p (after p (configuration_in run) f) 0)
  ends_settled f q l =
      settle_committed p b none f (q ∙ ap (safe_move p) lane_is) l ∙ ap (λ (c : Configuration). outcome (committed f) (image p (after p c f) 0)) (sym lane_is)

  -- there is none
  module _ (q : safe_move p (configuration_in run) ≡ interactions p) where
    none_found : interactions p ≡ safe_move p (configuration_of b)
    none_found = sym q ∙ ap (safe_move p) lane_is

    pub ends_stalled : x.enabled ≡ 0 → called p b settle ≡ outcome stalled b
    ends_stalled e = settle_stalled p b none (interactions p) x.enabled none_found (omega arith) masks.enabled_is e

    pub ends_penned : (x.enabled ≡ 0 → ⊥) → called p b settle ≡ outcome penned (with_marks b x.enabled)
    ends_penned e =
        settle_penned p b none (interactions p) x.enabled none_found (omega arith) masks.enabled_is e
        ∙ ap (λ (m : ℕ). outcome penned (with_marks b m)) (sym masks.enabled_is)

  -- ---- try

  module _ (i : ℕ) where
    pub ends_outside : interactions p ≤ i → called p b (try i) ≡ outcome (refused 16) b
    ends_outside l = try_outside p b none i l

    module _ (l : i < interactions p) where
      enabled-bit : bit x.enabled i ≡ enabled p (configuration_of b).state i
      enabled-bit = ap (λ (m : ℕ). bit m i) masks.enabled_is ∙ bit_mask (interactions p) (enabled p (configuration_of b).state) i l

      -- an open move lies above it
      abbrev over : Bool
      over = some_below (interactions p) (λ j. below p i j && bit x.free j)

      over_is : over ≡ outranked p (configuration_of b).state (bit (marks_of b)) i
      over_is = open_outranks p b none x.free masks.free_is i

      mark_bit : bit run.marks i ≡ bit (marks_of b) i
      mark_bit = ap (λ (m : ℕ). bit m i) marks_are

      pub ends_disabled : bit x.enabled i ≡ false → called p b (try i) ≡ outcome (refused 17) b
      ends_disabled n = try_disabled p b none i l (sym enabled-bit ∙ n)

      module _ (n : bit x.enabled i ≡ true) where
        -- the move is enabled in the run
        pub enabled_in_run : enabled p (state_of run.state) i ≡ true
        enabled_in_run = ap (λ (s : State). enabled p s i) state_is ∙ sym enabled-bit ∙ n

        pub ends_outranked : some_below (interactions p) (λ j. below p i j && bit x.free j) ≡ true → called p b (try i) ≡ outcome (refused 18) b
        ends_outranked q = try_outranked p b none i l (sym enabled-bit ∙ n) (sym over_is ∙ q)

        module _ (q : some_below (interactions p) (λ j. below p i j && bit x.free j) ≡ false) where
          pub ends_marked : bit run.marks i ≡ true → called p b (try i) ≡ outcome (refused 19) b
          ends_marked m = try_marked p b none i l (sym enabled-bit ∙ n) (sym over_is ∙ q) (sym mark_bit ∙ m)

          module _ (m : bit run.marks i ≡ false) (d : Configuration) (e : d ≡ after p (configuration_in run) i) where
            moved : d ≡ after p (configuration_of b) i
            moved = e ∙ ap (λ (c : Configuration). after p c i) lane_is

            good_is : reaches p 2 d.oracles ≡ good p (after p (configuration_of b) i)
            unfolding good
            good_is = ap (λ (c : Configuration). reaches p 2 c.oracles) moved

            pub ends_committed : reaches p 2 d.oracles ≡ true → called p b (try i) ≡ outcome (committed i) (image p d 0)
            ends_committed g =
                try_committed p b none i l (sym enabled-bit ∙ n) (sym over_is ∙ q) (sym mark_bit ∙ m) (sym good_is ∙ g)
                ∙ ap (λ (c : Configuration). outcome (committed i) (image p c 0)) (sym moved)

            pub ends_cancelled : reaches p 2 d.oracles ≡ false → called p b (try i) ≡ outcome (cancelled i) (with_marks b (with_bit run.marks i))
            ends_cancelled g =
                try_cancelled p b none i l (sym enabled-bit ∙ n) (sym over_is ∙ q) (sym mark_bit ∙ m) (sym good_is ∙ g)
                ∙ ap (λ (v : ℕ). outcome (cancelled i) (with_marks b (with_bit v i))) (sym marks_are)

-- ---- offered

module _ {p : Plan} {b : Image} {x : Reading} (w : Seen p b x) where
  pub passed : refusal (plan_rules p ++ image_rules p b) ≡ 0
  passed = sym w.none_is

  pub ends_offered : called p b offered ≡ outcome (offers (standing p x.free)) b
  ends_offered = called_offered p b passed ∙ ap (λ (m : ℕ). outcome (offers m) b) (sym (offer_mask p b passed x.free w.known.free_is))

module _ (p : Plan) (b : Image) (x : Reading) (e : 0 ≡ refusal (plan_rules p ++ image_rules p b)) (k : Known p (configuration_of b).state (bit (marks_of b)) x) where
  pub offer_low : x.free < 2 ^ interactions p
  offer_low = open_small p b (sym e) x.free k.free_is

  pub said_offered : (m : ℕ) → m ≡ standing p x.free → offers m ≡ (called p b offered).answer
  said_offered m q = ap (λ (m : ℕ). offers m) q ∙ (parts (ends_offered (record { none_is = e; known = k }))).0
