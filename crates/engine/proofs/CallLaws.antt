-- What each call answers and leaves, from the refusal of plan and image and the tests that come after it.
use mathlib.Core.Path.{◌≡◌, sym, ap, ◌∙◌}
use Prim.Native.Nat.{ℕ, ◌^◌, ◌≤◌, ◌<◌}
use mathlib.Core.Bool.{true, false, not, ◌&&◌}
use mathlib.Core.List.{◌++◌}
use native.Mathlib.Nat.{le_trans}
use lib.Dec.{eqb}
use Rattle.semantics.specs.Bytes.{some_below, bit, mask, with_bit}
use Rattle.semantics.specs.Plan.{Plan, max_interactions, interactions, below}
use Rattle.semantics.specs.Refusal.{unless, refusal}
use Rattle.semantics.specs.Rules.{plan_rules}
use Rattle.semantics.specs.Move.{enabled, outranked, after, good, safe_move}
use Rattle.semantics.specs.Image.{Image, image, with_marks, marks_of, configuration_of, image_rules}
use Rattle.semantics.specs.Calls.{Answer, offers, committed, cancelled, stalled, penned, refused, Outcome, outcome, unless_refused, clerk_rules, offered_mask, tried, settled, Call, offered, try, settle, list, call_rules, performed, called}
use Rattle.semantics.specs.Load.{list_rules}
use Rattle.semantics.proofs.Basics.{bool_cases, absurd_bool, and_both, both_and, lt-ltb, le-ltb, eq-eqb, ne_eqb}
use Rattle.semantics.proofs.Masks.{bit_mask, mask_lt, mask-holds}
use Rattle.semantics.proofs.Refusing.{refused-first}
use Rattle.semantics.proofs.AcceptedPlan.{accepted_plan, counts_of_lem}
use Rattle.semantics.proofs.LawfulImage.{LawfulImage, lawful_image, marks_kept, later-rules}
use Rattle.semantics.proofs.Ranking.{outranked_in}
use Rattle.words.proofs.BitLaws.{any_bit}
use Rattle.ranks.specs.Standing.{standing}
use Rattle.ranks.proofs.StandingLaws.{standing_offered}
use Rattle.engine.proofs.Refusals.{unless_refused_some}

-- an outcome's two parts
pub parts : {o : Outcome} {a : Answer} {x : Image} → o ≡ outcome a x → (a ≡ o.answer) × (x ≡ o.image)
parts e = (sym (ap (λ (o : Outcome). o.answer) e), sym (ap (λ (o : Outcome). o.image) e))

module _ (p : Plan) (b : Image) where
  refused_as : (o : Outcome) {m : ℕ} (n : ℕ) → m ≡ n → (n ≡ 0 → ⊥) → unless_refused m b o ≡ outcome (refused n) b
  refused_as o n e z = ap (λ (m : ℕ). unless_refused m b o) e ∙ unless_refused_some n b o z

  -- a refusal of plan or image is every call's
  pub called-refused : (k : Call) (n : ℕ) → refusal (plan_rules p ++ image_rules p b) ≡ n → (n ≡ 0 → ⊥) → called p b k ≡ outcome (refused n) b
  unfolding called call_rules
  called-refused offered n e z = refused_as (performed p b offered) n e z
  called-refused (try i) n e z = refused_as (performed p b (try i)) n (refused-first (plan_rules p ++ image_rules p b) (clerk_rules p b i) n e z) z
  called-refused settle n e z = refused_as (performed p b settle) n e z
  called-refused (list l) n e z = refused_as (performed p b (list l)) n (refused-first (plan_rules p ++ image_rules p b) (list_rules l) n e z) z

  module _ (e : refusal (plan_rules p ++ image_rules p b) ≡ 0) where
    lawful : LawfulImage p b
    lawful = lawful_image p b e

    few : interactions p ≤ max_interactions
    few = (counts_of_lem p (accepted_plan p lawful.plan_accepted).counts).interactions≤

    pub called_offered : called p b offered ≡ outcome (offers (offered_mask p b)) b
    unfolding called call_rules performed unless_refused
    called_offered = ap (λ (m : ℕ). unless_refused m b (performed p b offered)) e

    called_settle : called p b settle ≡ settled p b
    unfolding called call_rules performed unless_refused
    called_settle = ap (λ (m : ℕ). unless_refused m b (performed p b settle)) e

    -- ---- try: 16 to 19 in order, then the move

    called_try : (i n : ℕ) → refusal (clerk_rules p b i) ≡ n → called p b (try i) ≡ unless_refused n b (tried p b i)
    unfolding called call_rules performed
    called_try i n q = ap (λ (m : ℕ). unless_refused m b (tried p b i)) (later-rules p b e (clerk_rules p b i) ∙ q)

    pub try_outside : (i : ℕ) → interactions p ≤ i → called p b (try i) ≡ outcome (refused 16) b
    unfolding clerk_rules refusal unless unless_refused
    try_outside i h = called_try i 16 (rw (le-ltb i (interactions p) h))

    module _ (i : ℕ) (l : i < interactions p) where
      pub try_disabled : enabled p (configuration_of b).state i ≡ false → called p b (try i) ≡ outcome (refused 17) b
      unfolding clerk_rules refusal unless unless_refused
      try_disabled n = called_try i 17 (rw (lt-ltb i (interactions p) l, n))

      module _ (n : enabled p (configuration_of b).state i ≡ true) where
        pub try_outranked : outranked p (configuration_of b).state (bit (marks_of b)) i ≡ true → called p b (try i) ≡ outcome (refused 18) b
        unfolding clerk_rules refusal unless unless_refused
        try_outranked q = called_try i 18 (rw (lt-ltb i (interactions p) l, n, q))

        module _ (top : outranked p (configuration_of b).state (bit (marks_of b)) i ≡ false) where
          pub try_marked : bit (marks_of b) i ≡ true → called p b (try i) ≡ outcome (refused 19) b
          unfolding clerk_rules refusal unless unless_refused
          try_marked m = called_try i 19 (rw (lt-ltb i (interactions p) l, n, top, m))

          module _ (m : bit (marks_of b) i ≡ false) where
            called-tried : called p b (try i) ≡ tried p b i
            unfolding clerk_rules refusal unless unless_refused
            called-tried = called_try i 0 (rw (lt-ltb i (interactions p) l, n, top, m))

            pub try_committed : good p (after p (configuration_of b) i) ≡ true
                → called p b (try i) ≡ outcome (committed i) (image p (after p (configuration_of b) i) 0)
            unfolding tried
            try_committed g = called-tried ∙ rw g

            pub try_cancelled : good p (after p (configuration_of b) i) ≡ false
                → called p b (try i) ≡ outcome (cancelled i) (with_marks b (with_bit (marks_of b) i))
            unfolding tried
            try_cancelled g = called-tried ∙ rw g

    -- ---- the moves on offer

    -- o: the mask of the enabled interactions that are not marked
    module _ (o : ℕ) (w : o ≡ mask (interactions p) (λ j. enabled p (configuration_of b).state j && not (bit (marks_of b) j))) where
      open_bit : (j : ℕ) → j < interactions p → bit o j ≡ (enabled p (configuration_of b).state j && not (bit (marks_of b) j))
      open_bit j l = ap (λ (m : ℕ). bit m j) w ∙ bit_mask (interactions p) (λ j. enabled p (configuration_of b).state j && not (bit (marks_of b) j)) j l

      -- those above which none of them lies are on offer
      pub offer_mask : standing p o ≡ offered_mask p b
      unfolding offered_mask
      offer_mask = standing_offered p (configuration_of b).state (bit (marks_of b)) o open_bit

      -- one of them above i outranks it
      pub open_outranks : (i : ℕ) → some_below (interactions p) (λ j. below p i j && bit o j) ≡ outranked p (configuration_of b).state (bit (marks_of b)) i
      open_outranks i = outranked_in p (configuration_of b).state (bit (marks_of b)) i o open_bit

      pub open_small : o < 2 ^ interactions p
      open_small = rw w (mask_lt (interactions p) (λ j. enabled p (configuration_of b).state j && not (bit (marks_of b) j)))

      -- each is enabled
      pub open_enabled : (j : ℕ) → bit o j ≡ true → enabled p (configuration_of b).state j ≡ true
      open_enabled j t =
          let on = enabled p (configuration_of b).state in
          let (_, h) = mask-holds (interactions p) (λ j. on j && not (bit (marks_of b) j)) j (ap (λ (m : ℕ). bit m j) (sym w) ∙ t) in
          (and_both (on j) (not (bit (marks_of b) j)) h).0

      -- past 14 every other enabled one is marked, and ends bad
      pub closed_bad : (j : ℕ) → j < interactions p → enabled p (configuration_of b).state j ≡ true → bit o j ≡ false → good p (after p (configuration_of b) j) ≡ false
      closed_bad j l on t =
          bool_cases (bit (marks_of b) j) (λ m. (marks_kept p (configuration_of b) (marks_of b) lawful.marks j (le_trans l few) m).ends_bad)
          (λ m. absurd_bool (open_bit j l ∙ both_and on (ap not m)) t)

    -- ---- settle

    pub settle_committed : (k : ℕ) → k ≡ safe_move p (configuration_of b) → k < interactions p
        → called p b settle ≡ outcome (committed k) (image p (after p (configuration_of b) k) 0)
    unfolding settled
    settle_committed k q l = called_settle ∙ rw (← q, lt-ltb k (interactions p) l)

    module _ (k m : ℕ) (q : k ≡ safe_move p (configuration_of b)) (l : interactions p ≤ k) (d : m ≡ mask (interactions p) (enabled p (configuration_of b).state)) where
      -- the mask of the enabled moves is 0 exactly where there is none
      some-enabled : not (eqb m 0) ≡ some_below (interactions p) (enabled p (configuration_of b).state)
      some-enabled =
          rw d (any_bit (interactions p) (mask (interactions p) (enabled p (configuration_of b).state)) (enabled p (configuration_of b).state)
          (mask_lt (interactions p) (enabled p (configuration_of b).state))
          (bit_mask (interactions p) (enabled p (configuration_of b).state)))

      pub settle_stalled : m ≡ 0 → called p b settle ≡ outcome stalled b
      unfolding settled
      settle_stalled z = called_settle ∙ rw (← q, le-ltb k (interactions p) l, ← some-enabled, eq-eqb m 0 z)

      pub settle_penned : (m ≡ 0 → ⊥) → called p b settle ≡ outcome penned (with_marks b (mask (interactions p) (enabled p (configuration_of b).state)))
      unfolding settled
      settle_penned z = called_settle ∙ rw (← q, le-ltb k (interactions p) l, ← some-enabled, ne_eqb m 0 z)
