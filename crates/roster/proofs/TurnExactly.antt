-- Each answer of a turn, with its exact condition, and the roster and the buffer after it.
use mathlib.Core.Path.{◌≡◌, refl, sym, ap, subst, ◌∙◌}
use mathlib.Core.Logic.Iff
use mathlib.Core.Logic.{◌↔◌, ◌⊎◌, inl, inr, ◌≢◌}
use Prim.Native.Nat.{ℕ, zero, suc, ◌*◌, ◌≤◌, ◌<◌}
use native.Mathlib.Nat.{suc-ne-zero}
use native.Mathlib.Omega.{arith}
use mathlib.Core.Bool.{Bool, true, false, true≢false, cond}
use mathlib.Core.List.{List, [], ◌∷◌, map}
use lib.Dec.{leb, ltb, eqb}
use lib.ListN.{length}
use Rattle.semantics.specs.Bytes.{every}
use Rattle.semantics.specs.Plan.{Plan}
use Rattle.semantics.specs.Refusal.{rule, refusal}
use Rattle.semantics.specs.Rules.{plan_rules}
use Rattle.semantics.specs.Image.{image_length}
use Rattle.semantics.specs.Calls.{Answer, refused, check, Call.settle, called}
use Rattle.semantics.proofs.Basics.{bool_cases, absurd_bool, both_and, each, all_of_lem, leb-false, ltb-true, ltb-false, eqb-true, eq-eqb, eqb-false, every-at, lowest_is}
use Rattle.semantics.proofs.Refusing.{numbered}
use Rattle.semantics.proofs.Counting.{among}
use Rattle.semantics.proofs.RuleLists.{Kept, before, keeps, Exactly, distinct, no_rule_0, refusal_exactly, exactly_append}
use Rattle.semantics.proofs.RefusalConditions.{plan_numbers, check_refuses}
use Rattle.semantics.proofs.RefusedUnchanged.{refused-unchanged}
use Rattle.semantics.proofs.Lengths.{called-length}
use Rattle.roster.specs.declared.record.Lane.{Lane}
use Rattle.roster.specs.Roster.{max_lanes, lane_at, free, wait_of, longest, chosen, longer, waited}
use Rattle.roster.specs.Turn.{part, with_part, roster_ok, turn_rules, TurnAnswer, turned_away, idle, served, Dispatched, unchanged, settled_part, given, dispatch}
use Rattle.roster.proofs.OtherLanes.{Inside, part_length, same_stays, with_length, part_same, part_other}
use Rattle.roster.proofs.Choice.{at_map, Best, chosen_best, chosen_none, chosen-free}
use Rattle.roster.proofs.Dispatch.{Manned, manned, turn_manned, dispatch-refused, dispatch-given, dispatch_idle}

-- ---- the three ways a turn goes

-- lane i is due: "the unheld lane that waited longest, the lowest number on a tie"
abbrev pub Due : List Lane → ℕ → Type 0
Due l i = Best (length l) l i (wait_of l i)

abbrev pub AllHeld : List Lane → Type 0
AllHeld l = (j : ℕ) → j < length l → free l j ≡ false

module _ (p : Plan) (l : List Lane) (b : List ℕ) where
  abbrev r : ℕ
  r = refusal (turn_rules p l (length b))

  pub data Goes : Dispatched → Type 0 where
    away : (n : ℕ) → r ≡ suc n → Goes (unchanged (turned_away (suc n)) l b)
    rests : r ≡ 0 → AllHeld l → Goes (unchanged idle l b)
    serves : (i : ℕ) → r ≡ 0 → Due l i → Goes (given p l b i)

  module _ (e : r ≡ 0) where
    crew : Manned l (length b)
    crew = turn_manned p l (length b) e

    is_longest : chosen l < length l → free l (chosen l) ≡ true
    unfolding chosen longest
    is_longest h = (each _ ((lowest_is (length l) (longest l)).hit h)).0

    chosen-turn : chosen l < length l → Due l (chosen l)
    chosen-turn h = chosen-free l crew.counted (chosen l) h (is_longest h)

    none_free : length l ≤ chosen l → AllHeld l
    none_free h j g = bool_cases (free l j) (λ q. let s = (chosen-free l crew.counted j g q).small in absurd (omega (arith, s))) (λ q. q)

    goes_on : Goes (dispatch p l b)
    goes_on =
        bool_cases (ltb (chosen l) (length l))
        (λ t. let h = ltb-true _ _ t in subst Goes (sym (dispatch-given p l b e (chosen l) refl h)) (serves (chosen l) e (chosen-turn h)))
        (λ t. let h = ltb-false _ _ t in subst Goes (sym (dispatch_idle p l b e h)) (rests e (none_free h)))

  pub goes : Goes (dispatch p l b)
  goes = go r refl
    where
      go : (k : ℕ) → r ≡ k → Goes (dispatch p l b)
      go zero e = goes_on e
      go (suc k) e = subst Goes (sym (dispatch-refused p l b (suc k) e (suc-ne-zero k))) (away k e)

-- ---- answers of two kinds differ, and one tells what it is of

kind_of : TurnAnswer → ℕ
kind_of (turned_away n) = 0
kind_of idle = 1
kind_of (served i a) = 2

number_of : TurnAnswer → ℕ
number_of (turned_away n) = n
number_of idle = 0
number_of (served i a) = i

answer_of : Answer → TurnAnswer → Answer
answer_of d (turned_away n) = d
answer_of d idle = d
answer_of d (served i a) = a

differ : (a c : TurnAnswer) → eqb (kind_of a) (kind_of c) ≡ false → a ≢ c
differ a c q e = eqb-false (kind_of a) (kind_of c) q (ap kind_of e)

-- ---- idle, and a lane's turn

module _ (p : Plan) (l : List Lane) (b : List ℕ) where
  -- "With all held the answer is idle"
  pub idle_exactly : (dispatch p l b).answer ≡ idle ↔ (refusal (turn_rules p l (length b)) ≡ 0) × AllHeld l
  unfolding kind_of
  idle_exactly = (
    λ e. to (dispatch p l b) (goes p l b) e,
    λ (z, h). ap (λ (d : Dispatched). d.answer)
        (dispatch_idle p l b z (let k = chosen_none l h in omega (arith, k))),
  )
    where
      to : (d : Dispatched) → Goes p l b d → d.answer ≡ idle → (refusal (turn_rules p l (length b)) ≡ 0) × AllHeld l
      to _ (away n z) e = absurd (differ (turned_away (suc n)) idle refl e)
      to _ (rests z h) e = (z, h)
      to _ (serves i z h) e = absurd (unfold given in differ _ idle refl e)

  -- "A turn goes to the unheld lane that waited longest, the lowest number on a tie. It is settled .. the answer names lane and outcome."
  pub served_exactly : (i : ℕ) (a : Answer)
      → (dispatch p l b).answer ≡ served i a ↔ (refusal (turn_rules p l (length b)) ≡ 0) × Due l i × ((called p (part b i) settle).answer ≡ a)
  unfolding kind_of number_of answer_of given settled_part
  served_exactly i a = (
    λ e. to (dispatch p l b) (goes p l b) e,
    λ (z, h, q). ap (λ (d : Dispatched). d.answer)
        (dispatch-given p l b z i (chosen_best l i (wait_of l i) h) h.small) ∙ ap (served i) q,
  )
    where
      to : (d : Dispatched) → Goes p l b d → d.answer ≡ served i a → (refusal (turn_rules p l (length b)) ≡ 0) × Due l i × ((called p (part b i) settle).answer ≡ a)
      to _ (away n z) e = absurd (differ (turned_away (suc n)) (served i a) refl e)
      to _ (rests z h) e = absurd (differ idle (served i a) refl e)
      to _ (serves j z h) e =
          let q = ap number_of e in
          (z, subst (Due l) q h, ap (λ (k : ℕ). (called p (part b k) settle).answer) (sym q) ∙ ap (answer_of a) e)

  -- the whole turn of a lane that the answer names
  pub served_whole : (i : ℕ) (a : Answer) → (dispatch p l b).answer ≡ served i a → dispatch p l b ≡ given p l b i
  served_whole i a e = let (z, h, q) = (served_exactly i a).0 e in dispatch-given p l b z i (chosen_best l i (wait_of l i) h) h.small

  -- "A lane's refusal uses up its turn .. Its image is then unchanged, and only the roster's waits move on"
  pub lane-refused : (i n : ℕ) → (dispatch p l b).answer ≡ served i (refused n) → ((dispatch p l b).images ≡ b) × ((dispatch p l b).roster ≡ map (waited i) l)
  unfolding given settled_part
  lane-refused i n e =
      let w = served_whole i (refused n) e in (
        ap (λ (d : Dispatched). d.images) w ∙ ap (with_part b i) (refused-unchanged p (part b i) settle n ((served_exactly i (refused n)).0 e).2) ∙ same_stays b i,
        ap (λ (d : Dispatched). d.roster) w,
      )

  -- ---- the refused turns

  -- "A turn refused for the plan or under 23 changes neither roster nor buffer."; nor does an idle one
  pub nobodys-unchanged : (a : TurnAnswer) → (dispatch p l b).answer ≡ a → ((i : ℕ) (c : Answer) → a ≢ served i c) → dispatch p l b ≡ unchanged a l b
  unfolding given
  nobodys-unchanged a e f = to (dispatch p l b) (goes p l b) e
    where
      to : (d : Dispatched) → Goes p l b d → d.answer ≡ a → d ≡ unchanged a l b
      to _ (away n z) q = ap (λ (x : TurnAnswer). unchanged x l b) q
      to _ (rests z h) q = ap (λ (x : TurnAnswer). unchanged x l b) q
      to _ (serves i z h) q = absurd (f i _ (sym q))

  turn_distinct : distinct (turn_rules p l (length b)) ≡ true
  unfolding distinct plan_rules turn_rules
  turn_distinct = refl

  turn_numbered : numbered (turn_rules p l (length b)) ≡ true
  unfolding numbered plan_rules turn_rules
  turn_numbered = refl

  away_refuses : (n : ℕ) → (dispatch p l b).answer ≡ turned_away (suc n) ↔ refusal (turn_rules p l (length b)) ≡ suc n
  unfolding kind_of number_of given
  away_refuses n = (λ e. to (dispatch p l b) (goes p l b) e, λ z. ap (λ (d : Dispatched). d.answer) (dispatch-refused p l b (suc n) z (suc-ne-zero n)))
    where
      to : (d : Dispatched) → Goes p l b d → d.answer ≡ turned_away (suc n) → refusal (turn_rules p l (length b)) ≡ suc n
      to _ (away m z) e = z ∙ ap number_of e
      to _ (rests z h) e = absurd (differ idle (turned_away (suc n)) refl e)
      to _ (serves i z h) e = absurd (differ _ (turned_away (suc n)) refl e)

  never_0 : (dispatch p l b).answer ≢ turned_away 0
  unfolding kind_of number_of given
  never_0 e = to (dispatch p l b) (goes p l b) e
    where
      to : (d : Dispatched) → Goes p l b d → d.answer ≢ turned_away 0
      to _ (away m z) q = suc-ne-zero m (ap number_of q)
      to _ (rests z h) q = differ idle (turned_away 0) refl q
      to _ (serves i z h) q = differ _ (turned_away 0) refl q

  -- A turn is refused with the number n exactly where its rule n is broken and each of its rules before it is kept.
  pub turn_refuses : (n : ℕ) → (dispatch p l b).answer ≡ turned_away n ↔ Exactly n (turn_rules p l (length b))
  turn_refuses zero = (λ e. absurd (never_0 e), λ x. absurd_bool (no_rule_0 (turn_rules p l (length b)) turn_numbered) x.1)
  turn_refuses (suc n) = Iff.trans (away_refuses n) (refusal_exactly (suc n) (turn_rules p l (length b)) turn_distinct (suc-ne-zero n))

  -- the plan's numbers come where a check gives them
  pub plan_refuses : (n : ℕ) → among n plan_numbers ≡ true → (dispatch p l b).answer ≡ turned_away n ↔ check p ≡ refused n
  unfolding turn_rules plan_rules
  plan_refuses n h =
      Iff.trans (turn_refuses n) (rw (exactly_append n (plan_rules p) (rule 23 (roster_ok l (length b)) ∷ []) h) (Iff.symm (check_refuses p n)))

-- ---- 23

-- "no lanes or more than eight, lane numbers do not run from 0, or the buffer is not 312 bytes a lane"
abbrev pub BadRoster : List Lane → ℕ → Type 0
BadRoster l k =
    (length l ≡ 0) ⊎ ((max_lanes < length l) ⊎ (((i : ℕ) × (i < length l) × ((lane_at l i).number ≢ i)) ⊎ (k ≢ image_length * length l)))

every-not : (n : ℕ) (f : ℕ → Bool) → every n f ≡ false → (k : ℕ) × (k < n) × (f k ≡ false)
unfolding every
every-not zero f e = absurd (true≢false e)
every-not (suc n) f e =
    bool_cases (f n)
    (λ t.
    let h = every-not n f (bool_cases (every n f) (λ u. absurd_bool (both_and u t) e) (λ u. u)) in
    (h.0, (let l = h.1 in omega (arith, l)), h.2))
    (λ t. (n, omega arith, t))

roster_broken : (l : List Lane) (k : ℕ) → roster_ok l k ≡ false ↔ BadRoster l k
unfolding roster_ok
roster_broken l k = (to, from)
  where
    n : ℕ
    n = length l

    to : roster_ok l k ≡ false → BadRoster l k
    to e =
        bool_cases (ltb 0 n)
        (λ x. bool_cases (leb n max_lanes)
        (λ y. bool_cases (every n (λ i. eqb (lane_at l i).number i))
        (λ z. inr (inr (inr (λ q. absurd_bool (all_of_lem (ltb 0 n ∷ leb n max_lanes ∷ every n (λ i. eqb (lane_at l i).number i) ∷ eqb k (image_length * n) ∷ [])
        (x, (y, (z, (eq-eqb k (image_length * n) q, tt))))) e))))
        (λ z. let f = every-not n (λ i. eqb (lane_at l i).number i) z in inr (inr (inl (f.0, f.1, eqb-false (lane_at l f.0).number f.0 f.2)))))
        (λ y. inr (inl (leb-false n max_lanes y))))
        (λ x. let c = ltb-false 0 n x in inl (omega (arith, c)))

    broken : Manned l k → BadRoster l k → ⊥
    broken m (inl q) = let c = m.some in omega (arith, c, q)
    broken m (inr (inl q)) = let c = m.few in omega (arith, c, q)
    broken m (inr (inr (inl (i, h, f)))) = f (eqb-true (lane_at l i).number i (every-at n (λ j. eqb (lane_at l j).number j) m.numbers i h))
    broken m (inr (inr (inr f))) = f m.bytes

    from : BadRoster l k → roster_ok l k ≡ false
    from bad = bool_cases (roster_ok l k) (λ e. absurd (broken (manned l k e) bad)) (λ e. e)

-- "23 ..; it is tested after the plan's numbers and stands in for 11."
pub refusal_23 : (p : Plan) (l : List Lane) (b : List ℕ) → (dispatch p l b).answer ≡ turned_away 23 ↔ Kept (plan_rules p) × BadRoster l (length b)
unfolding before keeps plan_rules turn_rules
refusal_23 p l b = Iff.trans (turn_refuses p l b 23) (Iff.and Iff.rfl (roster_broken l (length b)))

-- ---- the bytes and the records after a turn

-- the buffer is as long as it was, whatever the turn
pub turn-length : (p : Plan) (l : List Lane) (b : List ℕ) → length (dispatch p l b).images ≡ length b
unfolding given settled_part
turn-length p l b = to (dispatch p l b) (goes p l b)
  where
    to : (d : Dispatched) → Goes p l b d → length d.images ≡ length b
    to _ (away n z) = refl
    to _ (rests z h) = refl
    to _ (serves i z h) = with_length b i (called p (part b i) settle).image (called-length p (part b i) settle)

module _ (p : Plan) (l : List Lane) (b : List ℕ) (i : ℕ) (a : Answer) (e : (dispatch p l b).answer ≡ served i a) where
  -- the lane that was served has its image in the buffer whole
  served_inside : Inside b i
  served_inside =
      let (z, h, q) = (served_exactly p l b i a).0 e in
      let k = (turn_manned p l (length b) z).bytes in
      let s = h.small in
      omega (arith, k, s)

  -- "It is settled": its bytes are those of a settling
  pub served_bytes_lem : part (dispatch p l b).images i ≡ (called p (part b i) settle).image
  unfolding given settled_part
  served_bytes_lem =
      ap (λ (d : Dispatched). part d.images i) (served_whole p l b i a e)
      ∙ part_same b i (called p (part b i) settle).image served_inside (called-length p (part b i) settle ∙ part_length b i served_inside)

  -- "No other lane's bytes change."
  pub other_bytes : (j : ℕ) → j ≢ i → part (dispatch p l b).images j ≡ part b j
  unfolding given settled_part
  other_bytes j f =
      ap (λ (d : Dispatched). part d.images j) (served_whole p l b i a e)
      ∙ part_other b i j (called p (part b i) settle).image served_inside (called-length p (part b i) settle ∙ part_length b i served_inside) f

  -- "its wait becomes 0 and every other wait grows by one, stopping at 65535"; number and held flag stay
  pub served_records : (j : ℕ) → j < length l
      → lane_at (dispatch p l b).roster j ≡ record { number = (lane_at l j).number; held = (lane_at l j).held; wait = cond (eqb j i) 0 (longer (wait_of l j)) }
  unfolding given waited
  served_records j h =
      let n = every-at (length l) (λ k. eqb (lane_at l k).number k) (turn_manned p l (length b) ((served_exactly p l b i a).0 e).0).numbers j h in
      ap (λ (d : Dispatched). lane_at d.roster j) (served_whole p l b i a e) ∙ at_map (waited i) l j h
      ∙ ap (λ (k : ℕ). record { number = (lane_at l j).number; held = (lane_at l j).held; wait = cond (eqb k i) 0 (longer (wait_of l j)) })
      (eqb-true (lane_at l j).number j n)
