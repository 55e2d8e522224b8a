-- The one number of a turn's answer tells whose turn it was and what its settling answered: two answers that turns give differ in their numbers. A
-- lane's own refusal is 12, 13 or 14, none of which a turn is refused with.
use mathlib.Core.Path.{◌≡◌, refl, sym, ap, ap₂, subst, ◌∙◌}
use Prim.Native.Nat.{ℕ, zero, suc, ◌+◌, ◌*◌, ◌≤◌, ◌<◌}
use native.Mathlib.Nat.{suc-ne-zero, le_trans}
use native.Mathlib.Omega.{arith}
use mathlib.Core.Bool.{Bool, true, false, false≢true, cond, ◌&&◌, ◌||◌}
use mathlib.Core.List.{List, [], ◌∷◌, map}
use lib.Dec.{leb, ltb, eqb}
use lib.ListN.{length}
use Rattle.semantics.specs.Bytes.{all_of, some_below}
use Rattle.semantics.specs.Plan.{Plan, interactions}
use Rattle.semantics.specs.Refusal.{rule, unless, refusal}
use Rattle.semantics.specs.Rules.{plan_rules, plan_refusal}
use Rattle.semantics.specs.Move.{enabled, safe_move}
use Rattle.semantics.specs.Image.{Image, image_length, configuration_of, length_rule, image_rules}
use Rattle.semantics.specs.Calls.{Answer, committed, stalled, penned, refused, packed, unless_refused, settled, Call.settle, call_rules, performed, called}
use Rattle.semantics.proofs.Basics.{bool_cases, and_both, or_cases, leb-true, ltb-true, eqb-true, eq-eqb}
use Rattle.semantics.proofs.AcceptedPlan.{accepted_plan, counts_of_lem, plan_numbered}
use Rattle.semantics.proofs.Refusing.{none-refused, refusal-after}
use Rattle.semantics.proofs.Counting.{among}
use Rattle.semantics.proofs.RuleLists.{numbers, distinct, broken_among, refusal_exactly}
use Rattle.roster.specs.declared.record.Lane.{Lane}
use Rattle.roster.specs.Roster.{max_lanes}
use Rattle.roster.specs.Turn.{part, turn_rules, TurnAnswer, turned_away, idle, served, packed_turn, Dispatched, settled_part, given, dispatch}
use Rattle.roster.proofs.OtherLanes.{part_length}
use Rattle.roster.proofs.Dispatch.{turn_plan_ok, turn_manned}
use Rattle.roster.proofs.TurnExactly.{Goes, away, rests, serves, goes}

-- ---- what a settling in a turn answers

-- a refusal of the image, or an answer of another kind; its number takes one byte, and it has no bits
pub data Settles : Answer → Type 0 where
  refuses : (n : ℕ) → 12 ≤ n → n ≤ 14 → Settles (refused n)
  commits : (i : ℕ) → i < 64 → Settles (committed i)
  stalls : Settles stalled
  pens : Settles penned

module _ (p : Plan) (x : Image) (ok : plan_refusal p ≡ 0) (e : length x ≡ image_length) where
  -- past the plan's numbers and 11
  few_refusals : (c d f : Bool) (n : ℕ) → refusal (rule 11 (eqb (length x) image_length) ∷ rule 12 c ∷ rule 13 d ∷ rule 14 f ∷ []) ≡ suc n
      → (12 ≤ suc n) × (suc n ≤ 14)
  unfolding refusal unless
  few_refusals false d f n q = let z = sym (ap (λ (b : Bool). cond b 12 11) (eq-eqb (length x) image_length e)) ∙ q in (omega (arith, z), omega (arith, z))
  few_refusals true false f n q = let z = sym (ap (λ (b : Bool). cond b 13 11) (eq-eqb (length x) image_length e)) ∙ q in (omega (arith, z), omega (arith, z))
  few_refusals true true false n q = let z = sym (ap (λ (b : Bool). cond b 14 11) (eq-eqb (length x) image_length e)) ∙ q in (omega (arith, z), omega (arith, z))
  few_refusals true true true n q = let z = sym (ap (λ (b : Bool). cond b 0 11) (eq-eqb (length x) image_length e)) ∙ q in absurd (suc-ne-zero n (sym z))

  settle_refuses : (n : ℕ) → refusal (call_rules p x settle) ≡ suc n → Settles (refused (suc n))
  unfolding call_rules image_rules length_rule plan_refusal
  settle_refuses n q =
      let h = few_refusals _ _ _ n (sym (refusal-after (plan_rules p) _ (none-refused (plan_rules p) (plan_numbered p) ok)) ∙ q) in refuses (suc n) h.0 h.1

  settle_performs : Settles (performed p x settle).answer
  unfolding performed settled
  settle_performs =
      let few = (counts_of_lem p (accepted_plan p ok).counts).interactions≤ in
      bool_cases (ltb (safe_move p (configuration_of x)) (interactions p))
      (λ t. rw t (commits _ (le_trans (ltb-true _ _ t) few)))
      (λ t. bool_cases (some_below (interactions p) (enabled p (configuration_of x).state)) (λ u. rw (t, u) pens) (λ u. rw (t, u) stalls))

  pub settles : Settles (called p x settle).answer
  unfolding called unless_refused
  settles = go (refusal (call_rules p x settle)) refl
    where
      go : (n : ℕ) → refusal (call_rules p x settle) ≡ n → Settles (unless_refused n x (performed p x settle)).answer
      go zero q = settle_performs
      go (suc n) q = settle_refuses n q

-- ---- what a turn answers

pub data Gives : TurnAnswer → Type 0 where
  turns_away : (n : ℕ) → n ≤ 23 → (12 ≤ n → n ≤ 14 → ⊥) → Gives (turned_away n)
  rests_idle : Gives idle
  serves_lane : (i : ℕ) (a : Answer) → i < max_lanes → Settles a → Gives (served i a)

-- a number of the list passes a test that each of its numbers passes
test_among : (f : ℕ → Bool) (n : ℕ) (ms : List ℕ) → all_of (map f ms) ≡ true → among n ms ≡ true → f n ≡ true
unfolding all_of
test_among f n [] h e = absurd (false≢true e)
test_among f n (m ∷ ms) h e =
    let d = and_both (f m) (all_of (map f ms)) h in
    or_cases (eqb m n) (among n ms) e (λ q. subst (λ (k : ℕ). f k ≡ true) (eqb-true m n q) d.0) (λ q. test_among f n ms d.1 q)

-- no lane's own
abbrev turns_own : ℕ → Bool
turns_own n = leb n 23 && (ltb n 12 || ltb 14 n)

module _ (p : Plan) (l : List Lane) (b : List ℕ) where
  away_own : (n : ℕ) → refusal (turn_rules p l (length b)) ≡ suc n → turns_own (suc n) ≡ true
  unfolding turn_rules plan_rules distinct all_of
  away_own n e =
      test_among turns_own (suc n) (numbers (turn_rules p l (length b))) refl
      (broken_among (suc n) (turn_rules p l (length b)) ((refusal_exactly (suc n) (turn_rules p l (length b)) refl (suc-ne-zero n)).0 e).1)

  -- every answer of a turn
  pub gives : Gives (dispatch p l b).answer
  unfolding given settled_part
  gives = to (dispatch p l b) (goes p l b)
    where
      to : (d : Dispatched) → Goes p l b d → Gives d.answer
      to _ (away n z) =
          let h = and_both (leb (suc n) 23) (ltb (suc n) 12 || ltb 14 (suc n)) (away_own n z) in
          turns_away (suc n) (leb-true (suc n) 23 h.0)
          (λ low high. or_cases (ltb (suc n) 12) (ltb 14 (suc n)) h.1 (λ q. let k = ltb-true (suc n) 12 q in omega (arith, k))
          (λ q. let k = ltb-true 14 (suc n) q in omega (arith, k)))
      to _ (rests z h) = rests_idle
      to _ (serves i z h) =
          let m = turn_manned p l (length b) z in
          let few = m.few in
          let k = m.bytes in
          let s = h.small in
          serves_lane i _ (omega (arith, s, few)) (settles p (part b i) (turn_plan_ok p l (length b) z) (part_length b i (omega (arith, s, k))))

-- ---- and its number

bounded : {a : Answer} → Settles a → (a.kind < 7) × (a.number < 65536) × (a.bits ≡ 0)
bounded (refuses n low high) = (omega arith, omega arith, refl)
bounded (commits i h) = (omega arith, omega arith, refl)
bounded stalls = (omega arith, omega arith, refl)
bounded pens = (omega arith, omega arith, refl)

same_answer : (a c : Answer) → a.kind ≡ c.kind → a.number ≡ c.number → a.bits ≡ c.bits → a ≡ c
same_answer a c x y z = λ i. record { kind = x i; number = y i; bits = z i }

-- a lane's answer is no refusal of the turn's own, and not idle
settled_apart : (i n : ℕ) {a : Answer} → Settles a → n ≤ 23 → (12 ≤ n → n ≤ 14 → ⊥) → i * 16777216 + packed a ≡ 5 * 65536 + n → ⊥
unfolding packed
settled_apart i n (refuses m low high) h f e = f (omega (arith, e, low, high, h)) (omega (arith, e, low, high, h))
settled_apart i n (commits k l) h f e = omega (arith, e, l, h)
settled_apart i n stalls h f e = omega (arith, e, h)
settled_apart i n pens h f e = omega (arith, e, h)

settled_busy : (i : ℕ) {a : Answer} → Settles a → i * 16777216 + packed a ≡ 7 * 65536 → ⊥
unfolding packed
settled_busy i (refuses m low high) e = omega (arith, e, low, high)
settled_busy i (commits k l) e = omega (arith, e, l)
settled_busy i stalls e = omega (arith, e)
settled_busy i pens e = omega (arith, e)

-- "the answer names lane and outcome"
pub number_tells : {a c : TurnAnswer} → Gives a → Gives c → packed_turn a ≡ packed_turn c → a ≡ c
unfolding packed_turn packed
number_tells (turns_away n h f) (turns_away m k g) e = ap turned_away (omega (arith, e))
number_tells (turns_away n h f) rests_idle e = absurd (omega (arith, e, h))
number_tells (turns_away n h f) (serves_lane j c l s) e = absurd (settled_apart j n s h f (sym e))
number_tells rests_idle (turns_away m k g) e = absurd (omega (arith, e, k))
number_tells rests_idle rests_idle e = refl
number_tells rests_idle (serves_lane j c l s) e = absurd (settled_busy j s (sym e))
number_tells (serves_lane i a l s) (turns_away m k g) e = absurd (settled_apart i m s k g e)
number_tells (serves_lane i a l s) rests_idle e = absurd (settled_busy i s e)
number_tells (serves_lane i a l s) (serves_lane j c m t) e =
    let (x, y, z) = bounded s in
    let (u, v, w) = bounded t in
    ap₂ served (omega (arith, e, x, y, u, v)) (same_answer a c (omega (arith, e, x, y, u, v)) (omega (arith, e, x, y, u, v)) (z ∙ sym w))
