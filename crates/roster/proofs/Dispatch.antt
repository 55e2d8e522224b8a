-- The turn in the paper's words: when it is refused, idle or a lane's, and that the code takes it.
use mathlib.Core.Path.{◌≡◌, refl, sym, ap, subst, ◌∙◌}
use Prim.Native.Nat.{ℕ, zero, suc, ◌*◌, ◌≤◌, ◌<◌}
use native.Mathlib.Omega.{arith}
use mathlib.Core.Bool.{Bool, true, false, cond, ◌&&◌}
use mathlib.Core.List.{List, [], ◌∷◌, map}
use lib.Dec.{leb, ltb, eqb}
use lib.ListN.{length}
use Rattle.std.specs.Prelude.{Option, Some, None}
use Rattle.semantics.specs.Bytes.{every}
use Rattle.semantics.specs.Plan.{Plan}
use Rattle.semantics.specs.Refusal.{rule, unless, refusal}
use Rattle.semantics.specs.Rules.{plan_refusal}
use Rattle.semantics.specs.Image.{image_length}
use Rattle.semantics.proofs.Basics.{bool_cases, absurd_bool, each, all_of_lem, leb-true, le_leb, ltb-true, lt-ltb, ltb-false, le-ltb, eqb-true, eq-eqb, ne_eqb}
use Rattle.engine.proofs.Refusals.{plan_refused, plan_kept}
use Rattle.roster.specs.declared.record.Lane.{Lane}
use Rattle.roster.specs.declared.record.Scan.{Scan}
use Rattle.roster.specs.Roster.{max_lanes, lane_at, chosen, waited}
use Rattle.roster.specs.Turn.{roster_ok, turn_rules, TurnAnswer, turned_away, idle, served, packed_turn, Dispatched, unchanged, given, unless_turned_away, dispatch}
use Rattle.roster.specs.Served.{turned}
use Rattle.roster.specs.Scan.{moved_on, scan_step, scan_to, scanned, bad_roster, found_answer, found_bytes, served_answer, served_bytes}
use Rattle.roster.proofs.ServeLaws.{turn_plan, turn_bad, turn_found, fits}
use Rattle.roster.proofs.Choice.{Found, found, chosen_best, chosen_none}

-- ---- 23
counted_is : (k : ℕ) (l : List Lane) → (scan_to k l).counted ≡ every k (λ i. eqb (lane_at l i).number i)
unfolding scan_to scan_step every
counted_is zero l = refl
counted_is (suc k) l = ap (λ (b : Bool). b && eqb (lane_at l k).number k) (counted_is k l)

-- what a roster that is not refused, and a buffer of k bytes, are
pub record Manned (l : List Lane) (k : ℕ) : Type 0 where
  pub some : 0 < length l
  pub few : length l ≤ max_lanes
  pub numbers : every (length l) (λ i. eqb (lane_at l i).number i) ≡ true
  pub counted : (scanned l).counted ≡ true
  pub bytes : k ≡ image_length * length l

pub manned : (l : List Lane) (k : ℕ) → roster_ok l k ≡ true → Manned l k
unfolding roster_ok
manned l k e =
    let n = length l in
    let d = each (ltb 0 n ∷ leb n max_lanes ∷ every n (λ i. eqb (lane_at l i).number i) ∷ eqb k (image_length * n) ∷ []) e in
    record {
      some = ltb-true 0 n d.0;
      few = leb-true n max_lanes d.1.0;
      numbers = d.1.1.0;
      counted = counted_is n l ∙ d.1.1.0;
      bytes = eqb-true k (image_length * n) d.1.1.1.0;
    }

pub roster_good : (l : List Lane) (k : ℕ) → bad_roster k (scanned l) (length l) ≡ false → roster_ok l k ≡ true
unfolding roster_ok
roster_good l k e =
    let n = length l in
    let f = fits k (scanned l) n e in
    all_of_lem (ltb 0 n ∷ leb n max_lanes ∷ every n (λ i. eqb (lane_at l i).number i) ∷ eqb k (image_length * n) ∷ []) (
      bool_cases (ltb 0 n) (λ q. q) (λ q. absurd (f.some (let c = ltb-false 0 n q in omega (arith, c)))),
      (le_leb n max_lanes f.few, (sym (counted_is n l) ∙ f.counted, (eq-eqb k (image_length * n) f.bytes, tt))),
    )

pub roster_bad : (l : List Lane) (k : ℕ) → bad_roster k (scanned l) (length l) ≡ true → roster_ok l k ≡ false
unfolding bad_roster
roster_bad l k e = bool_cases (roster_ok l k) (λ q.
    let n = length l in
    let m = manned l k q in
    let x : eqb n 0 ≡ false = ne_eqb n 0 (λ z. let c = m.some in omega (arith, z, c)) in
    let y : ltb max_lanes n ≡ false = le-ltb max_lanes n m.few in
    let g : bad_roster k (scanned l) n ≡ false = simp (x, y, m.counted, eq-eqb k (image_length * n) m.bytes) in
    absurd_bool e g) (λ q. q)

-- ---- the four ways a turn goes
only_23 : (c d : Bool) → c ≡ d → refusal (rule 23 c ∷ []) ≡ cond d 0 23
unfolding refusal unless
only_23 c d e = ap (λ (x : Bool). cond x 0 23) e

unless-some : (n : ℕ) (l : List Lane) (b : List ℕ) (d : Dispatched) → (n ≡ 0 → ⊥) → unless_turned_away n l b d ≡ unchanged (turned_away n) l b
unfolding unless_turned_away
unless-some zero l b d f = absurd (f refl)
unless-some (suc n) l b d f = refl

unless-none : (n : ℕ) (l : List Lane) (b : List ℕ) (d : Dispatched) → n ≡ 0 → unless_turned_away n l b d ≡ d
unfolding unless_turned_away
unless-none n l b d e = ap (λ (k : ℕ). unless_turned_away k l b d) e

module _ (p : Plan) (l : List Lane) (k : ℕ) where
  -- the plan's numbers come first
  pub plan_first : (plan_refusal p ≡ 0 → ⊥) → refusal (turn_rules p l k) ≡ plan_refusal p
  unfolding turn_rules
  plan_first f = plan_refused p (rule 23 (roster_ok l k) ∷ []) (plan_refusal p) refl f

  -- then 23
  pub then_23 : plan_refusal p ≡ 0 → roster_ok l k ≡ false → refusal (turn_rules p l k) ≡ 23
  unfolding turn_rules
  then_23 e q = plan_kept p (rule 23 (roster_ok l k) ∷ []) e ∙ only_23 (roster_ok l k) false q

  pub then_none : plan_refusal p ≡ 0 → roster_ok l k ≡ true → refusal (turn_rules p l k) ≡ 0
  unfolding turn_rules
  then_none e q = plan_kept p (rule 23 (roster_ok l k) ∷ []) e ∙ only_23 (roster_ok l k) true q

  -- a turn that is not refused has a lawful plan and roster
  pub turn_plan_ok : refusal (turn_rules p l k) ≡ 0 → plan_refusal p ≡ 0
  turn_plan_ok e =
      bool_cases (eqb (plan_refusal p) 0) (λ x. eqb-true (plan_refusal p) 0 x)
      (λ x. let f : plan_refusal p ≡ 0 → ⊥ = λ z. absurd_bool (eq-eqb (plan_refusal p) 0 z) x in absurd (f (sym (plan_first f) ∙ e)))

  pub turn_manned : refusal (turn_rules p l k) ≡ 0 → Manned l k
  turn_manned e =
      bool_cases (roster_ok l k) (manned l k) (λ q. let z = sym (then_23 (turn_plan_ok e) q) ∙ e in absurd (omega (arith, z)))

module _ (p : Plan) (l : List Lane) (b : List ℕ) where
  abbrev fit : Dispatched
  fit = cond (ltb (chosen l) (length l)) (given p l b (chosen l)) (unchanged idle l b)

  -- refused: nothing changes
  pub dispatch-refused : (k : ℕ) → refusal (turn_rules p l (length b)) ≡ k → (k ≡ 0 → ⊥) → dispatch p l b ≡ unchanged (turned_away k) l b
  unfolding dispatch
  dispatch-refused k e f = ap (λ (x : ℕ). unless_turned_away x l b fit) e ∙ unless-some k l b fit f

  module _ (e : refusal (turn_rules p l (length b)) ≡ 0) where
    dispatch_fit : (c : Bool) → ltb (chosen l) (length l) ≡ c → dispatch p l b ≡ cond c (given p l b (chosen l)) (unchanged idle l b)
    unfolding dispatch
    dispatch_fit c q = unless-none (refusal (turn_rules p l (length b))) l b fit e ∙ ap (λ (x : Bool). cond x (given p l b (chosen l)) (unchanged idle l b)) q

    -- a lane's
    pub dispatch-given : (i : ℕ) → chosen l ≡ i → i < length l → dispatch p l b ≡ given p l b i
    dispatch-given i q h = dispatch_fit true (ap (λ (k : ℕ). ltb k (length l)) q ∙ lt-ltb i (length l) h) ∙ ap (given p l b) q

    -- idle: nothing changes
    pub dispatch_idle : length l ≤ chosen l → dispatch p l b ≡ unchanged idle l b
    dispatch_idle h = dispatch_fit false (le-ltb (chosen l) (length l) h)

-- ---- the code's turn is the paper's
module _ (p : Plan) (l : List Lane) (b : List ℕ) where
  abbrev n : ℕ
  n = length l

  abbrev s : Scan
  s = scanned l

  abbrev Agrees : Dispatched → Type 0
  Agrees d = (served_answer p b s n ≡ d.answer) × (served_bytes p b s n ≡ d.images)

  agrees : (a : TurnAnswer) (z : List ℕ) (d : Dispatched) → dispatch p l b ≡ d → a ≡ d.answer → z ≡ d.images
      → (a ≡ served_answer p b s n) × (z ≡ served_bytes p b s n) → Agrees (dispatch p l b)
  agrees a z d e x w f = subst Agrees (sym e) (sym f.0 ∙ x, sym f.1 ∙ w)

  module _ (e : plan_refusal p ≡ 0) (q : bad_roster (length b) s n ≡ false) where
    unrefused : refusal (turn_rules p l (length b)) ≡ 0
    unrefused = then_none p l (length b) e (roster_good l (length b) q)

    fit_agrees : (o : Option Lane) → Found n l o → (found_answer p b n o ≡ served_answer p b s n) × (found_bytes p b n o ≡ served_bytes p b s n)
        → Agrees (dispatch p l b)
    unfolding given found_answer found_bytes
    fit_agrees None f t = agrees idle b (unchanged idle l b) (dispatch_idle p l b unrefused (let z = chosen_none l f in omega (arith, z))) refl refl t
    fit_agrees (Some a) f t =
        let h = lt-ltb a.number n f.small in
        agrees _ _ (given p l b a.number) (dispatch-given p l b unrefused a.number (chosen_best l a.number a.wait f) f.small) (simp h) (simp h) t

  code_agrees : Agrees (dispatch p l b)
  code_agrees =
      bool_cases (eqb (plan_refusal p) 0) (λ x.
      let e = eqb-true (plan_refusal p) 0 x in
      bool_cases (bad_roster (length b) s n)
      (λ q. agrees (turned_away 23) b (unchanged (turned_away 23) l b)
      (dispatch-refused p l b 23 (then_23 p l (length b) e (roster_bad l (length b) q)) (λ z. omega (arith, z))) refl refl (turn_bad p b s n e q))
      (λ q. fit_agrees e q s.longest (found n l (fits (length b) s n q).counted).1 (turn_found p b s n e q)))
      (λ x.
      let f : plan_refusal p ≡ 0 → ⊥ = λ z. absurd_bool (eq-eqb (plan_refusal p) 0 z) x in
      agrees (turned_away (plan_refusal p)) b (unchanged (turned_away (plan_refusal p)) l b)
      (dispatch-refused p l b (plan_refusal p) (plan_first p l (length b) f) f) refl refl (turn_plan p b s n f))

-- ---- the waits

-- the roster after a turn, by what it answers
unfoldable pub moved : TurnAnswer → List Lane → List Lane
moved (turned_away n) l = l
moved idle l = l
moved (served i a) l = map (waited i) l

-- a turn of no lane leaves every record
moved_none : (l : List Lane) → map (moved_on None) l ≡ l
unfolding moved_on
moved_none [] = refl
moved_none (a ∷ l) = ap (λ (m : List Lane). a ∷ m) (moved_none l)

-- the records moved on after a turn
pub moved_by : (t : TurnAnswer) (l : List Lane) → map (moved_on (turned t)) l ≡ moved t l
unfolding moved turned
moved_by (turned_away n) l = moved_none l
moved_by idle l = moved_none l
moved_by (served i a) l = unfold moved_on in refl

roster_moved : (p : Plan) (l : List Lane) (b : List ℕ) → (dispatch p l b).roster ≡ moved (dispatch p l b).answer l
unfolding dispatch unless_turned_away given moved
roster_moved p l b = by_ways (refusal (turn_rules p l (length b))) (ltb (chosen l) (length l))
  where
    by_ways : (n : ℕ) (c : Bool) → (unless_turned_away n l b (cond c (given p l b (chosen l)) (unchanged idle l b))).roster ≡ moved (unless_turned_away n l b (cond c (given p l b (chosen l)) (unchanged idle l b))).answer l
    by_ways zero true = refl
    by_ways zero false = refl
    by_ways (suc n) c = refl

-- the whole call, from what its three parts say
pub dispatched : (p : Plan) (l : List Lane) (b : List ℕ) (m : Scan) (a : TurnAnswer) (zr : List Lane) (zi : List ℕ) → m ≡ scanned l
    → a ≡ served_answer p b m (length l) → zi ≡ served_bytes p b m (length l) → zr ≡ map (moved_on (turned a)) l
    → (packed_turn a ≡ packed_turn (dispatch p l b).answer) × (zr ≡ (dispatch p l b).roster) × (zi ≡ (dispatch p l b).images)
dispatched p l b m a zr zi e₀ e₁ e₂ e₃ =
    let d = code_agrees p l b in
    let e : a ≡ (dispatch p l b).answer = e₁ ∙ ap (λ (x : Scan). served_answer p b x (length l)) e₀ ∙ d.0 in (
      ap packed_turn e,
      e₃ ∙ moved_by a l ∙ ap (λ (x : TurnAnswer). moved x l) e ∙ sym (roster_moved p l b),
      e₂ ∙ ap (λ (x : Scan). served_bytes p b x (length l)) e₀ ∙ d.1,
    )
