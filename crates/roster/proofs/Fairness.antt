-- With n lanes, a lane that stays unheld gets one of any n turns that are not refused for the plan or under 23.
-- A lane is spent after a turns where it waited less than lane i and less than a turns: a lane that got a turn is spent from then on, and lane i never is. While
-- lane i gets none, each turn goes to a lane that is not spent, so after n turns n lanes would be. That lanes ahead of lane i grow fewer would not do: at 65535 one
-- behind it can draw level.
use mathlib.Core.Path.{◌≡◌, refl, sym, ap, ap₂, subst, ◌∙◌}
use Prim.Native.Nat.{ℕ, suc, ◌+◌, ◌≤◌, ◌<◌}
use native.Mathlib.Omega.{arith}
use mathlib.Core.Bool.{Bool, true, false, cond, ◌&&◌}
use mathlib.Core.List.{List, [], ◌∷◌, map}
use lib.Dec.{eqb, ltb}
use lib.ListN.{length}
use Rattle.semantics.specs.Bytes.{satisfying}
use Rattle.semantics.specs.Refusal.{refusal}
use Rattle.semantics.proofs.Basics.{bool_cases, and_both, both_and, neither, each, eqb-true, eq-eqb, ne_eqb, eqb-false, ltb-true, lt-ltb, ltb-false, le-ltb, every-at}
use Rattle.semantics.proofs.Counting.{count_le, no_more, fewer}
use Rattle.roster.specs.declared.record.Lane.{Lane}
use Rattle.roster.specs.Roster.{lane_at, free, wait_of, chosen, longer, waited}
use Rattle.roster.specs.Turn.{turn_rules, Dispatched, given}
use Rattle.roster.specs.Turns.{Lent, turn_of, unrefused, turns_taken, stays_free, names, served_in}
use Rattle.roster.proofs.Choice.{at_map, Best, chosen-free}
use Rattle.roster.proofs.Dispatch.{Manned, turn_manned, dispatch-given}

-- ---- how many lanes pass a test

abbrev count : ℕ → (ℕ → Bool) → ℕ
count n f = length (satisfying n f)

-- a test that one lane misses is passed by fewer than all
count_miss : (n : ℕ) (f : ℕ → Bool) (k : ℕ) → k < n → f k ≡ false → count n f < n
count_miss n f k l off =
    let a = fewer f (λ j. true) n (λ j m e. refl) k l off refl in
    let c = count_le n (λ j. true) in
    omega (arith, a, c)

-- ---- a wait one turn later

longer-cases : (w : ℕ) (P : ℕ → Type 0) → (w < 65535 → P (w + 1)) → (65535 ≤ w → P w) → P (longer w)
unfolding longer
longer-cases w P f g =
    bool_cases (ltb w 65535) (λ e. subst (λ (b : Bool). P (cond b (w + 1) w)) (sym e) (f (ltb-true w 65535 e)))
    (λ e. subst (λ (b : Bool). P (cond b (w + 1) w)) (sym e) (g (ltb-false w 65535 e)))

longer_small : (w : ℕ) → w < 65535 → longer w ≡ w + 1
longer_small w h = longer-cases w (λ x. x ≡ w + 1) (λ l. refl) (λ l. absurd (omega (arith, l)))

longer_more : (a w : ℕ) → a < w → a < 65534 → a + 1 < longer w
longer_more a w h g = longer-cases w (λ x. a + 1 < x) (λ l. omega arith) (λ l. omega (arith, l))

longer-some : (w : ℕ) → 0 < longer w
longer-some w = longer-cases w (λ x. 0 < x) (λ l. omega arith) (λ l. omega (arith, l))

-- ---- the waits after a turn of lane m

pub waited_wait : (l : List Lane) (m j : ℕ) → j < length l → (lane_at l j).number ≡ j → wait_of (map (waited m) l) j ≡ cond (eqb j m) 0 (longer (wait_of l j))
unfolding waited
waited_wait l m j g e = ap (λ (z : Lane). z.wait) (at_map (waited m) l j g) ∙ ap (λ (k : ℕ). cond (eqb k m) 0 (longer (wait_of l j))) e

-- ---- one turn

-- lane j is spent after a turns
spent : ℕ → (ℕ → ℕ) → ℕ → ℕ → Bool
spent i w a j = ltb (w j) (w i) && ltb (w j) a

-- a turn that is not refused and goes to another lane, lane i being free
module _ (x : Lent) (i : ℕ) (u : refusal (turn_rules x.plan x.roster (length x.images)) ≡ 0) (h : i < length x.roster)
    (f : free x.roster i ≡ true) where
  abbrev l : List Lane
  l = x.roster

  abbrev n : ℕ
  n = length l

  abbrev m : ℕ
  m = chosen l

  crew : Manned l (length x.images)
  crew = turn_manned x.plan l (length x.images) u

  best : Best n l m (wait_of l m)
  best = chosen-free l crew.counted i h f

  pub is_given : turn_of x ≡ given x.plan l x.images m
  is_given = dispatch-given x.plan l x.images u m refl best.small

  abbrev w' : ℕ → ℕ
  w' = wait_of (turn_of x).roster

  next : (j : ℕ) → j < n → w' j ≡ cond (eqb j m) 0 (longer (wait_of l j))
  unfolding given
  next j g =
      ap (λ (d : Dispatched). wait_of d.roster j) is_given
      ∙ waited_wait l m j g (eqb-true (lane_at l j).number j (every-at n (λ k. eqb (lane_at l k).number k) crew.numbers j g))

  module _ (other : m ≡ i → ⊥) (a : ℕ) (low : a < n) where
    waits_on : w' i ≡ longer (wait_of l i)
    waits_on = next i h ∙ ap (λ (c : Bool). cond c 0 (longer (wait_of l i))) (ne_eqb i m (λ e. other (sym e)))

    -- a lane that gets a turn is not spent before it, and is spent after it
    not_yet : spent i (wait_of l) a m ≡ false
    unfolding spent
    not_yet = ap (λ (z : Bool). z && ltb (wait_of l m) a) (le-ltb (wait_of l m) (wait_of l i) (best.at_most i h f))

    then_spent : spent i w' (suc a) m ≡ true
    unfolding spent
    then_spent =
        let z : w' m ≡ 0 = next m best.small ∙ ap (λ (c : Bool). cond c 0 (longer (wait_of l m))) (eq-eqb m m refl) in
        let s = longer-some (wait_of l i) in
        let c = waits_on in
        both_and (lt-ltb (w' m) (w' i) (omega (arith, z, s, c))) (lt-ltb (w' m) (suc a) (omega (arith, z)))

    -- and stays so
    stays : (j : ℕ) → j < n → spent i (wait_of l) a j ≡ true → spent i w' (suc a) j ≡ true
    unfolding spent
    stays j g e = bool_cases (eqb j m) (λ q. subst (λ (k : ℕ). spent i w' (suc a) k ≡ true) (sym (eqb-true j m q)) then_spent) (λ q.
        let d = and_both (ltb (wait_of l j) (wait_of l i)) (ltb (wait_of l j) a) e in
        let less = ltb-true (wait_of l j) (wait_of l i) d.0 in
        let young = ltb-true (wait_of l j) a d.1 in
        let few = crew.few in
        let z : w' j ≡ wait_of l j + 1 = next j g ∙ ap (λ (c : Bool). cond c 0 (longer (wait_of l j))) q
        ∙ longer_small (wait_of l j) (omega (arith, young, few, low)) in
        let s = longer_more (wait_of l j) (wait_of l i) less (omega (arith, young, few, low)) in
        let c = waits_on in
        both_and (lt-ltb (w' j) (w' i) (omega (arith, z, s, c))) (lt-ltb (w' j) (suc a) (omega (arith, z, young))))

    one_more_spent : count n (spent i (wait_of l) a) < count n (spent i w' (suc a))
    one_more_spent = fewer (spent i (wait_of l) a) (spent i w' (suc a)) n stays m best.small not_yet then_spent

-- ---- all turns

-- the lane that the answer names is the one that the turn is given to
names_other : (x : Lent) (i m : ℕ) → turn_of x ≡ given x.plan x.roster x.images m → names i (turn_of x).answer ≡ false → m ≡ i → ⊥
unfolding names given
names_other x i m e q = eqb-false m i (sym (ap (λ (d : Dispatched). names i d.answer) e) ∙ q)

-- lane i is never spent
unspent : (n i a : ℕ) (w : ℕ → ℕ) → i < n → count n (spent i w a) < n
unfolding spent
unspent n i a w h = count_miss n (spent i w a) i h (ap (λ (z : Bool). z && ltb (w i) a) (le-ltb (w i) (w i) (omega arith)))

-- what `stays_free` says of a turn that is not refused
record Kept (n i : ℕ) (w : ℕ → ℕ) (x : Lent) (xs : List Lent) : Type 0 where
  lanes : length x.roster ≡ n
  unheld : free x.roster i ≡ true
  waits : (j : ℕ) → j < n → w j ≡ wait_of x.roster j
  rest : stays_free n i (wait_of (turn_of x).roster) xs ≡ true

kept : (n i : ℕ) (w : ℕ → ℕ) (x : Lent) (xs : List Lent) → unrefused x ≡ true → stays_free n i w (x ∷ xs) ≡ true → Kept n i w x xs
unfolding stays_free
kept n i w x xs q s =
    let (e, (f, (v, (r, _)))) = each _ (rw q at s) in
    record {
      lanes = eqb-true (length x.roster) n e;
      unheld = f;
      waits = λ j g. sym (eqb-true (wait_of x.roster j) (w j) (every-at n (λ k. eqb (wait_of x.roster k) (w k)) v j g));
      rest = r;
    }

-- and of a refused one, which changes nothing
skipped : (n i : ℕ) (w : ℕ → ℕ) (x : Lent) (xs : List Lent) → unrefused x ≡ false → stays_free n i w (x ∷ xs) ≡ true → stays_free n i w xs ≡ true
unfolding stays_free
skipped n i w x xs q s = rw q at s

-- with other names for the waits the same lanes are spent
same_spent : (n i a : ℕ) (w v : ℕ → ℕ) → i < n → ((j : ℕ) → j < n → w j ≡ v j) → count n (spent i w a) ≤ count n (spent i v a)
unfolding spent
same_spent n i a w v h e =
    no_more (spent i w a) (spent i v a) n (λ j g q. sym (ap₂ (λ (x y : ℕ). ltb x y && ltb x a) (e j g) (e i h)) ∙ q)

-- a turn that is not refused and not lane i's spends one lane more
more_spent : (n i a : ℕ) (w : ℕ → ℕ) (x : Lent) (xs : List Lent) → i < n → unrefused x ≡ true → Kept n i w x xs → names i (turn_of x).answer ≡ false
    → a ≤ count n (spent i w a)
    → suc a ≤ count n (spent i (wait_of (turn_of x).roster) (suc a))
unfolding unrefused
more_spent n i a w x xs h q k v c =
    let e = k.lanes in
    let u = eqb-true (refusal (turn_rules x.plan x.roster (length x.images))) 0 q in
    let g : i < length x.roster = omega (arith, e) in
    let s = same_spent n i a w (wait_of x.roster) h k.waits in
    let low = unspent n i a w h in
    let m = one_more_spent x i u g k.unheld (names_other x i (chosen x.roster) (is_given x i u g k.unheld) v) a (omega (arith, e, low, c)) in
    let o = subst (λ (z : ℕ). count z (spent i (wait_of x.roster) a) < count z (spent i (wait_of (turn_of x).roster) (suc a))) e m in
    omega (arith, c, s, o)

-- while lane i gets no turn, fewer than n turns are taken
starved : (n i : ℕ) → i < n → (xs : List Lent) (w : ℕ → ℕ) (a : ℕ) → stays_free n i w xs ≡ true → served_in i xs ≡ false → a ≤ count n (spent i w a)
    → a + turns_taken xs < n
unfolding served_in turns_taken
starved n i h [] w a s v c = let k = unspent n i a w h in omega (arith, k, c)
starved n i h (x ∷ xs) w a s v c =
    let d = neither (names i (turn_of x).answer) (served_in i xs) v in
    bool_cases (unrefused x)
    (λ q.
    let k = kept n i w x xs q s in
    let t = starved n i h xs (wait_of (turn_of x).roster) (suc a) k.rest d.1 (more_spent n i a w x xs h q k d.0 c) in
    let z = ap (λ (b : Bool). cond b (suc (turns_taken xs)) (turns_taken xs)) q in
    omega (arith, t, z))
    (λ q.
    let t = starved n i h xs w a (skipped n i w x xs q s) d.1 c in
    let z = ap (λ (b : Bool). cond b (suc (turns_taken xs)) (turns_taken xs)) q in
    omega (arith, t, z))

-- "With n lanes, a lane that stays unheld is served .. within n turns": among any n turns that are not refused, one is lane i's.
pub served_within : (n i : ℕ) (w : ℕ → ℕ) (xs : List Lent) → i < n → stays_free n i w xs ≡ true → n ≤ turns_taken xs → served_in i xs ≡ true
served_within n i w xs h s t =
    bool_cases (served_in i xs) (λ e. e) (λ e. let k = starved n i h xs w 0 s e (omega arith) in absurd (omega (arith, k)))
