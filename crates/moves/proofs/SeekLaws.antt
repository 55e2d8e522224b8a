-- The search for the move that settling commits: what is known of what is still sought, and that each judged move keeps it and leaves less.
use mathlib.Core.Path.{◌≡◌, refl, sym, ap, ◌∙◌, subst}
use mathlib.Core.Logic.{◌⊎◌, inl, inr, ⊎_elim}
use Prim.Native.Nat.{ℕ, ◌+◌, ◌^◌, ◌≤◌, ◌<◌}
use native.Mathlib.Nat.{le_refl, le_trans, le_of_lt, lt_of_le_of_lt}
use native.Mathlib.Omega.{arith, min_cases}
use mathlib.Core.Bool.{Bool, true, false, not, ◌&&◌, and-true, and-false}
use lib.Dec.{ltb, eqb}
use Rattle.std.specs.Prelude.{Option, Some, None, unwrap_or, min}
use Rattle.std.specs.Option.{option_eq}
use Rattle.semantics.specs.Bytes.{bit, with_bit}
use Rattle.semantics.specs.Plan.{Plan, interactions, below}
use Rattle.semantics.specs.Rules.{plan_refusal}
use Rattle.semantics.specs.Move.{Configuration, enabled, after, good, may_commit, safe_move}
use Rattle.semantics.proofs.Basics.{bool_cases, absurd_bool, not_yes, and_both, both_and, each, all_of_lem, ltb-true, ltb-false, lt-ltb, eqb-true, eqb_same, ne_eqb, some-none}
use Rattle.semantics.proofs.Masks.{bit-zero, bit_mask, bit_mask_over}
use Rattle.semantics.proofs.Ranking.{commit_enabled, commit_good, commit_from, bad_uncommitted, dominated_uncommitted, safe_unique}
use Rattle.semantics.proofs.RankOrder.{rank_order}
use Rattle.words.proofs.SubsetLaws.{bits_lt}
use Rattle.ranks.specs.Standing.{stands}
use Rattle.ranks.proofs.StandingLaws.{stands_in}
use Rattle.words.proofs.Gather.{held_inside}
use Rattle.moves.specs.declared.search.Sought.{Sought}
use Rattle.moves.specs.Seeking.{best_with, AfterGood, AfterBad}

-- ---- masks

-- the mask of one number
pub one_bit : (n j : ℕ) → n < 64 → bit (with_bit 0 n) j ≡ eqb j n
unfolding with_bit
one_bit n j h =
    bool_cases (ltb j 64)
    (λ e. bit_mask 64 _ j (ltb-true j 64 e) ∙ rw (bit-zero j) refl)
    (λ e. bit_mask_over 64 _ j (ltb-false j 64 e) ∙ sym (ne_eqb j n (other (ltb-false j 64 e))))
  where
    other : 64 ≤ j → j ≡ n → ⊥
    other l q = omega arith

-- what lies above a number that stands is not in the mask
stands_above : (p : Plan) (m i : ℕ) → stands p m i ≡ true → (j : ℕ) → j < interactions p → below p i j ≡ true → bit m j ≡ false
unfolding stands
stands_above p m i e j l b =
    let (_, (f, _)) = each _ e in
    let none = some-none (interactions p) (λ k. below p i k && bit m k) (not_yes _ f) j l in
    bool_cases (bit m j) (λ t. absurd_bool (both_and b t) none) (λ t. t)

-- ---- what one judged move changes

module _ (p : Plan) (s r : Sought) (n : ℕ) (a : AfterGood p s n r) where
  -- after a good one: what is left was left, is lower and does not lie below it
  good-kept : (j : ℕ) → bit r.left j ≡ true → bit s.left j ≡ true
  good-kept j e = (each _ (sym (a.left_bits j) ∙ e)).0

  good_lower : (j : ℕ) → bit r.left j ≡ true → j < n
  good_lower j e = ltb-true j n (each _ (sym (a.left_bits j) ∙ e)).1.0

  good_beside : (j : ℕ) → bit r.left j ≡ true → below p j n ≡ false
  good_beside j e = not_yes _ (each _ (sym (a.left_bits j) ∙ e)).1.1.0

  -- so what was left, is lower and is not left any more lies below it
  good_dropped : (j : ℕ) → bit s.left j ≡ true → j < n → bit r.left j ≡ false → below p j n ≡ true
  good_dropped j t l e =
      bool_cases (below p j n) (λ b. b)
      (λ b. absurd_bool (a.left_bits j ∙ all_of_lem _ (t, (lt-ltb j n l, (ap not b, tt)))) e)

  -- it leaves less, where it is a number that is left or lies above one
  good_less : (i : ℕ) → s.left < 2 ^ 64 → bit s.left i ≡ true → (n ≡ i) ⊎ (below p i n ≡ true) → r.open + r.left < s.open + s.left
  good_less i w t reached = let d : r.left < s.left = bits_lt 64 r.left s.left i (lt_of_le_of_lt a.left≤ w) good-kept gone t in omega (arith, a.open_same)
    where
      not_lower : n ≡ i → i < n → ⊥
      not_lower e l = omega arith

      gone : bit r.left i ≡ false
      gone =
          bool_cases (bit r.left i)
          (λ e. ⊎_elim (λ q. absurd (not_lower q (good_lower i e))) (λ b. absurd_bool b (good_beside i e)) reached) (λ e. e)

-- a mask without the number n
module _ (m k n : ℕ) (cut : (j : ℕ) → bit k j ≡ (bit m j && not (eqb j n))) where
  cut_kept : (j : ℕ) → bit k j ≡ true → bit m j ≡ true
  cut_kept j e = (and_both (bit m j) (not (eqb j n)) (sym (cut j) ∙ e)).0

  cut_other : (j : ℕ) → eqb j n ≡ false → bit k j ≡ bit m j
  cut_other j e = cut j ∙ rw e (and-true (bit m j))

  cut_gone : bit k n ≡ false
  cut_gone = cut n ∙ rw (eqb_same n) (and-false (bit m n))

-- after a bad one there is less open
bad_less : (s r : Sought) (steps n : ℕ) → AfterBad s steps n r → s.open < 2 ^ 64 → bit s.open n ≡ true → r.open + r.left < s.open + s.left
bad_less s r steps n a w t =
    let d : r.open < s.open = bits_lt 64 r.open s.open n (lt_of_le_of_lt a.open≤ w) (cut_kept s.open r.open n a.open_bits) (cut_gone s.open r.open n a.open_bits) t in
    omega (arith, a.left≤)

-- ---- the steps of a climb

-- An open move that is left or lies above one that is.
abbrev pub LeftOrAbove : Plan → ℕ → ℕ → ℕ → Type 0
LeftOrAbove p «open» left n = (bit «open» n ≡ true) × ((i : ℕ) × (bit left i ≡ true) × ((n ≡ i) ⊎ (below p i n ≡ true)))

-- Each step that is to be judged is such a move.
abbrev pub OnPath : Plan → ℕ → ℕ → ℕ → Type 0
OnPath p «open» left path = (j : ℕ) → bit path j ≡ true → LeftOrAbove p «open» left j

pub path_empty : (p : Plan) («open» left path : ℕ) → path ≡ 0 → OnPath p «open» left path
path_empty p «open» left path e j t = absurd (absurd_bool t (ap (λ (x : ℕ). bit x j) e ∙ bit-zero j))

-- what a climb from such a move comes to is such a move too
pub reached_up : (p : Plan) → plan_refusal p ≡ 0 → («open» left : ℕ) → «open» < 2 ^ interactions p → ((j : ℕ) → bit left j ≡ true → bit «open» j ≡ true)
    → (i n : ℕ) → LeftOrAbove p «open» left i → bit «open» n ≡ true → (n ≡ i) ⊎ (below p i n ≡ true) → LeftOrAbove p «open» left n
reached_up p h «open» left l sub i n (o, (k, t, r)) w up = (
  w,
  (
    k,
    t,
    ⊎_elim (λ e. ⊎_elim (λ q. inl (e ∙ q)) (λ q. inr (subst (λ (x : ℕ). below p k x ≡ true) (sym e) q)) r)
        (λ b. inr (⊎_elim (λ q. subst (λ (x : ℕ). below p x n ≡ true) q b) (λ q. (rank_order p h).transitive k i n (inside k (sub k t)) (inside i o) (inside n w) q b) r)) up,
  ),
)
  where
    inside : (j : ℕ) → bit «open» j ≡ true → j < interactions p
    inside j = held_inside (interactions p) «open» j l

-- after a bad move n above which nothing open lies: a step that is still to be judged is open, and is or lies above a move that is left and is not n
pub path_bad : (p : Plan) (s r : Sought) (steps n : ℕ) → s.open < 2 ^ interactions p → stands p s.open n ≡ true → OnPath p s.open s.left steps
    → AfterBad s steps n r → OnPath p r.open r.left r.path
path_bad p s r steps n l top on a j t = (a.open_bits j ∙ both_and o z, (was.1.0, a.left_bits was.1.0 ∙ both_and was.1.1 (other was.1.2), was.1.2))
  where
    z : not (eqb j n) ≡ true
    z = (and_both (bit steps j) (not (eqb j n)) (sym (a.path_bits j) ∙ t)).1

    was : LeftOrAbove p s.open s.left j
    was = on j (and_both (bit steps j) (not (eqb j n)) (sym (a.path_bits j) ∙ t)).0

    o : bit s.open j ≡ true
    o = was.0

    other : {i : ℕ} → (j ≡ i) ⊎ (below p i j ≡ true) → not (eqb i n) ≡ true
    other (inl e) = subst (λ (x : ℕ). not (eqb x n) ≡ true) e z
    other {i} (inr q) =
        ap not (ne_eqb i n (λ e. absurd (absurd_bool o (stands_above p s.open n top j (held_inside (interactions p) s.open j l o) (subst (λ (x : ℕ). below p x j ≡ true) e q)))))

-- ---- the best

-- the lower of n and the best so far is one of them, and no higher than either
best_cases : (o : Option ℕ) (n : ℕ) → (best_with o n ≡ n) ⊎ (o ≡ Some (best_with o n))
best_cases None n = inl refl
best_cases (Some b) n = min_cases b n ((min b n ≡ n) ⊎ (Some b ≡ Some (min b n))) (λ _ e. inr (ap Some (sym e))) (λ _ e. inl e)

best_low : (o : Option ℕ) (n m : ℕ) → n < m → (best_with o n ≤ n) × (best_with o n ≤ unwrap_or o m)
best_low None n m l = (le_refl n, le_of_lt l)
best_low (Some b) n m l = (omega arith, omega arith)

-- the test that it is n
pub best_is : (o : Option ℕ) (n : ℕ) → option_eq eqb o (Some n) ≡ true → o ≡ Some n
best_is None n e = absurd_bool e refl
best_is (Some b) n e = ap Some (eqb-true b n e)

-- ---- what the search knows

-- Of the moves, those that are not open end bad; the best is allowed, and each lower move that is not left is not.
pub record Seeks (p : Plan) (c : Configuration) (moves : ℕ) (s : Sought) : Type 0 where
  pub open≤ : s.open ≤ moves
  pub left≤ : s.left ≤ moves
  pub open_in : (j : ℕ) → bit s.open j ≡ true → bit moves j ≡ true
  pub left_open : (j : ℕ) → bit s.left j ≡ true → bit s.open j ≡ true
  pub shut_bad : (j : ℕ) → bit moves j ≡ true → bit s.open j ≡ false → good p (after p c j) ≡ false
  pub best_allowed : (b : ℕ) → s.best ≡ Some b → (b < interactions p) × (may_commit p c b ≡ true)
  pub passed : (j : ℕ) → j < unwrap_or s.best (interactions p) → bit s.left j ≡ false → may_commit p c j ≡ false

-- when nothing is left
module _ (p : Plan) (c : Configuration) (moves : ℕ) (s : Sought) (k : Seeks p c moves s) (z : s.left ≡ 0) where
  -- each lower move than the best is not allowed
  lower_shut : (o : Option ℕ) → s.best ≡ o → (j : ℕ) → j < unwrap_or o (interactions p) → may_commit p c j ≡ false
  lower_shut o e j l =
      k.passed j (subst (λ (x : Option ℕ). j < unwrap_or x (interactions p)) (sym e) l) (ap (λ (x : ℕ). bit x j) z ∙ bit-zero j)

  -- the best is the safe move
  pub seeks_found : (b : ℕ) → s.best ≡ Some b → (b ≡ safe_move p c) × (b < interactions p)
  seeks_found b e = let (l, m) = k.best_allowed b e in (safe_unique p c b (le_of_lt l) (λ _. m) (lower_shut (Some b) e), l)

  -- and with none, no move is safe
  pub seeks_none : s.best ≡ None → safe_move p c ≡ interactions p
  seeks_none e = sym (safe_unique p c (interactions p) (le_refl (interactions p)) (λ l. absurd (omega arith)) (lower_shut None e))

-- The moves are enabled interactions, and each other enabled interaction ends bad.
module _ (p : Plan) (c : Configuration) (moves : ℕ) (inside : moves < 2 ^ interactions p) (on : (j : ℕ) → bit moves j ≡ true → enabled p c.state j ≡ true)
    (out : (j : ℕ) → j < interactions p → enabled p c.state j ≡ true → bit moves j ≡ false → good p (after p c j) ≡ false) where
  -- at the start every move is open and left, and none is known to be allowed
  pub seeks_start : Seeks p c moves (record { «open» = moves; left = moves; path = 0; best = None })
  seeks_start =
      record {
        open≤ = le_refl moves;
        left≤ = le_refl moves;
        open_in = λ j t. t;
        left_open = λ j t. t;
        shut_bad = λ j t f. absurd_bool t f;
        best_allowed = λ b e. cc;
        passed = λ j l f. bool_cases (may_commit p c j) (λ m. absurd_bool (commit_good p c j m) (out j l (commit_enabled p c j m) f)) (λ m. m);
      }

  module _ (s r : Sought) (steps n : ℕ) (k : Seeks p c moves s) (top : stands p s.open n ≡ true) where
    -- a move above which nothing open lies is one of the moves
    pub top-held : bit moves n ≡ true
    top-held = k.open_in n (stands_in p s.open n top)

    pub top_inside : n < interactions p
    top_inside = held_inside (interactions p) moves n inside top-held

    -- and is allowed where it ends good
    top-allowed : good p (after p c n) ≡ true → may_commit p c n ≡ true
    top-allowed g =
        commit_from p c n (on n top-held) g
        (λ j l b e. bool_cases (bit moves j) (λ m. k.shut_bad j m (stands_above p s.open n top j l b)) (out j l e))

    -- it ends good
    seeks_good : good p (after p c n) ≡ true → AfterGood p s n r → Seeks p c moves r
    seeks_good g a =
        record {
          open≤ = subst (λ (x : ℕ). x ≤ moves) (sym a.open_same) k.open≤;
          left≤ = le_trans a.left≤ k.left≤;
          open_in = λ j t. k.open_in j (sym (same j) ∙ t);
          left_open = λ j t. same j ∙ k.left_open j (good-kept p s r n a j t);
          shut_bad = λ j t f. k.shut_bad j t (sym (same j) ∙ f);
          best_allowed = allowed;
          passed = λ j l f. bool_cases (bit s.left j) (λ t. dominated_uncommitted p c j n top_inside (good_dropped p s r n a j t (low l) f) (top-allowed g)) (k.passed j (under l));
        }
      where
        same : (j : ℕ) → bit r.open j ≡ bit s.open j
        same j = ap (λ (x : ℕ). bit x j) a.open_same

        within : {j : ℕ} → j < unwrap_or r.best (interactions p) → j < best_with s.best n
        within {j} l = subst (λ (x : Option ℕ). j < unwrap_or x (interactions p)) a.best_lower l

        low : {j : ℕ} → j < unwrap_or r.best (interactions p) → j < n
        low l = le_trans (within l) (best_low s.best n (interactions p) top_inside).0

        under : {j : ℕ} → j < unwrap_or r.best (interactions p) → j < unwrap_or s.best (interactions p)
        under l = le_trans (within l) (best_low s.best n (interactions p) top_inside).1

        allowed : (b : ℕ) → r.best ≡ Some b → (b < interactions p) × (may_commit p c b ≡ true)
        allowed b e =
            let q : best_with s.best n ≡ b = cc a.best_lower in
            ⊎_elim (λ (h : best_with s.best n ≡ n). subst (λ (x : ℕ). (x < interactions p) × (may_commit p c x ≡ true)) (sym h ∙ q) (top_inside, top-allowed g))
            (λ h. k.best_allowed b (h ∙ ap Some q)) (best_cases s.best n)

    -- it ends bad
    seeks_bad : good p (after p c n) ≡ false → AfterBad s steps n r → Seeks p c moves r
    seeks_bad g a =
        record {
          open≤ = le_trans a.open≤ k.open≤;
          left≤ = le_trans a.left≤ k.left≤;
          open_in = λ j t. k.open_in j (cut_kept s.open r.open n a.open_bits j t);
          left_open = still;
          shut_bad = λ j t f. bool_cases (eqb j n) (bad j) (λ o. k.shut_bad j t (sym (cut_other s.open r.open n a.open_bits j o) ∙ f));
          best_allowed = λ b e. k.best_allowed b (sym a.best_same ∙ e);
          passed =
              λ j l f.
              bool_cases (eqb j n) (λ e. bad_uncommitted p c j (bad j e))
              (λ o. k.passed j (subst (λ (x : Option ℕ). j < unwrap_or x (interactions p)) a.best_same l) (sym (cut_other s.left r.left n a.left_bits j o) ∙ f));
        }
      where
        bad : (j : ℕ) → eqb j n ≡ true → good p (after p c j) ≡ false
        bad j e = ap (λ (x : ℕ). good p (after p c x)) (eqb-true j n e) ∙ g

        still : (j : ℕ) → bit r.left j ≡ true → bit r.open j ≡ true
        still j t =
            let (l, o) = and_both (bit s.left j) (not (eqb j n)) (sym (a.left_bits j) ∙ t) in
            a.open_bits j ∙ both_and (k.left_open j l) o

    -- one or the other
    pub seeks_next : (g : Bool) → g ≡ good p (after p c n) → (g ≡ true → AfterGood p s n r) → (g ≡ false → AfterBad s steps n r) → Seeks p c moves r
    seeks_next g e won lost = bool_cases g (λ t. seeks_good (sym e ∙ t) (won t)) (λ f. seeks_bad (sym e ∙ f) (lost f))

    -- and less is open or left, where n is a number that is left or lies above one
    pub seeks_less : moves < 2 ^ 64 → (i : ℕ) → bit s.left i ≡ true → (n ≡ i) ⊎ (below p i n ≡ true)
        → (g : Bool) → (g ≡ true → AfterGood p s n r) → (g ≡ false → AfterBad s steps n r) → r.open + r.left < s.open + s.left
    seeks_less w i t reached g won lost =
        bool_cases g (λ y. good_less p s r n (won y) i (lt_of_le_of_lt k.left≤ w) t reached)
        (λ f. bad_less s r steps n (lost f) (lt_of_le_of_lt k.open≤ w) (stands_in p s.open n top))
