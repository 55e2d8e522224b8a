-- Moves tried from the top: each is one that a try would cancel, the marks of those before it set. Every set of enabled bad moves that holds what lies above its
-- moves can be tried so (002, remark 6: what is tried and disabled, one by one).
use mathlib.Core.Path.{◌≡◌, refl, sym, ap, ap₂, ◌∙◌}
use mathlib.Core.Logic.{◌⊎◌, inl, inr}
use Prim.Native.Nat.{ℕ, zero, suc, ◌≤◌, ◌<◌}
use native.Mathlib.Nat.{le_refl, le_trans}
use native.Mathlib.Omega.{arith}
use mathlib.Core.Bool.{Bool, true, false, ◌&&◌, ◌||◌, or_assoc, or-false}
use mathlib.Core.List.{List, [], ◌∷◌, ◌++◌}
use lib.ListN.{length, take}
use lib.Seq.{take-append_seam}
use lib.Dec.{ltb, eqb}
use Rattle.semantics.specs.Bytes.{all_of, satisfying}
use Rattle.semantics.specs.Plan.{Plan, interactions, below}
use Rattle.semantics.specs.Code.{State}
use Rattle.semantics.specs.Move.{Configuration, enabled, eligible, after, good}
use Rattle.semantics.specs.Run.{enabled_above, level, levels, from_top}
use Rattle.semantics.proofs.Basics.{bool_cases, absurd_bool, same_test, and_both, both_and, or_cases, or_left, or_right, each, all_of_lem, ltb-true, lt-ltb, le-ltb, eqb-true, eq-eqb, below_suc}
use Rattle.semantics.proofs.Counting.{among, among_append, among_satisfying, count_le, fewer}
use Rattle.semantics.proofs.Maximal.{fewer_above}
use Rattle.semantics.proofs.RankOrder.{Order}
use Rattle.semantics.proofs.Ranking.{eligible-from, eligible_more, unoutranked}

-- one mark more
abbrev pub with_mark : (ℕ → Bool) → ℕ → ℕ → Bool
with_mark marked i j = marked j || eqb j i

-- the marks and all moves of the list
unfoldable pub with_marked : (ℕ → Bool) → List ℕ → ℕ → Bool
with_marked marked [] = marked
with_marked marked (i ∷ is) = with_marked (with_mark marked i) is

pub marked_among : (marked : ℕ → Bool) (is : List ℕ) (j : ℕ) → with_marked marked is j ≡ (marked j || among j is)
unfolding with_marked
marked_among marked [] j = sym (or-false (marked j))
marked_among marked (i ∷ is) j =
    marked_among (with_mark marked i) is j
    ∙ or_assoc (marked j) (eqb j i) (among j is)
    ∙ ap (λ (b : Bool). marked j || (b || among j is)) (same_test (eqb j i) (eqb i j) (λ e. eq-eqb i j (sym (eqb-true j i e))) (λ e. eq-eqb j i (sym (eqb-true i j e))))

module _ (p : Plan) (c : Configuration) where
  -- a try of i is cancelled: it is one of the plan's, eligible and not marked, and ends bad
  pub record Cancels (marked : ℕ → Bool) (i : ℕ) : Type 0 where
    pub number< : i < interactions p
    pub is_eligible : eligible p c.state marked i ≡ true
    pub unmarked : marked i ≡ false
    pub ends_bad : good p (after p c i) ≡ false

  -- each move of the list in turn, the marks of those before it set
  pub data Clears : (ℕ → Bool) → List ℕ → Type 0 where
    cleared : {marked : ℕ → Bool} → Clears marked []
    clears : {marked : ℕ → Bool} {i : ℕ} {is : List ℕ} → Cancels marked i → Clears (with_mark marked i) is → Clears marked (i ∷ is)

  clears_append : (marked : ℕ → Bool) (is js : List ℕ) → Clears marked is → Clears (with_marked marked is) js → Clears marked (is ++ js)
  unfolding with_marked
  clears_append marked [] js cleared b = b
  clears_append marked (i ∷ is) js (clears a r) b = clears a (clears_append (with_mark marked i) is js r b)

  -- moves of which none lies above another, from the lowest number on
  clears_beside : (marked g : ℕ → Bool) (n : ℕ) → ((j : ℕ) → j < n → g j ≡ true → Cancels marked j) → Clears marked (satisfying n g)
  unfolding satisfying
  clears_beside marked g zero h = cleared
  clears_beside marked g (suc n) h =
      let before : Clears marked (satisfying n g) = clears_beside marked g n (λ j l. h j (omega arith)) in
      bool_cases (g n)
      (λ y. rw y (clears_append marked (satisfying n g) (n ∷ []) before (clears (last y) cleared)))
      (λ y. rw y (clears_append marked (satisfying n g) [] before cleared))
    where
      last : g n ≡ true → Cancels (with_marked marked (satisfying n g)) n
      last y =
          let a : Cancels marked n = h n (omega arith) y in
          record {
            number< = a.number<;
            is_eligible = eligible_more p c.state marked (with_marked marked (satisfying n g)) n
                (λ j l m. marked_among marked (satisfying n g) j ∙ or_left (marked j) (among j (satisfying n g)) m) a.is_eligible;
            unmarked = marked_among marked (satisfying n g) n ∙ rw (a.unmarked, among_satisfying n g n, le-ltb n n (le_refl n)) refl;
            ends_bad = a.ends_bad;
          }

-- A set of moves that can be tried from the top under the marks: its enabled moves end bad and are unmarked, and what is enabled above one of them is marked or
-- of the set.
pub record Closed (p : Plan) (c : Configuration) (marked f : ℕ → Bool) : Type 0 where
  pub bad : (j : ℕ) → j < interactions p → f j ≡ true → enabled p c.state j ≡ true → good p (after p c j) ≡ false
  pub unmarked : (j : ℕ) → j < interactions p → f j ≡ true → enabled p c.state j ≡ true → marked j ≡ false
  pub upwards : (i j : ℕ) → i < interactions p → j < interactions p → f i ≡ true → enabled p c.state i ≡ true → below p i j ≡ true → enabled p c.state j ≡ true
      → (marked j ≡ true) ⊎ (f j ≡ true)

-- from the top: those with fewer enabled ones above them come first
pub fewer_first : (p : Plan) (s : State) (f : ℕ → Bool) (n : ℕ) → take (length (levels p s f n)) (levels p s f (suc n)) ≡ levels p s f n
unfolding levels
fewer_first p s f n = take-append_seam (levels p s f n) (level p s f n)

module _ (p : Plan) (o : Order p) (c : Configuration) (marked f : ℕ → Bool) (h : Closed p c marked f) where
  -- those of the set with fewer than n enabled ones above them
  abbrev under : ℕ → ℕ → Bool
  under n j = all_of (ltb j (interactions p) ∷ f j ∷ enabled p c.state j ∷ ltb (enabled_above p c.state j) n ∷ [])

  among_levels : (n j : ℕ) → among j (levels p c.state f n) ≡ under n j
  unfolding levels level
  among_levels zero j =
      bool_cases (under 0 j) (λ u. let (_, (_, (_, (q, _)))) = each _ u in absurd_bool q (le-ltb (enabled_above p c.state j) 0 (omega arith))) (λ u. sym u)
  among_levels (suc n) j =
      among_append j (levels p c.state f n) (satisfying (interactions p) own)
      ∙ ap₂ ◌||◌ (among_levels n j) (among_satisfying (interactions p) own j)
      ∙ same_test (under n j || (ltb j (interactions p) && own j)) (under (suc n) j) there back
    where
      own : ℕ → Bool
      own k = all_of (f k ∷ enabled p c.state k ∷ eqb (enabled_above p c.state k) n ∷ [])

      there : (under n j || (ltb j (interactions p) && own j)) ≡ true → under (suc n) j ≡ true
      there t =
          or_cases (under n j) (ltb j (interactions p) && own j) t
          (λ u.
          let (l, (y, (on, (q, _)))) = each _ u in
          let less : enabled_above p c.state j < n = ltb-true _ _ q in
          all_of_lem _ (l, (y, (on, (lt-ltb (enabled_above p c.state j) (suc n) (omega arith), tt)))))
          (λ u.
          let (l, w) = and_both (ltb j (interactions p)) (own j) u in
          let (y, (on, (q, _))) = each _ w in
          let same : enabled_above p c.state j ≡ n = eqb-true _ _ q in
          all_of_lem _ (l, (y, (on, (lt-ltb (enabled_above p c.state j) (suc n) (omega arith), tt)))))

      back : under (suc n) j ≡ true → (under n j || (ltb j (interactions p) && own j)) ≡ true
      back t =
          let (l, (y, (on, (q, _)))) = each _ t in
          below_suc {k = enabled_above p c.state j} (ltb-true _ _ q) (λ m. or_left (under n j) (ltb j (interactions p) && own j) (all_of_lem _ (l, (y, (on, (lt-ltb _ _ m, tt))))))
          (λ m. or_right (under n j) (ltb j (interactions p) && own j) (both_and l (all_of_lem _ (y, (on, (eq-eqb _ _ m, tt))))))

  -- a move of a level, the levels before it marked
  level_cancels : (n j : ℕ) → j < interactions p → all_of (f j ∷ enabled p c.state j ∷ eqb (enabled_above p c.state j) n ∷ []) ≡ true
      → Cancels p c (with_marked marked (levels p c.state f n)) j
  unfolding enabled_above
  level_cancels n j l t =
      let (y, (on, (q, _))) = each _ t in
      let same : enabled_above p c.state j ≡ n = eqb-true _ _ q in
      let set : (k : ℕ) → with_marked marked (levels p c.state f n) k ≡ (marked k || under n k)
      = λ k. marked_among marked (levels p c.state f n) k ∙ ap (λ (b : Bool). marked k || b) (among_levels n k) in
      record {
        number< = l;
        is_eligible = eligible-from p c.state _ j on
            (unoutranked p c.state _ j
            (λ k m b e.
            set k ∙ elim (h.upwards j k l m y on b e) [
              | inl u ↦ or_left (marked k) (under n k) u
              | inr u ↦ or_right (marked k) (under n k)
                  (all_of_lem _ (lt-ltb _ _ m, (u, (e, (lt-ltb _ _ (rw same at (fewer_above p o (enabled p c.state) j k l m b e)), tt)))))
            ]));
        unmarked = set j ∙ rw (h.unmarked j l y on) (own same);
        ends_bad = h.bad j l y on;
      }
    where
      own : enabled_above p c.state j ≡ n → under n j ≡ false
      own e = bool_cases (under n j) (λ u. let (_, (_, (_, (q, _)))) = each _ u in absurd (not_less (ltb-true _ _ q) e)) (λ u. u)
        where
          not_less : {a b : ℕ} → a < b → a ≡ b → ⊥
          not_less x z = omega arith

  levels_clear : (n : ℕ) → Clears p c marked (levels p c.state f n)
  unfolding levels level
  levels_clear zero = cleared
  levels_clear (suc n) =
      clears_append p c marked (levels p c.state f n) (satisfying (interactions p) _) (levels_clear n)
      (clears_beside p c (with_marked marked (levels p c.state f n)) _ (interactions p) (level_cancels n))

  -- they can be tried from the top
  pub clears_from_top : Clears p c marked (from_top p c.state f)
  clears_from_top = levels_clear (interactions p)

  -- and are marked then, with those that were, and no other
  pub marked_from_top : (j : ℕ) → j < interactions p → with_marked marked (from_top p c.state f) j ≡ (marked j || (f j && enabled p c.state j))
  unfolding enabled_above
  marked_from_top j l =
      marked_among marked (from_top p c.state f) j
      ∙ ap (λ (b : Bool). marked j || b)
      (among_levels (interactions p) j
      ∙ same_test (under (interactions p) j) (f j && enabled p c.state j) (λ t. let (_, (y, (on, _))) = each _ t in both_and y on)
      (λ t. let (y, on) = and_both (f j) (enabled p c.state j) t in all_of_lem _ (lt-ltb _ _ l, (y, (on, (lt-ltb _ _ short, tt))))))
    where
      -- it does not lie above itself
      short : enabled_above p c.state j < interactions p
      short =
          le_trans (fewer (λ k. below p j k && enabled p c.state k) (λ k. true) (interactions p) (λ k m e. refl) j l (rw (o.irreflexive j l) refl) refl)
          (count_le (interactions p) (λ k. true))
