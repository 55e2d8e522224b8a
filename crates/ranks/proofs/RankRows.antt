-- The rows keep the rule one by one exactly where every interaction keeps rule 8.
use mathlib.Core.Path.{◌≡◌, sym, ap, ap₂, ◌∙◌}
use Prim.Native.Nat.{ℕ, ◌≤◌, ◌<◌}
use native.Mathlib.Nat.{le_trans}
use mathlib.Core.Bool.{Bool, true, false, not, ◌&&◌, and-true}
use lib.Dec.{ltb}
use Rattle.semantics.specs.Bytes.{all_of, implies, every, bit}
use Rattle.semantics.specs.Plan.{Plan, max_interactions, interactions, rank_row, below}
use Rattle.semantics.specs.Rules.{rank_ok}
use Rattle.semantics.proofs.Basics.{same_test, and_both, both_and, implies-yes, implies-at, each, all_of_lem, every-at, every_all, ltb-true}
use Rattle.ranks.specs.RankRow.{bounded, covers, closed, row_ok}

-- a bounded row names interactions
pub bounded_at : (p : Plan) (row : ℕ) → bounded p row ≡ true → (j : ℕ) → j < max_interactions → bit row j ≡ true → j < interactions p
unfolding bounded
bounded_at p row e j l b =
    ltb-true j (interactions p) (implies-at (bit row j) (ltb j (interactions p)) (every-at max_interactions (λ k. implies (bit row k) (ltb k (interactions p))) e j l) b)

closed_at : (p : Plan) (row : ℕ) → closed p row ≡ true → (j k : ℕ) → j < max_interactions → k < max_interactions → bit row j ≡ true → bit (rank_row p j) k ≡ true → bit row k ≡ true
unfolding closed covers
closed_at p row e j k l m b d =
    implies-at (bit (rank_row p j) k) (bit row k)
    (every-at max_interactions (λ x. implies (bit (rank_row p j) x) (bit row x))
    (implies-at (bit row j) (covers p row j) (every-at max_interactions (λ y. implies (bit row y) (covers p row y)) e j l) b) k m)
    d

rank_bounded : (p : Plan) (i : ℕ) → rank_ok p i ≡ true → bounded p (rank_row p i) ≡ true
unfolding rank_ok bounded below
rank_bounded p i e = (each _ e).0

rank_transitive : (p : Plan) (i : ℕ) → rank_ok p i ≡ true → (j k : ℕ) → j < interactions p → k < interactions p
    → bit (rank_row p i) j ≡ true → bit (rank_row p j) k ≡ true → bit (rank_row p i) k ≡ true
unfolding rank_ok below
rank_transitive p i e j k l m b d =
    let (_, (_, (transitive, _))) = each _ e in
    implies-at (below p i j && below p j k) (below p i k)
    (every-at (interactions p) (λ x. implies (below p i j && below p j x) (below p i x))
    (every-at (interactions p) (λ y. every (interactions p) (λ x. implies (below p i y && below p y x) (below p i x))) transitive j l) k m)
    (both_and b d)

row_rank : (p : Plan) → interactions p ≤ max_interactions → (i : ℕ) → row_ok p i ≡ true → rank_ok p i ≡ true
unfolding row_ok rank_ok bounded below
row_rank p h i e =
    let (named, (strict, (shut, _))) = each _ e in
    all_of_lem _ (
      named,
      (
        strict,
        (
          every_all (interactions p) (λ j. every (interactions p) (λ k. implies (below p i j && below p j k) (below p i k)))
              (λ j l. every_all (interactions p) (λ k. implies (below p i j && below p j k) (below p i k))
              (λ k m. implies-yes (below p i j && below p j k) (below p i k)
              (λ s. let (first, then) = and_both (below p i j) (below p j k) s in closed_at p (rank_row p i) shut j k (le_trans l h) (le_trans m h) first then))),
          tt,
        ),
      ),
    )

rank_closed : (p : Plan) → ((i : ℕ) → i < interactions p → rank_ok p i ≡ true) → (i : ℕ) → i < interactions p → closed p (rank_row p i) ≡ true
unfolding closed covers
rank_closed p e i l =
    every_all max_interactions (λ j. implies (bit (rank_row p i) j) (covers p (rank_row p i) j))
    (λ j m. implies-yes (bit (rank_row p i) j) (covers p (rank_row p i) j)
    (λ b. let in_j = bounded_at p (rank_row p i) (rank_bounded p i (e i l)) j m b in
    every_all max_interactions (λ k. implies (bit (rank_row p j) k) (bit (rank_row p i) k))
    (λ k n. implies-yes (bit (rank_row p j) k) (bit (rank_row p i) k)
    (λ d. rank_transitive p i (e i l) j k in_j (bounded_at p (rank_row p j) (rank_bounded p j (e j in_j)) k n d) b d))))

rank_row_lem : (p : Plan) → ((i : ℕ) → i < interactions p → rank_ok p i ≡ true) → (i : ℕ) → i < interactions p → row_ok p i ≡ true
unfolding row_ok rank_ok below
rank_row_lem p e i l = let (_, (strict, _)) = each _ (e i l) in all_of_lem _ (rank_bounded p i (e i l), (strict, (rank_closed p e i l, tt)))

pub rows_ranks : (p : Plan) → interactions p ≤ max_interactions → every (interactions p) (row_ok p) ≡ every (interactions p) (rank_ok p)
rows_ranks p h =
    same_test (every (interactions p) (row_ok p)) (every (interactions p) (rank_ok p))
    (λ e. every_all (interactions p) (rank_ok p) (λ i l. row_rank p h i (every-at (interactions p) (row_ok p) e i l)))
    (λ e. every_all (interactions p) (row_ok p) (rank_row_lem p (every-at (interactions p) (rank_ok p) e)))

-- ---- a row's tests in turn

-- a number of the row is no interaction
pub row_unbounded : (p : Plan) (i row : ℕ) → row ≡ rank_row p i → bounded p row ≡ false → false ≡ row_ok p i
unfolding row_ok all_of
row_unbounded p i row e b =
    sym (ap (λ (t : Bool). t && (not (bit (rank_row p i) i) && (closed p (rank_row p i) && true))) (ap (bounded p) (sym e) ∙ b))

-- the interaction is in its own row
pub row_itself : (p : Plan) (i row : ℕ) → row ≡ rank_row p i → bounded p row ≡ true → bit row i ≡ true → false ≡ row_ok p i
unfolding row_ok all_of
row_itself p i row e b d =
    sym (ap₂ (λ (s t : Bool). s && (not t && (closed p (rank_row p i) && true))) (ap (bounded p) (sym e) ∙ b) (ap (λ (m : ℕ). bit m i) (sym e) ∙ d))

-- the last test is left
pub row_rest : (p : Plan) (i row : ℕ) → row ≡ rank_row p i → bounded p row ≡ true → bit row i ≡ false → closed p row ≡ row_ok p i
unfolding row_ok all_of
row_rest p i row e b d =
    ap (closed p) e ∙ sym (and-true (closed p (rank_row p i)))
    ∙ sym (ap₂ (λ (s t : Bool). s && (not t && (closed p (rank_row p i) && true))) (ap (bounded p) (sym e) ∙ b) (ap (λ (m : ℕ). bit m i) (sym e) ∙ d))
