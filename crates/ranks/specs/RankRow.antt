-- Rule 8 row by row, as the check goes through it.
use Rattle.std.specs.Prelude.{◌≡◌, ℕ, ◌<◌, Bool, true, false, not, ◌||◌, [], ◌∷◌, ltb, eqb}
use Rattle.semantics.specs.Bytes.{all_of, implies, every, bit}
use Rattle.semantics.specs.Plan.{Plan, max_interactions, interactions, rank_row}

-- Each number of the row is an interaction.
unfoldable pub bounded : Plan → ℕ → Bool
bounded p row = every max_interactions (λ j. implies (bit row j) (ltb j (interactions p)))

-- The row has what stands above j.
unfoldable pub covers : Plan → ℕ → ℕ → Bool
covers p row j = every max_interactions (λ k. implies (bit (rank_row p j) k) (bit row k))

-- The row has what stands above each of its numbers.
unfoldable pub closed : Plan → ℕ → Bool
closed p row = every max_interactions (λ j. implies (bit row j) (covers p row j))

unfoldable pub row_ok : Plan → ℕ → Bool
row_ok p i = all_of (bounded p (rank_row p i) ∷ not (bit (rank_row p i) i) ∷ closed p (rank_row p i) ∷ [])

-- Number k of the row is one whose row lies in it, or stands in the row of such a one.
pub record Reached (p : Plan) (row k : ℕ) : Type 0 where
  pub via : ℕ
  pub small : via < max_interactions
  pub named : bit row via ≡ true
  pub covered : covers p row via ≡ true
  pub there : (eqb k via || bit (rank_row p via) k) ≡ true

abbrev pub Told : Plan → ℕ → Type 0
Told p row = (k : ℕ) → bit row k ≡ true → Reached p row k

-- What the check finds of row i. Where it finds this of every row, they all keep the rule.
pub record RowPassed (p : Plan) (i : ℕ) : Type 0 where
  pub within : bounded p (rank_row p i) ≡ true
  pub strict : bit (rank_row p i) i ≡ false
  pub told : Told p (rank_row p i)
