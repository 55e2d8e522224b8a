-- The search for the move that settling commits: what is sought after a move was judged.
use Rattle.std.specs.Prelude.{◌≡◌, ℕ, min, ◌≤◌, Option, Some, None, not, ◌&&◌, [], ◌∷◌, ltb, eqb}
use Rattle.semantics.specs.Bytes.{all_of, bit}
use Rattle.semantics.specs.Plan.{Plan, below}
use Rattle.moves.specs.declared.search.Sought.{Sought}

-- The lower of n and the best so far.
abbrev pub best_with : Option ℕ → ℕ → ℕ
best_with None n = n
best_with (Some b) n = min b n

-- After a good move n: of what is left, the moves numbered lower than n that do not lie below it; no step is to be judged; n is the best where it is lower.
pub record AfterGood (p : Plan) (s : Sought) (n : ℕ) (r : Sought) : Type 0 where
  pub left_bits : (j : ℕ) → bit r.left j ≡ all_of (bit s.left j ∷ ltb j n ∷ not (below p j n) ∷ [])
  pub left≤ : r.left ≤ s.left
  pub open_same : r.open ≡ s.open
  pub path_none : r.path ≡ 0
  pub best_lower : r.best ≡ Some (best_with s.best n)

-- After a bad move n that a climb by these steps came to: it is not open, not left and no step that is to be judged.
pub record AfterBad (s : Sought) (steps n : ℕ) (r : Sought) : Type 0 where
  pub open_bits : (j : ℕ) → bit r.open j ≡ (bit s.open j && not (eqb j n))
  pub open≤ : r.open ≤ s.open
  pub left_bits : (j : ℕ) → bit r.left j ≡ (bit s.left j && not (eqb j n))
  pub left≤ : r.left ≤ s.left
  pub path_bits : (j : ℕ) → bit r.path j ≡ (bit steps j && not (eqb j n))
  pub best_same : r.best ≡ s.best
