-- The interactions of a mask above which none of the mask lies.
use Rattle.std.specs.Prelude.{ℕ, Bool, not, ◌&&◌, [], ◌∷◌}
use Rattle.semantics.specs.Bytes.{all_of, some_below, bit, mask}
use Rattle.semantics.specs.Plan.{Plan, interactions, below}

-- Interaction i is in the mask, and none of the mask lies above it.
unfoldable pub stands : Plan → ℕ → ℕ → Bool
stands p m i = all_of (bit m i ∷ not (some_below (interactions p) (λ j. below p i j && bit m j)) ∷ [])

-- The interactions of the mask above which none of the mask lies.
unfoldable pub standing : Plan → ℕ → ℕ
standing p m = mask (interactions p) (stands p m)
