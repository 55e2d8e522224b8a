-- The lowest verdict of several oracles.
use mathlib.Core.Path.{◌≡◌, refl}
use mathlib.Core.List.{List}
use Prim.Native.Nat.{ℕ, min, ◌+◌}
use native.Mathlib.Numerals.{add-one}
use lib.ListN.{get_or}
use Rattle.semantics.specs.Plan.{Plan, verdict}
use Rattle.semantics.specs.Move.{lowest_verdict}

-- that of the first oracle and n more, and that of the next one
pub lowest_turn : (p : Plan) (qs : List ℕ) (n : ℕ) → lowest_verdict p qs (n + 1) ≡ min (lowest_verdict p qs n) (verdict p (n + 1) (get_or qs (n + 1) 0))
unfolding lowest_verdict
lowest_turn p qs n = rw add-one

-- that of the first oracle alone
pub lowest_first : (p : Plan) (qs : List ℕ) → lowest_verdict p qs 0 ≡ verdict p 0 (get_or qs 0 0)
unfolding lowest_verdict
lowest_first p qs = refl
