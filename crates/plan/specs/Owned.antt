-- The masks of the variables that each component owns.
use Rattle.std.specs.Prelude.{◌≡◌, ℕ, ◌<◌, cond, List, length, get_or, eqb}
use Rattle.semantics.specs.Bytes.{bit}
use Rattle.semantics.specs.Plan.{Plan, max_components, no_port, variables, owner}
use Rattle.semantics.specs.Code.{owned_by}

-- Sixteen masks: bit v of mask c is set where component c owns variable v; each variable has an owner among them.
pub record Owned (p : Plan) (l : List ℕ) : Type 0 where
  pub sixteen : length l ≡ max_components
  pub low : (v : ℕ) → v < variables p → owner p v < max_components
  pub owns : (c v : ℕ) → c < max_components → bit (get_or l c 0) v ≡ owned_by p c v

-- The mask of a component that takes part, by its port byte.
abbrev pub part_mask : ℕ → ℕ → ℕ
part_mask port m = cond (eqb port no_port) 0 m
