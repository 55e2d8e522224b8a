-- The ports of each component, as a table that the code makes once: none from C up.
use Rattle.std.specs.Prelude.{◌≡◌, cond, List, ℕ, ◌<◌, get_or, ltb}
use Rattle.semantics.specs.Plan.{Plan, max_components, components, ports}

-- a port of component c is below this
unfoldable pub limit : Plan → ℕ → ℕ
limit p c = cond (ltb c (components p)) (ports p c) 0

pub record Limits (p : Plan) (l : List ℕ) : Type 0 where
  pub at : (c : ℕ) → c < max_components → get_or l c 0 ≡ limit p c
