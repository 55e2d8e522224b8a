-- A guard and an update, the spans at two places, that keep the rules under the same names: so it is with transitions and with interactions.
use Rattle.std.specs.Prelude.{ℕ, Bool, [], ◌∷◌}
use Rattle.semantics.specs.Bytes.{all_of}
use Rattle.semantics.specs.Plan.{Plan, span_at}
use Rattle.semantics.specs.Code.{as_guard, as_update, span_ok}

abbrev pub pair_ok : Plan → (ℕ → Bool) → ℕ → ℕ → Bool
pair_ok p names guard update = all_of (span_ok p as_guard names (span_at p guard) ∷ span_ok p as_update names (span_at p update) ∷ [])
