-- The rows of the oracles' tables, counted through.
use mathlib.Core.Path.{◌≡◌}
use Prim.Native.Nat.{ℕ, ◌+◌, ◌≤◌, ◌<◌}
use native.Mathlib.Numerals.{add-one}
use Rattle.semantics.specs.Plan.{Plan, max_oracles, oracle_states, states_before}
use Rattle.semantics.proofs.Oracles.{states_end}

-- those before the next oracle's
pub rows_after : (p : Plan) (n : ℕ) → states_before p (n + 1) ≡ states_before p n + oracle_states p n
unfolding states_before
rows_after p n = rw add-one

-- each oracle's are among all
pub rows_end : (p : Plan) (n : ℕ) → n < max_oracles → states_before p n + oracle_states p n ≤ states_before p max_oracles
rows_end p n h = states_end p n max_oracles h
