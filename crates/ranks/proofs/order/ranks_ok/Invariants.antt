use Rattle.ranks.specs.RankRow.{Told, RowPassed}
use Prim.Native.Nat.{ℕ, ◌<◌}
use Rattle.ranks.proofs.order.ranks_ok.Given as goal

abbrev pub invariant-loop-i : goal.invariant-loop-i
invariant-loop-i l = ((j : ℕ) → j < l.i → RowPassed l.plan j) × Told l.plan l.before
