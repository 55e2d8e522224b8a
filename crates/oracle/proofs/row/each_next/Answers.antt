use mathlib.Core.Path.{ap}
use mathlib.Core.List.{[], ◌∷◌}
use Prim.Native.Nat.{ℕ}
use native.Mathlib.Omega.{arith}
use Rattle.semantics.specs.Bytes.{table}
use Rattle.words.proofs.Loops.{filled}
use Rattle.oracle.proofs.row.each_next.Goals as goal

pub loop-k-init : goal.loop-k-init
unfolding filled table
loop-k-init c = (c.first-table.ensures.0, omega arith, ap (λ (q : ℕ). q ∷ 0 ∷ 0 ∷ 0 ∷ []) c.requires.states_value.2)
