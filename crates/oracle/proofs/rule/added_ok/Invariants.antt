use mathlib.Core.Path.{◌≡◌}
use mathlib.Core.Bool.{true}
use Prim.Native.Nat.{suc}
use Rattle.semantics.specs.Bytes.{every}
use Rattle.semantics.specs.Rules.{table_ok}
use Rattle.oracle.proofs.rule.added_ok.Given as goal

abbrev pub invariant-loop-k : goal.invariant-loop-k
invariant-loop-k l = (l.table.plan.now ≡ l.plan) × (l.table.n ≡ l.k) × (every l.k (λ j. table_ok l.plan (suc j)) ≡ true)
