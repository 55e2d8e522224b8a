use mathlib.Core.Path.{◌≡◌}
use Prim.Native.Nat.{◌+◌}
use lib.ListN.{get_or}
use Rattle.semantics.specs.Plan.{max_oracles, next}
use Rattle.words.proofs.Loops.{filled}
use Rattle.oracle.proofs.row.each_next.Given as goal

abbrev pub invariant-loop-k : goal.invariant-loop-k
invariant-loop-k l = (l.table.plan.now ≡ l.plan) × (l.table.n + 1 ≡ l.k) × (l.out ≡ filled max_oracles (λ k. next l.plan k (get_or l.states k 0) l.a) 0 l.k)
