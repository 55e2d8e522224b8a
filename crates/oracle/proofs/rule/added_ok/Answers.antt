use mathlib.Core.Path.{refl, sym}
use Prim.Native.Nat.{suc}
use native.Mathlib.Numerals.{add-one}
use native.Mathlib.Omega.{arith}
use Rattle.semantics.specs.Bytes.{every}
use Rattle.semantics.specs.Rules.{table_ok}
use Rattle.semantics.proofs.Basics.{every_fails}
use Rattle.oracle.proofs.rule.added_ok.Goals as goal

pub loop-k-init : goal.loop-k-init
unfolding every
loop-k-init c = (c.first-table.ensures.0, c.first-table.ensures.1, refl)

pub returns-then-not-table_ok : goal.returns-then-not-table_ok
returns-then-not-table_ok c =
    sym (every_fails _ (λ j. table_ok c.args.plan.now (suc j)) c.loop-k.k (omega arith) (cc (add-one c.loop-k.k)))
