use mathlib.Core.Path.{◌≡◌}
use mathlib.Core.Bool.{true}
use Prim.Native.Nat.{◌+◌, ◌*◌, ◌≤◌}
use lib.Dec.{eqb}
use Rattle.semantics.specs.Plan.{section, section_start}
use Rattle.semantics.specs.Bytes.{every}
use Rattle.tables.proofs.header.layout_ok.Given as goal

abbrev pub invariant-loop-n : goal.invariant-loop-n
invariant-loop-n l = (l.at ≡ section_start l.plan l.n) × (l.at ≤ 48 + 5000000 * l.n) × (every l.n (λ k. eqb (section l.plan k) (section_start l.plan k)) ≡ true)
