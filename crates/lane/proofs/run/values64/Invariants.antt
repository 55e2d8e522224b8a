use mathlib.Core.Path.{◌≡◌}
use Prim.Native.Nat.{ℕ}
use lib.IntN.{pos}
use Rattle.semantics.specs.Bytes.{u32}
use Rattle.semantics.specs.Signed.{signed}
use Rattle.semantics.specs.Plan.{max_variables}
use Rattle.semantics.specs.Image.{value_place}
use Rattle.words.proofs.Loops.{filled}
use Rattle.lane.proofs.run.values64.Given as goal

abbrev pub invariant-loop-v : goal.invariant-loop-v
invariant-loop-v l = (l.out ≡ filled max_variables (λ (k : ℕ). signed (u32 l.image (value_place k))) (pos 0) l.v)
