use mathlib.Core.Path.{◌≡◌, ap, ◌∙◌}
use Prim.Native.Nat.{ℕ}
use native.Mathlib.Omega.{arith}
use lib.IntN.{pos}
use Rattle.semantics.specs.Bytes.{u32}
use Rattle.semantics.specs.Signed.{signed}
use Rattle.semantics.specs.Plan.{max_variables}
use Rattle.semantics.specs.Image.{value_place, configuration_of}
use Rattle.arith.proofs.Signed32.{back32}
use Rattle.words.proofs.Loops.{filled_turn, filled_all}
use Rattle.lane.proofs.run.values64.Goals as goal

pub loop-v-preserved : goal.loop-v-preserved
loop-v-preserved c =
    let l = c.loop-v in let b = c.args.image.now in
    filled_turn max_variables (λ (k : ℕ). signed (u32 b (value_place k))) (pos 0) l.v (omega arith) l.invariant
    (back32 c.i32_at.result c.i32_at.type_inv ∙ c.i32_at.ensures ∙ ap (λ (a : ℕ). signed (u32 b a)) c.value_at.ensures.0)

pub returns : goal.returns
unfolding configuration_of
returns c =
    let l = c.loop-v in let b = c.args.image.now in
    let e : l.v ≡ max_variables = omega arith in
    l.invariant ∙ rw e (filled_all max_variables (λ (k : ℕ). signed (u32 b (value_place k))) (pos 0))
