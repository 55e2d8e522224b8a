use mathlib.Core.Path.{ap, ◌∙◌}
use Prim.Native.Nat.{ℕ, ◌+◌}
use native.Mathlib.Omega.{arith}
use lib.IntN.{pos}
use Rattle.semantics.specs.Bytes.{u32}
use Rattle.semantics.specs.Signed.{signed}
use Rattle.semantics.specs.Plan.{max_variables, start_value}
use Rattle.arith.proofs.Signed32.{back32}
use Rattle.layout.proofs.Sections.{laid_accepted}
use Rattle.words.proofs.Loops.{filled_turn}
use Rattle.lane.proofs.run.start_values.Goals as goal

pub loop-v-preserved : goal.loop-v-preserved
loop-v-preserved c =
    let l = c.loop-v in
    let p = c.args.plan.now in
    let h = laid_accepted _ c.requires in
    filled_turn max_variables (start_value p) (pos 0) l.v (omega arith) l.invariant
    (back32 c.i32_at.result c.i32_at.type_inv ∙ c.i32_at.ensures ∙ ap (λ (n : ℕ). signed (u32 p (n + 4))) c.variable_at.ensures.0)
