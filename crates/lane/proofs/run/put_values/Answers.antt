use borrow.Author.Rules.{rules}
use mathlib.Core.Path.{sym, ◌∙◌}
use native.Mathlib.Omega.{arith}
use lib.ListN.{get_or}
use Prim.Native.Nat.{◌<◌}
use lib.Signed.{mag}
use lib.IntN.{pos}
use Rattle.semantics.specs.Image.{value_place, value_bytes}
use Rattle.words.proofs.SpliceLaws.{splice-none}
use Rattle.arith.proofs.Signed32.{back32}
use Rattle.lane.proofs.Writing.{values_turn}
use Rattle.lane.proofs.run.put_values.Goals as goal

pub loop-v-init : goal.loop-v-init
unfolding value_bytes
loop-v-init c = (search rules, sym (splice-none c.args.image.now (value_place 0)))

pub loop-v-preserved : goal.loop-v-preserved
loop-v-preserved c =
    let l = c.loop-v in
    let z = get_or c.args.values.now l.v (pos 0) in
    let h : mag z < 2147483648 = omega arith in (
      omega arith,
      rw (back32 z h, c.value_at.ensures.0) at c.put_i32.ensures
          ∙ values_turn c.args.image.now (value_place 0) c.args.values.now l.v (omega arith) (omega arith) l.invariant.1,
    )
