use mathlib.Core.Path.{◌≡◌}
use Prim.Native.Nat.{◌<◌}
use native.Mathlib.Omega.{arith}
use Rattle.semantics.specs.Plan.{max_components, owner}
use Rattle.plan.proofs.NameLaws.{owned_none, owned_next, owner_low}
use Rattle.plan.proofs.names.owned_masks.Goals as goal

pub loop-v-init : goal.loop-v-init
loop-v-init c = let (length_is, zeros) = c.requires.out_len in owned_none _ _ length_is zeros

pub loop-v-preserved : goal.loop-v-preserved
loop-v-preserved c =
    let p = c.args.plan.now in
    let l = c.loop-v in
    let own : owner p l.v ≡ c.from-owner.result = cc in
    let low : owner p l.v < max_components = owner_low p c.requires.laid.components≤ c.requires.plan_value l.v (omega arith) in
    owned_next _ l.v c.from-owner.result l.out l.invariant (omega arith) (omega arith) own c.with_bit.result c.with_bit.ensures
