use mathlib.Core.Path.{ap, ◌∙◌}
use Prim.Native.Nat.{ℕ, ◌+◌, ◌*◌, ◌-◌}
use native.Mathlib.Omega.{arith}
use mathlib.Core.List.{List}
use borrow.Rule.Slice.PartMut.{put_mid}
use Rattle.semantics.specs.Calls.{Outcome}
use Rattle.roster.proofs.ServeLaws.{settled_is, put_is}
use Rattle.roster.proofs.serve.settle_part.Goals as goal

pub returns-clause-value : goal.returns-clause-value
returns-clause-value c =
    let a = c.args in
    c.settle_from.ensures.0
    ∙ ap (λ (x : Outcome). x.answer) (settled_is a.plan.now a.images.now a.lane (312 * a.lane + 312 - 312 * a.lane) (omega arith))

pub returns-clause-images_after : goal.returns-clause-images_after
returns-clause-images_after c =
    let a = c.args in
    ap (λ (y : List ℕ). put_mid (312 * a.lane) (312 * a.lane + 312 - 312 * a.lane) a.images.now y)
    (c.settle_from.ensures.1 ∙ ap (λ (x : Outcome). x.image) (settled_is a.plan.now a.images.now a.lane (312 * a.lane + 312 - 312 * a.lane) (omega arith)))
    ∙ put_is a.images.now _ a.lane
