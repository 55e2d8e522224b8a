use mathlib.Core.Path.{ap, ◌∙◌}
use mathlib.Core.List.{map}
use Rattle.std.specs.Prelude.{Option}
use Prim.Native.Nat.{ℕ}
use Rattle.roster.specs.Scan.{moved_on}
use Rattle.roster.proofs.Dispatch.{dispatched}
use Rattle.yard.proofs.yard_turn.Goals as goal

pub returns : goal.returns
returns c =
    let (t, images) = c.serve-turn.ensures in
    let l = c.args.roster.now in
    let left = c.grow.ensures ∙ ap (λ (o : Option ℕ). map (moved_on o) l) c.lane_of.ensures in
    let d = dispatched c.args.plan.now l c.args.images.now _ _ _ _ c.scan-scan.ensures t images left in
    (c.packed.ensures ∙ d.0, d.1, d.2)
