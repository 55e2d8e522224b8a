use mathlib.Core.Path.{ap}
use Prim.Native.Nat.{ℕ, ◌+◌}
use native.Mathlib.Omega.{arith}
use Rattle.semantics.specs.Bytes.{byte}
use Rattle.semantics.specs.Plan.{max_components, start_location}
use Rattle.layout.proofs.Sections.{laid_accepted}
use Rattle.words.proofs.Loops.{filled_turn}
use Rattle.lane.proofs.run.start_locations.Goals as goal

pub loop-c-preserved : goal.loop-c-preserved
loop-c-preserved c =
    let l = c.loop-c in
    let p = c.args.plan.now in
    let h = laid_accepted _ c.requires in
    filled_turn max_components (start_location p) 0 l.c (omega arith) l.invariant (ap (λ (n : ℕ). byte p (n + 1)) c.component_at.ensures.0)
