use mathlib.Core.Path.{refl}
use Rattle.semantics.specs.Code.{State, site}
use Rattle.moves.proofs.FireLaws.{fire_done}
use Rattle.moves.proofs.fire.fire.Goals as goal

pub returns : goal.returns
returns c =
    let begun : State = site c.args.state.now.locations c.args.state.now.last_ports c.args.state.now.values in
    let m = c.interaction_at-at in
    fire_done c.args.plan.now begun c.args.i c.args.chosen.now c.requires.plan_value c.requires.i_bound.0 c.requires.i_bound.1 m.result _ _ _ _ c.args.state.now.locations_long c.args.state.now.ports_long
    m.ensures.0 (c.act.ensures.0 begun refl) (c.acts.ensures.0 begun.locations begun.last_ports) c.arrive.ensures.locations_after c.arrive.ensures.ports_after
