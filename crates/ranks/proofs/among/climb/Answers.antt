use native.Mathlib.Omega.{arith}
use Rattle.layout.proofs.Sections.{laid_accepted}
use Rattle.words.proofs.Gather.{held_inside}
use Rattle.ranks.proofs.ClimbLaws.{climb_start, climb_held, climb_next, climb_less, climb_top}
use Rattle.ranks.proofs.among.climb.Goals as goal

pub rank_row-requires : goal.rank_row-requires
rank_row-requires c = (laid_accepted _ c.requires.plan_value, held_inside _ c.args.moves c.args.i c.requires.moves_bound.0 c.requires.moves_bound.1)

pub loop-above-init : goal.loop-above-init
loop-above-init c = rw c.rank_row.ensures (climb_start c.args.plan.now c.args.moves c.args.path c.args.i c.requires.moves_bound.1)

pub rank_row-requires-in-loop-above : goal.rank_row-requires-in-loop-above
rank_row-requires-in-loop-above c =
    let l = c.loop-above in
    let n = c.highest_bit-n.result in
    (laid_accepted _ c.requires.plan_value, held_inside _ c.args.moves n c.requires.moves_bound.0 (climb_held c.args.plan.now c.requires.plan_value c.args.moves c.requires.moves_bound.0 c.args.path c.args.i l.n l.steps l.above n l.invariant c.highest_bit-n.ensures.0))

pub loop-above-smaller : goal.loop-above-smaller
loop-above-smaller c =
    let l = c.loop-above in
    let n = c.highest_bit-n.result in
    rw c.rank_row-in-loop-above.ensures (climb_less c.args.plan.now c.requires.plan_value c.args.moves c.requires.moves_bound.0 c.args.path c.args.i l.n l.steps l.above n l.invariant c.highest_bit-n.ensures.0 (omega arith))

pub loop-above-preserved : goal.loop-above-preserved
loop-above-preserved c =
    let l = c.loop-above in
    let n = c.highest_bit-n.result in
    rw (c.rank_row-in-loop-above.ensures, c.with_bit-steps.ensures) (climb_next c.args.plan.now c.requires.plan_value c.args.moves c.requires.moves_bound.0 c.args.path c.args.i l.n l.steps l.above n l.invariant c.highest_bit-n.ensures.0 c.requires.moves_bound.1)

pub returns-clause-number_value : goal.returns-clause-number_value
returns-clause-number_value c =
    let l = c.loop-above in
    (climb_top c.args.plan.now c.args.moves c.args.path c.args.i l.n l.steps l.above l.invariant (omega arith), l.invariant.reached)
