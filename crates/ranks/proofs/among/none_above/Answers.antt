use mathlib.Core.Path.{◌≡◌, sym, ap, ◌∙◌}
use native.Mathlib.Omega.{arith}
use mathlib.Core.Bool.{not}
use Rattle.semantics.specs.Bytes.{bit, lowest}
use Rattle.words.proofs.MaskWalk.{walk_start, walk_at, walk_next, walk_fails, walk_done}
use Rattle.ranks.proofs.among.none_above.Invariants.{free}
use Rattle.ranks.proofs.among.none_above.Goals.{After-is_outranked}
use Rattle.ranks.proofs.among.none_above.Goals as goal

pub loop-left-init : goal.loop-left-init
loop-left-init c = walk_start c.args.marked (free c.args.plan.now c.args.moves)

-- what the call answers of the lowest number left
seen : (c : After-is_outranked) → free c.args.plan.now c.args.moves (lowest 64 (bit c.loop-left.left)) ≡ not c.is_outranked.result
seen c = ap (free c.args.plan.now c.args.moves) (sym c.lowest_bit.ensures.0) ∙ sym (ap not c.is_outranked.ensures)

pub is_outranked-requires-clause-i_bound : goal.is_outranked-requires-clause-i_bound
is_outranked-requires-clause-i_bound c =
    let l = c.loop-left in
    let a = c.args in
    c.requires.by_index c.lowest_bit.result (ap (bit a.marked) c.lowest_bit.ensures.0 ∙ walk_at 64 a.marked (free a.plan.now a.moves) l.left (omega arith) l.invariant (omega arith))

pub returns-then-is_outranked : goal.returns-then-is_outranked
returns-then-is_outranked c =
    let l = c.loop-left in
    let a = c.args in
    sym (walk_fails 64 a.marked (free a.plan.now a.moves) l.left (omega arith) l.invariant (omega arith) (seen (goal.at.returns-then-is_outranked c).After-is_outranked ∙ ap not c.if-is_outranked.true))

pub loop-left-preserved : goal.loop-left-preserved
loop-left-preserved c =
    let l = c.loop-left in
    let a = c.args in
    walk_next 64 a.marked (free a.plan.now a.moves) l.left c.without_lowest-left.result l.invariant (seen (goal.at.loop-left-preserved c).After-is_outranked ∙ ap not c.if-is_outranked.false) c.without_lowest-left.ensures.0 c.without_lowest-left.ensures.1

pub returns : goal.returns
returns c =
    let l = c.loop-left in
    let a = c.args in
    sym (walk_done 64 a.marked (free a.plan.now a.moves) l.left l.invariant (omega arith))
