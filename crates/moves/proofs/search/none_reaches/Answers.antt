use mathlib.Core.Path.{◌≡◌, sym, ap, ◌∙◌}
use mathlib.Core.Bool.{true, not}
use Prim.Native.Nat.{◌<◌, ◌^◌}
use native.Mathlib.Omega.{arith}
use Rattle.semantics.specs.Bytes.{lowest, bit}
use Rattle.semantics.specs.Move.{Configuration, reaches}
use Rattle.layout.specs.Runs.{configuration_in}
use Rattle.words.proofs.MaskWalk.{walk_start, walk_at, walk_next, walk_fails, walk_done}
use Rattle.choices.proofs.ChoiceLaws.{table_in}
use Rattle.moves.proofs.SearchLaws.{falls_short}
use borrow.Author.Rules.{rules}
use Rattle.moves.proofs.search.none_reaches.Goals as goal
use Rattle.moves.proofs.search.none_reaches.Goals.{At-loop-left, After-reaches}

-- the mask is a word
word : (c : At-loop-left) → c.args.moves < 2 ^ 64
word c = search rules

-- whether the move that was tried leads to the verdict
tried : (c : After-reaches) → not c.reaches.result ≡ falls_short c.args.plan.now c.args.v (configuration_in c.args.run.now) (lowest 64 (bit c.loop-left.left))
tried c =
    let p = c.args.plan.now in
    ap not (c.reaches.ensures ∙ ap (λ (x : Configuration). reaches p c.args.v x.oracles) c.after.ensures.run_after.0)
    ∙ ap (falls_short p c.args.v (configuration_in c.args.run.now)) c.lowest_bit-n.ensures.0

pub loop-left-init : goal.loop-left-init
loop-left-init c = walk_start _ _

pub after-requires-clause-i_bound : goal.after-requires-clause-i_bound
after-requires-clause-i_bound c =
    let some_left : 0 < c.loop-left.left = omega arith in
    let named : bit c.args.moves c.lowest_bit-n.result ≡ true =
    ap (bit c.args.moves) c.lowest_bit-n.ensures.0 ∙ walk_at 64 c.args.moves _ c.loop-left.left (word (goal.at.after-requires-clause-i_bound c).At-loop-left) c.loop-left.invariant some_left in
    let (k, m) = c.requires.by_index c.lowest_bit-n.result named in
    (k, table_in _ _ _ c.requires.plan_value k _ c.requires.chosen_value.0, m)

pub returns-then-reaches : goal.returns-then-reaches
returns-then-reaches c =
    let some_left : 0 < c.loop-left.left = omega arith in
    sym (walk_fails 64 c.args.moves _ c.loop-left.left (word (goal.at.returns-then-reaches c).At-loop-left) c.loop-left.invariant some_left (sym (tried (goal.at.returns-then-reaches c).After-reaches) ∙ ap not c.if-reaches.true))

pub loop-left-preserved : goal.loop-left-preserved
loop-left-preserved c =
    walk_next 64 c.args.moves _ c.loop-left.left c.without_lowest-rest.result c.loop-left.invariant (sym (tried (goal.at.loop-left-preserved c).After-reaches) ∙ ap not c.if-reaches.false) c.without_lowest-rest.ensures.0
    c.without_lowest-rest.ensures.1

pub returns : goal.returns
returns c = sym (walk_done 64 c.args.moves _ c.loop-left.left c.loop-left.invariant (omega arith))
