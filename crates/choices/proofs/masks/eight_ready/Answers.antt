use mathlib.Core.Path.{sym, ap, ◌∙◌}
use mathlib.Core.Bool.{Bool}
use Prim.Native.Nat.{ℕ, ◌+◌, ◌/◌}
use native.Mathlib.Omega.{arith}
use Rattle.semantics.proofs.Basics.{every_fails}
use Rattle.words.proofs.MaskWalk.{walk_start, walk_next, walk_done}
use Rattle.choices.specs.Choices.{port_ready}
use Rattle.choices.proofs.PartLaws.{eight_done}
use Rattle.choices.proofs.masks.eight_ready.Goals as goal

pub loop-left-init : goal.loop-left-init
loop-left-init c = walk_start _ _

pub returns-then-not-port_ready : goal.returns-then-not-port_ready
returns-then-not-port_ready c =
    sym (every_fails 8 _ (c.lowest_bit-c.result / 8) (omega (arith, c.lowest_bit-c.ensures.1)) (sym c.port_ready.ensures ∙ c.if-not-port_ready.true))

pub loop-left-preserved : goal.loop-left-preserved
loop-left-preserved c =
    let ready : ℕ → Bool = λ j. port_ready c.args.plan.now c.args.chosen.now c.args.i (c.args.base + j / 8) in
    walk_next 64 _ ready _ _ c.loop-left.invariant
    (ap ready (sym c.lowest_bit-c.ensures.0) ∙ sym c.port_ready.ensures ∙ c.if-not-port_ready.false) c.without_lowest-left.ensures.0 c.without_lowest-left.ensures.1

pub returns : goal.returns
returns c = sym (eight_done _ c.requires.plan_value _ c.requires.i_bound.0 _ _ _ c.part_bits-left.ensures (walk_done 64 _ _ _ c.loop-left.invariant (omega arith)))
