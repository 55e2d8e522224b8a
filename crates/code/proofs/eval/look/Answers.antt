use native.Mathlib.Omega.{arith}
use Rattle.semantics.specs.Code.{ran}
use Rattle.layout.proofs.Sections.{laid_accepted}
use Rattle.code.proofs.Turns.{word_low, turn_fits, turned, ended_depth}
use Rattle.code.proofs.eval.look.Goals as goal

pub loop-i-init : goal.loop-i-init
unfolding ran
loop-i-init c = rw c.new-stack.ensures

pub overflow_add-start : goal.overflow_add-start
overflow_add-start c = omega (arith, (word_low _ c.requires.plan_value _ _ c.requires.taken.0 _ c.loop-i-test.true).1)

pub word_from-w-requires : goal.word_from-w-requires
word_from-w-requires c =
    (laid_accepted _ c.requires.plan_value, c.code_at-base.ensures.0, (word_low _ c.requires.plan_value _ _ c.requires.taken.0 _ c.loop-i-test.true).0)

pub read-requires : goal.read-requires
read-requires c = (
  c.operand.ensures.1,
  turn_fits _ c.requires.plan_value _ _ c.requires.taken.0 _ _ _ _ _ _ _ c.word_from-w.ensures c.kind.ensures.0 c.operand.ensures.0
      c.loop-i.invariant c.loop-i-test.true,
)

pub loop-i-preserved : goal.loop-i-preserved
loop-i-preserved c =
    turned _ _ _ _ _ _ _ _ _ c.word_from-w.ensures c.kind.ensures.0 c.operand.ensures.0 c.loop-i.invariant c.read.ensures

pub peek-requires : goal.peek-requires
peek-requires c =
    omega (arith, ended_depth _ c.requires.plan_value _ _ c.requires.taken.0 _ _ _ _ (omega arith) c.loop-i.invariant c.requires.taken.1)
