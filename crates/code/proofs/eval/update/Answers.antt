use mathlib.Core.List.{[]}
use mathlib.Core.Path.{refl, sym, ap₂}
use native.Mathlib.Omega.{arith}
use Rattle.semantics.specs.Code.{site, ran}
use Rattle.layout.proofs.Sections.{laid_accepted}
use Rattle.code.specs.Held.{machine}
use Rattle.code.proofs.Turns.{word_low, turn_fits, turned, updated}
use Rattle.code.proofs.eval.update.Goals as goal

pub loop-i-init : goal.loop-i-init
unfolding ran
loop-i-init c s e = ap₂ machine c.new-stack.ensures (sym e)

pub overflow_add-start : goal.overflow_add-start
overflow_add-start c = omega (arith, (word_low _ c.requires.plan_value _ _ c.requires.taken.0 _ c.loop-i-test.true).1)

pub word_from-w-requires : goal.word_from-w-requires
word_from-w-requires c =
    (laid_accepted _ c.requires.plan_value, c.code_at-base.ensures.0, (word_low _ c.requires.plan_value _ _ c.requires.taken.0 _ c.loop-i-test.true).0)

pub step-requires : goal.step-requires
step-requires c = (
  c.operand.ensures.1,
  turn_fits _ c.requires.plan_value _ _ c.requires.taken.0 (site [] [] c.args.values.now) _ _ _ _ _ _ c.word_from-w.ensures c.kind.ensures.0 c.operand.ensures.0
      (c.loop-i.invariant _ refl) c.loop-i-test.true,
)

pub loop-i-preserved : goal.loop-i-preserved
loop-i-preserved c s e =
    turned _ s _ _ _ _ _ _ _ c.word_from-w.ensures c.kind.ensures.0 c.operand.ensures.0 (c.loop-i.invariant s e) (c.step.ensures s)

pub returns : goal.returns
returns c = updated _ _ _ _ _ _ _ (omega arith) c.loop-i.invariant c.requires.taken.1
