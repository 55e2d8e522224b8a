use mathlib.Core.Path.{refl, ap, ◌∙◌}
use native.Mathlib.Omega.{arith}
use Rattle.semantics.specs.Move.{Configuration}
use Rattle.walks.proofs.WalkLaws.{so_far_start, so_far_next, at-stop, at_end, at_end_in}
use Rattle.walks.proofs.walk.walk.Goals as goal

pub loop-k-init : goal.loop-k-init
loop-k-init c = (so_far_start _ _ _ _, c.requires.oracles_value, refl)

pub step-requires-clause-oracles_value : goal.step-requires-clause-oracles_value
step-requires-clause-oracles_value c = c.loop-k.invariant.1

pub returns-in-Err-clause-index_value : goal.returns-in-Err-clause-index_value
returns-in-Err-clause-index_value c =
    let m = c.in-Err.ensures.made_value in
    at-stop _ _ _ _ _ c.loop-k.k c.loop-k.invariant.0.at _ c.loop-k-test.true c.field-i.ensures.0 _ m.0 m.1

pub returns-in-Err-clause-oracles_before : goal.returns-in-Err-clause-oracles_before
returns-in-Err-clause-oracles_before c = c.in-Err.ensures.oracles_kept ∙ ap (λ (x : Configuration). x.oracles) c.loop-k.invariant.0.so_far

pub loop-k-preserved : goal.loop-k-preserved
loop-k-preserved c =
    (so_far_next _ _ _ _ _ c.loop-k.k c.loop-k.invariant.0 _ c.loop-k-test.true c.field-i.ensures.0 _ c.in_default.ensures.made_value.0 c.in_default.ensures.run_after, c.step.ensures.in_range, c.step.ensures.marks_kept ∙ c.loop-k.invariant.2)

pub returns-clause-index_value : goal.returns-clause-index_value
returns-clause-index_value c = at_end _ _ _ _ _ c.loop-k.k c.loop-k.invariant.0.at (omega (arith, c.loop-k-test))

pub returns-clause-run_after : goal.returns-clause-run_after
returns-clause-run_after c = at_end_in _ _ _ _ _ c.loop-k.k c.loop-k.invariant.0.at (omega (arith, c.loop-k-test))
