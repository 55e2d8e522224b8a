use mathlib.Core.Path.{sym, ◌∙◌}
use Rattle.checker.proofs.Depths.{depth_next, depth_stops}
use Rattle.checker.proofs.span.Rules.depth.Goals as goal

pub returns-in_err-d : goal.returns-in_err-d
returns-in_err-d c = c.from_residual.ensures ∙ depth_stops _ _ _ _ _ _ c.loop-i.invariant.1 (sym c.in_err-d.was ∙ (rw c.word_at.ensures at c.deepen.ensures)) _ c.loop-i-test.true

pub loop-i-preserved : goal.loop-i-preserved
loop-i-preserved c = depth_next _ _ _ _ _ _ _ c.loop-i.invariant.1 (sym c.in_ok-d.was ∙ (rw c.word_at.ensures at c.deepen.ensures))
