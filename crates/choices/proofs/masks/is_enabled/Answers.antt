use native.Mathlib.Omega.{arith}
use Rattle.choices.proofs.MaskLaws.{enabled_read}
use Rattle.choices.proofs.masks.is_enabled.Goals as goal

pub returns-then-not-parts_ready : goal.returns-then-not-parts_ready
returns-then-not-parts_ready c = grind (arith, enabled_read _ _ _ _ c.requires.i_bound.1)

pub returns : goal.returns
returns c = grind (arith, enabled_read _ _ _ _ c.requires.i_bound.1)
