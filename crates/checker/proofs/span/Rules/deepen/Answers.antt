use native.Mathlib.Omega.{arith}
use Rattle.checker.proofs.Depths.{word_past}
use Rattle.checker.proofs.span.Rules.deepen.Goals as goal

pub returns-in-24584-to-65535 : goal.returns-in-24584-to-65535
returns-in-24584-to-65535 c = word_past _ _ _ _ _ (omega arith)
