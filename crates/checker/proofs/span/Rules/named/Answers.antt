use Rattle.words.proofs.BitLaws.{bit_above}
use Rattle.semantics.proofs.Basics.{le-ltb}
use native.Mathlib.Omega.{arith}
use mathlib.Core.Path.{sym, ◌∙◌}
use Rattle.checker.proofs.span.Rules.named.Goals as goal

pub returns-else-n-lt64 : goal.returns-else-n-lt64
returns-else-n-lt64 c = le-ltb _ 64 c.if-n-lt64.false ∙ sym (bit_above 64 _ _ (omega arith) c.if-n-lt64.false)
