use mathlib.Core.Path.{ap₂, ◌∙◌}
use Prim.Native.Nat.{ℕ}
use lib.Dec.{eqb}
use Rattle.std.specs.Prelude.{Some}
use Rattle.std.specs.Option.{option_eq}
use Rattle.checker.proofs.Depths.{ends_held}
use Rattle.checker.proofs.span.Rules.words_ok.Goals as goal

pub returns : goal.returns
returns c = c.eq.ensures ∙ ap₂ (λ o (f : ℕ). option_eq eqb o (Some f)) c.depth.ensures c.final_depth.ensures ∙ ends_held _ _
