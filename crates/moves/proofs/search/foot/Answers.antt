use mathlib.Core.Logic.{inl, inr}
use native.Mathlib.Omega.{arith}
use Rattle.words.proofs.Gather.{lowest-held}
use Rattle.moves.proofs.search.foot.Goals as goal

pub returns-then-path-ne0 : goal.returns-then-path-ne0
returns-then-path-ne0 c = inl (lowest-held _ c.lowest_bit.result c.lowest_bit.ensures.0 (omega arith) (omega arith))

pub returns : goal.returns
returns c = inr (lowest-held _ c.lowest_bit-2.result c.lowest_bit-2.ensures.0 (omega arith) (omega arith))
