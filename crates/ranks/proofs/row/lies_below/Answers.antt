use mathlib.Core.Path.{ap, ◌∙◌}
use Prim.Native.Nat.{ℕ}
use Rattle.semantics.specs.Bytes.{bit}
use Rattle.semantics.specs.Plan.{below}
use Rattle.ranks.proofs.row.lies_below.Goals as goal

pub returns : goal.returns
unfolding below
returns c = c.bit.ensures ∙ ap (λ (x : ℕ). bit x c.args.j) c.rank_row.ensures
