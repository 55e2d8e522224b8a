use Rattle.ranks.proofs.StandingLaws.{row_outranks}
use Rattle.layout.proofs.Sections.{laid_accepted}
use Rattle.semantics.specs.Bytes.{bit, some_below}
use Prim.Native.Nat.{ℕ}
use mathlib.Core.Bool.{◌&&◌}
use mathlib.Core.Path.{ap, ◌∙◌}
use Rattle.ranks.proofs.among.is_outranked.Goals as goal

pub rank_row-requires : goal.rank_row-requires
rank_row-requires c = (laid_accepted _ c.requires.plan_value, c.requires.i_bound)

pub returns : goal.returns
returns c =
    c.meets.ensures
    ∙ ap (λ (x : ℕ). some_below 64 (λ j. bit x j && bit c.args.moves j)) c.rank_row.ensures
    ∙ row_outranks c.args.plan.now c.args.moves c.args.i c.requires.plan_value c.requires.i_bound
