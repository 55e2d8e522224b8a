use mathlib.Core.Path.{refl, sym, ap, ◌∙◌}
use mathlib.Core.Bool.{not}
use Rattle.semantics.proofs.Basics.{absurd_bool, eq-eqb, ne_eqb}
use Rattle.layout.proofs.Sections.{laid_accepted}
use Rattle.choices.proofs.ChoiceLaws.{table_in}
use Rattle.walks.proofs.step.choose_for.Goals as goal

pub rank_row-requires : goal.rank_row-requires
rank_row-requires c = (laid_accepted _ c.requires.plan_value, c.requires.i_bound.0)

pub returns-then-rank_row-eq0 : goal.returns-then-rank_row-eq0
returns-then-rank_row-eq0 c =
    let none = sym c.rank_row.ensures ∙ c.if-rank_row-eq0.true in
    record { chosen_in = c.choose_in.ensures; value = (ap not (sym (eq-eqb _ 0 none)), λ e. absurd_bool e refl) }

pub returns : goal.returns
returns c =
    let e = c.choose.ensures in
    record { chosen_in = table_in _ _ _ c.requires.plan_value c.requires.i_bound.0 _ e; value = (ap not (sym (ne_eqb _ 0 (λ z. c.if-rank_row-eq0.false (c.rank_row.ensures ∙ z)))), λ _. e) }
