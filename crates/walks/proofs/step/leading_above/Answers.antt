use mathlib.Core.Path.{sym, ◌∙◌}
use Rattle.semantics.proofs.Basics.{not_no, eqb-true}
use Rattle.moves.proofs.SearchLaws.{none_above}
use Rattle.walks.proofs.step.leading_above.Goals as goal

pub returns-then-not-ranked : goal.returns-then-not-ranked
returns-then-not-ranked c = none_above c.args.plan.now c.args.v _ c.args.i (eqb-true _ 0 (not_no _ (sym c.requires.ranked_value.0 ∙ c.if-not-ranked.true)))

pub leads_above-requires : goal.leads_above-requires
leads_above-requires c =
    let q = c.requires.i_bound in
    record { plan_value = c.requires.plan_value; i_bound = (q.0, c.requires.ranked_value.1 c.if-not-ranked.false, q.1) }
