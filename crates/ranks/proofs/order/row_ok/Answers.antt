use Rattle.ranks.proofs.RankRows.{row_unbounded, row_itself, row_rest}
use Rattle.ranks.specs.RankRow.{bounded, Told, RowPassed}
use Rattle.semantics.specs.Bytes.{implies, every, bit}
use Rattle.semantics.specs.Plan.{below}
use Rattle.semantics.proofs.Basics.{absurd_bool}
use Prim.Native.Nat.{ℕ}
use mathlib.Core.Bool.{true}
use mathlib.Core.Path.{◌≡◌, refl, sym, ap, ◌∙◌, subst}
use Rattle.ranks.proofs.order.row_ok.Goals as goal
use Rattle.ranks.proofs.order.row_ok.Goals.{After-inside, After-lies_below, Else-not-inside}

bounded_is : (c : After-inside) → c.inside.result ≡ bounded c.args.plan.now c.rank_row-row.result
bounded_is c = unfold bounded in c.inside.ensures ∙ (λ x. every 64 (λ j. implies (bit c.rank_row-row.result j) (c.requires.laid.2 j x)))

row_bounded : (c : Else-not-inside) → bounded c.args.plan.now c.rank_row-row.result ≡ true
row_bounded c = sym (bounded_is (goal.at.Else-not-inside c).After-inside) ∙ c.if-not-inside.false

-- the rank test asks the row
own : (c : After-lies_below) → c.lies_below.result ≡ bit c.rank_row-row.result c.args.i
own c = unfold below in c.lies_below.ensures ∙ ap (λ (x : ℕ). bit x c.args.i) (sym c.rank_row-row.ensures)

pub returns-then-not-inside : goal.returns-then-not-inside
returns-then-not-inside c =
    let a = c.args in
    (λ t. absurd_bool t refl, λ t. row_unbounded a.plan.now a.i c.rank_row-row.result c.rank_row-row.ensures (sym (bounded_is (goal.at.returns-then-not-inside c).After-inside) ∙ c.if-not-inside.true) ∙ t)

pub returns-then-lies_below : goal.returns-then-lies_below
returns-then-lies_below c =
    let a = c.args in
    (λ t. absurd_bool t refl, λ t. row_itself a.plan.now a.i c.rank_row-row.result c.rank_row-row.ensures (row_bounded (goal.at.returns-then-lies_below c).Else-not-inside) (sym (own (goal.at.returns-then-lies_below c).After-lies_below) ∙ c.if-lies_below.true) ∙ t)

pub is_closed-requires : goal.is_closed-requires
is_closed-requires c = (c.requires.laid.0, (row_bounded (goal.at.is_closed-requires c).Else-not-inside), c.requires.told)

pub returns : goal.returns
returns c =
    let passed : let a = c.args in Told a.plan.now c.rank_row-row.result → RowPassed a.plan.now a.i =
    λ t. let a = c.args in
    record {
      within = subst (λ (x : ℕ). bounded a.plan.now x ≡ true) c.rank_row-row.ensures (row_bounded (goal.at.returns c).Else-not-inside);
      strict = ap (λ (x : ℕ). bit x a.i) (sym c.rank_row-row.ensures) ∙ sym (own (goal.at.returns c).After-lies_below) ∙ c.if-lies_below.false;
      told = subst (Told a.plan.now) c.rank_row-row.ensures t;
    } in
    let a = c.args in (
      λ t. passed (c.is_closed.ensures.0 t),
      λ t. c.is_closed.ensures.1 (row_rest a.plan.now a.i c.rank_row-row.result c.rank_row-row.ensures (row_bounded (goal.at.returns c).Else-not-inside) (sym (own (goal.at.returns c).After-lies_below) ∙ c.if-lies_below.false) ∙ t),
    )
