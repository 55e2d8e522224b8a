use Rattle.ranks.proofs.RankRows.{rows_ranks}
use Rattle.ranks.proofs.RankWalk.{rows_passed}
use Rattle.ranks.specs.RankRow.{row_ok, Told, RowPassed}
use Rattle.semantics.specs.Plan.{interactions}
use Rattle.semantics.proofs.Basics.{bool_cases, absurd_bool, ltb-true, ltb-false, every_fails}
use Rattle.semantics.proofs.Masks.{bit-zero}
use lib.Dec.{ltb}
use native.Mathlib.Omega.{arith}
use Prim.Native.Nat.{ℕ, ◌<◌}
use mathlib.Core.Path.{◌≡◌, sym, ◌∙◌, subst}
use Rattle.ranks.proofs.order.ranks_ok.Goals as goal

pub loop-i-init : goal.loop-i-init
loop-i-init c = ((λ j h. absurd (omega arith)), λ k t. absurd (absurd_bool t (bit-zero k)))

pub returns-then-not-row_ok : goal.returns-then-not-row_ok
returns-then-not-row_ok c =
    let p = c.args.plan.now in
    sym (sym (rows_ranks p c.requires.interactions≤) ∙ every_fails (interactions p) (row_ok p) c.loop-i.i (omega arith)
    (bool_cases (row_ok p c.loop-i.i) (λ t. absurd_bool (c.row_ok.ensures.1 t) c.if-not-row_ok.true) (λ f. f)))

pub loop-i-preserved : goal.loop-i-preserved
loop-i-preserved c =
    let l = c.loop-i in
    let p = c.args.plan.now in
    let now : RowPassed p l.i = c.row_ok.ensures.0 c.if-not-row_ok.false in (
      (λ j h. bool_cases (ltb j l.i) (λ t. l.invariant.0 j (ltb-true j l.i t)) (λ f. let q : l.i ≡ j = omega (arith, ltb-false j l.i f) in subst (RowPassed p) q now)),
      subst (Told p) (sym c.rank_row-before.ensures) now.told,
    )

pub returns : goal.returns
returns c =
    let l = c.loop-i in
    let p = c.args.plan.now in
    let e : l.i ≡ interactions p = omega arith in
    sym (rows_passed p (λ i h. l.invariant.0 i (subst (λ (n : ℕ). i < n) (sym e) h))) ∙ rows_ranks p c.requires.interactions≤
