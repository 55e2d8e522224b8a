use mathlib.Core.Path.{refl, sym, ◌∙◌}
use native.Mathlib.Omega.{arith}
use lib.Dec.{eqb}
use Rattle.semantics.specs.Rules.{layout_ok}
use Rattle.semantics.specs.Plan.{section, section_start}
use Rattle.semantics.specs.Bytes.{every}
use Rattle.semantics.proofs.AcceptedPlan.{counts_of_lem}
use Rattle.semantics.proofs.Basics.{ne_eqb, every_fails}
use Rattle.words.proofs.TestLaws.{first_fails}
use Rattle.tables.proofs.header.layout_ok.Goals as goal

pub loop-n-init : goal.loop-n-init
unfolding every section_start
loop-n-init c = (refl, omega arith, refl)

pub returns-then-section-at : goal.returns-then-section-at
unfolding layout_ok
returns-then-section-at c =
    let p = c.args.plan.now in
    let l = c.loop-n in
    let n = l.n in
    let (starts, _, _) = l.invariant in
    sym (first_fails _ _ (every_fails 8 (λ k. eqb (section p k) (section_start p k)) n c.loop-n-test.true
    (ne_eqb _ _ (λ e. c.if-section-at.true (c.section.ensures.0 ∙ e ∙ sym starts)))))

pub section_size-at-requires : goal.section_size-at-requires
section_size-at-requires c = (c.requires.0, (counts_of_lem _ c.requires.1).propositions≤, c.loop-n-test.true)
