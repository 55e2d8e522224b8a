use mathlib.Core.Path.{◌≡◌, refl, sym, ◌∙◌}
use mathlib.Core.List.{◌++◌}
use Rattle.std.proofs.lemmas.Result.{err_from_is_err_and}
use Rattle.semantics.specs.Plan.{Plan}
use Rattle.semantics.specs.Refusal.{refusal}
use Rattle.semantics.specs.Rules.{header_rules, table_rules, code_rules, plan_rules, plan_refusal}
use Rattle.semantics.proofs.Refusing.{numbered, refused-first, refusal-after, none-refused}
use Rattle.layout.proofs.Sections.{laid_header}
use Rattle.plan.proofs.Numbering.{above_0}
use Rattle.plan.proofs.check.Goals as goal

-- a plan is refused as what is left of its rules
past-header : (p : Plan) → 0 ≡ refusal (header_rules p) → plan_refusal p ≡ refusal (table_rules p ++ code_rules p)
unfolding plan_refusal plan_rules numbered
past-header p e = refusal-after (header_rules p) (table_rules p ++ code_rules p) (none-refused (header_rules p) refl (sym e))

past-tables : (p : Plan) → 0 ≡ refusal (header_rules p) → 0 ≡ refusal (table_rules p) → plan_refusal p ≡ refusal (code_rules p)
unfolding numbered
past-tables p e f = past-header p e ∙ refusal-after (table_rules p) (code_rules p) (none-refused (table_rules p) refl (sym f))

pub returns-in_err-header_refusal : goal.returns-in_err-header_refusal
unfolding plan_refusal plan_rules
returns-in_err-header_refusal c =
    let p = c.args.plan.now in
    let (_, is, from) = err_from_is_err_and c.from_residual.result c.from_residual.ensures.1 in
    let n = c.in_err-header_refusal in
    rw (is, from) (sym (refused-first (header_rules p) (table_rules p ++ code_rules p) _ (sym n.ensures) (above_0 n.field-0.0)))

pub table_refusal-requires : goal.table_refusal-requires
table_refusal-requires c = laid_header _ (sym c.in_ok-header_refusal.ensures)

pub returns-in_err-table_refusal : goal.returns-in_err-table_refusal
returns-in_err-table_refusal c =
    let p = c.args.plan.now in
    let (_, is, from) = err_from_is_err_and c.from_residual-in_err-table_refusal.result c.from_residual-in_err-table_refusal.ensures.1 in
    let n = c.in_err-table_refusal in
    rw (is, from) (sym (past-header p c.in_ok-header_refusal.ensures ∙ refused-first (table_rules p) (code_rules p) _ (sym n.ensures) (above_0 n.field-0.0)))

pub code_refusal-requires : goal.code_refusal-requires
code_refusal-requires c = (laid_header _ (sym c.in_ok-header_refusal.ensures), sym c.in_ok-table_refusal.ensures)

pub returns : goal.returns
returns c = c.code_refusal.ensures ∙ sym (past-tables _ c.in_ok-header_refusal.ensures c.in_ok-table_refusal.ensures)
