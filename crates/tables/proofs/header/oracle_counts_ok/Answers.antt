use mathlib.Core.Path.{sym, ◌∙◌}
use Rattle.semantics.proofs.Oracles.{first_count_decides}
use Rattle.tables.proofs.header.oracle_counts_ok.Goals as goal

pub returns-then-added_word-eq0 : goal.returns-then-added_word-eq0
returns-then-added_word-eq0 c = c.state_count_ok-first.ensures ∙ sym (first_count_decides c.args.plan.now (sym c.added_word.ensures ∙ c.if-added_word-eq0.true))
