-- What 01 says, sentence by sentence: its cases and limits and those of 02, the rules of 1, 9 and 20, one move, the ranking, the rules of code, one call and the
-- book's turn; and what 02 says of more oracles (job 1), of the ends of signed 32 bits (job 2), of ranking past the marks (job 3), of a log's entries (job 4) and of a
-- list's (job 6). The checker takes the modules by name, each behind those that it uses, so a definition that is changed is refused first by one of these facts, before
-- the proofs that build on them.
pub use Rattle.semantics.proofs.CasesHold.{cases_hold}
pub use Rattle.semantics.proofs.EndsHold.{ends_hold}
pub use Rattle.semantics.proofs.LimitsHold.{limits_hold}
pub use Rattle.semantics.proofs.RulesInWords.{HeadLawful, head_exactly, TableLawful, table_exactly, table-broken}
pub use Rattle.semantics.proofs.Saturation.{between_ends, saturate_inside, saturate_above, saturate-below, saturate_idempotent, saturate_monotone}
pub use Rattle.semantics.proofs.OneMove.{Uses, uses, uses_lowest, values_after, part-moves, other_stays, new_state_judged, start-judged}
pub use Rattle.semantics.proofs.Oracles.{tables_follow, tested_in_order, not_under_12, used_in_range, unused_in_range, added_begin_at_0, lowest_at_most, lowest_of_some, reaches_exactly, good-verdict, tolerable-verdict}
pub use Rattle.semantics.proofs.Ranking.{outranked_exactly, above_marked, dominated_exactly, commit_enabled, commit_good, commit_above, commit_from, safe-commits, safe-lowest, safe-none}
pub use Rattle.semantics.proofs.RankOrder.{Order, rank_order}
pub use Rattle.semantics.proofs.Maximal.{none-good}
pub use Rattle.semantics.proofs.LawfulImage.{MarkKept, marks_kept, marks_ok_lem}
pub use Rattle.semantics.proofs.CodeRules.{CodeNames, code_names, OnlyRead, only_read}
pub use Rattle.semantics.proofs.RequestsHold.{requests_hold}
pub use Rattle.semantics.proofs.Loads.{tested_after_14, EntryAllowed, allowed_exactly, one_entry_exactly}
pub use Rattle.semantics.proofs.OneCall.{offered_means, good-committed, oracles_restored, OneMarkMore, bad_cancelled, safe-committed, bad_crossed}
pub use Rattle.semantics.proofs.LogWalk.{Cause, right_exactly, cause_exactly, FirstWrong, through_exactly, stops_exactly}
