-- The laws of the tests in one place: Booleans, comparisons, bounded quantifiers, tables.
pub use Rattle.semantics.proofs.Booleans.{bool_cases, absurd_bool, same_test, not_yes, not_no, and_both, both_and, or_cases, or_left, or_right, or_no, neither, implies-yes, implies-at, implies_or, Each, each, all_of_lem}
pub use Rattle.semantics.proofs.Comparisons.{leb-true, le_leb, leb-false, lt_leb, ltb-true, lt-ltb, ltb-false, le-ltb, eqb-true, eqb_same, eq-eqb, ne_eqb, eqb-false, below_suc}
pub use Rattle.semantics.proofs.Quantifiers.{every-at, every_all, every_fails, every_same, every-none, some_has, some_found, some-none, some_wider, some_same, lowest_le, Lowest, lowest_is, lowest_unique, lowest_same, lowest-none}
pub use Rattle.semantics.proofs.Tables.{length-table, get_or-table, table_is, table_same, part-table, zeros_at, row_end, few_letters}
