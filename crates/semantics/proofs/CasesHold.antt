-- The fourteen proved cases hold of the definitions: one table, one proof.
use mathlib.Core.Path.{◌≡◌, refl}
use mathlib.Core.Bool.{true}
use Rattle.semantics.specs.Cases.{all_agree, cases}
use Rattle.semantics.proofs.Meaning.{in_book, in_bytes, in_calls, in_cases, in_code, in_image, in_move, in_plan, in_refusal, in_rules, in_run, in_sample, in_signed}

pub cases_hold : all_agree cases ≡ true
unfolding in_book in_bytes in_calls in_cases in_code in_image in_move in_plan in_refusal in_rules in_run in_sample in_signed
cases_hold = refl
