-- The worked cases of 02 hold of the definitions: one table, one proof.
use mathlib.Core.Path.{◌≡◌, refl}
use mathlib.Core.Bool.{true}
use Rattle.semantics.specs.Cases.{all_agree}
use Rattle.semantics.specs.Requests.{requests}
use Rattle.semantics.proofs.Meaning.{in_book, in_bytes, in_calls, in_cases, in_code, in_image, in_load, in_log, in_move, in_plan, in_refusal, in_rules, in_run, in_sample, in_signed}

pub requests_hold : all_agree requests ≡ true
unfolding in_book in_bytes in_calls in_cases in_code in_image in_load in_log in_move in_plan in_refusal in_rules in_run in_sample in_signed requests
requests_hold = refl
