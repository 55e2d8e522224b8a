-- What the calls that only test, and the one that lists the moves, answer.
use mathlib.Core.Path.{◌≡◌, refl, sym, ap, ◌∙◌}
use Prim.Native.Nat.{ℕ}
use mathlib.Core.List.{[]}
use Rattle.std.specs.Prelude.{Result, Ok, Err}
use Rattle.std.specs.Result.{result_and, result_unwrap_or}
use Rattle.semantics.specs.Plan.{Plan}
use Rattle.semantics.specs.Rules.{plan_refusal}
use Rattle.semantics.specs.Calls.{accepted, Outcome, outcome, unless_refused, check}
use Rattle.plan.specs.declared.refusal.Refusal.{Refusal}
use Rattle.plan.specs.Numbers.{number, checked_number}
use Rattle.plan.proofs.Numbering.{above_0}
use Rattle.engine.specs.declared.answer.Answer.TheVariants.{Accepted}
use Rattle.engine.specs.Answers.{answer_of, reply_of, passing}
use Rattle.engine.proofs.Refusals.{unless_refused_some}

-- where nothing is refused the answer is accepted
pub and_accepted : {A : Type 0} (x : Result A Refusal) → answer_of (result_and x (Ok Accepted)) ≡ passing x
and_accepted (Ok a) = refl
and_accepted (Err r) = refl

pub check_said : {A : Type 0} (p : Plan) (x : Result A Refusal) → checked_number x ≡ plan_refusal p → passing x ≡ check p
unfolding check plan_refusal unless_refused
check_said p (Ok a) e = ap (λ (n : ℕ). (unless_refused n [] (outcome accepted [])).answer) e
check_said p (Err r) e =
    ap (λ (o : Outcome). o.answer) (sym (unless_refused_some (number r) [] (outcome accepted []) (above_0 r)))
    ∙ ap (λ (n : ℕ). (unless_refused n [] (outcome accepted [])).answer) e

-- the moves on offer; 0 where the call is refused
pub bits_said : (x : Result ℕ Refusal) → result_unwrap_or x 0 ≡ (reply_of x).bits
bits_said (Ok m) = refl
bits_said (Err r) = refl
