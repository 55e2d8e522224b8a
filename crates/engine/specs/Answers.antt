-- 01's kind, number and bits of what a call gives.
use Rattle.std.specs.Prelude.{ℕ, Result, Ok, Err}
use Rattle.semantics.specs.Calls as calls
use Rattle.plan.specs.declared.refusal.Refusal.{Refusal}
use Rattle.plan.specs.Numbers.{number}
use Rattle.engine.specs.declared.answer.Answer.{Answer}
use Rattle.engine.specs.declared.answer.Answer.TheVariants.{Accepted, Committed, Cancelled, Stalled, Penned}

-- What is said of what was given, or of the reason why nothing was.
abbrev pub said_or : {A E : Type 0} → (A → calls.Answer) → (E → calls.Answer) → Result A E → calls.Answer
said_or said why (Ok a) = said a
said_or said why (Err e) = why e

-- A refusal with its number, or what is said of what was given.
abbrev pub unless_err : {A : Type 0} → (A → calls.Answer) → Result A Refusal → calls.Answer
unless_err said = said_or said (λ r. calls.refused (number r))

abbrev pub answered : Answer → calls.Answer
answered Accepted = calls.accepted
answered (Committed i) = calls.committed i
answered (Cancelled i) = calls.cancelled i
answered Stalled = calls.stalled
answered Penned = calls.penned

-- An answer, or what is said of the reason why there is none.
abbrev pub answer_or : {E : Type 0} → (E → calls.Answer) → Result Answer E → calls.Answer
answer_or = said_or answered

abbrev pub answer_of : Result Answer Refusal → calls.Answer
answer_of = unless_err answered

-- Of an offered call, which gives the moves.
abbrev pub reply_of : Result ℕ Refusal → calls.Answer
reply_of = unless_err calls.offers

-- Of a test whether a call is refused.
abbrev pub passing : {A : Type 0} → Result A Refusal → calls.Answer
passing = unless_err (λ _. calls.accepted)
