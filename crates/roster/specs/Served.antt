-- The answer of each case of what a turn gives.
use Rattle.std.specs.Prelude.{ℕ, Option, Some, None, Result, Ok, Err}
use Rattle.plan.specs.declared.refusal.Refusal.{Refusal}
use Rattle.plan.specs.Numbers.{number}
use Rattle.engine.specs.Answers.{answer_of}
use Rattle.roster.specs.declared.serve.Served.{Served}
use Rattle.roster.specs.Turn.{TurnAnswer, turned_away, idle, served}

unfoldable pub turn_answer : Result (Option Served) Refusal → TurnAnswer
turn_answer (Ok (Some x)) = served x.lane (answer_of x.answer)
turn_answer (Ok None) = idle
turn_answer (Err r) = turned_away (number r)

-- The lane whose turn it was.
unfoldable pub turned : TurnAnswer → Option ℕ
turned (turned_away n) = None
turned idle = None
turned (served i a) = Some i
