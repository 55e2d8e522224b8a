-- 01's number of each refusal.
use Rattle.std.specs.Prelude.{ℕ, Result, Ok, Err}
use Rattle.plan.specs.declared.refusal.Refusal.{Refusal}
use Rattle.plan.specs.declared.refusal.Refusal.TheVariants.{BadHead, BadCount, BadLayout, BadComponent, BadVariable, BadTransition, BadInteraction, BadRank, BadOracle, BadCode, BadLength, OtherPlan}
use Rattle.plan.specs.declared.refusal.Refusal.TheVariants.{BadState, FalseMark, BadStart, NoSuchMove, NotEnabled, Outranked, Marked, BadAdded, OddLog, BadList, BadRoster}

abbrev pub number : Refusal → ℕ
number BadHead = 1
number BadCount = 2
number BadLayout = 3
number BadComponent = 4
number BadVariable = 5
number BadTransition = 6
number BadInteraction = 7
number BadRank = 8
number BadOracle = 9
number BadCode = 10
number BadLength = 11
number OtherPlan = 12
number BadState = 13
number FalseMark = 14
number BadStart = 15
number NoSuchMove = 16
number NotEnabled = 17
number Outranked = 18
number Marked = 19
number BadAdded = 20
number OddLog = 21
number BadList = 22
number BadRoster = 23

-- The number of what is refused; 0 where nothing is.
abbrev pub checked_number : {A : Type 0} → Result A Refusal → ℕ
checked_number (Ok a) = 0
checked_number (Err r) = number r
