-- A walk over several moves, where one passes from the verdict v on: 2 for a log, 1 for a list.
use Rattle.std.specs.Prelude.{ℕ, suc, cond, List, [], ◌∷◌, Result, Ok, Err}
use Rattle.semantics.specs.Plan.{Plan}
use Rattle.semantics.specs.Move.{Configuration, after}
use Rattle.semantics.specs.Calls.{Answer, accepted, refused}
use Rattle.semantics.specs.Log.{cause_from, passes, wrong}
use Rattle.plan.specs.Numbers.{number}
use Rattle.walks.specs.declared.log.LogError.{LogError}
use Rattle.walks.specs.declared.log.LogError.TheVariants.{Refused, Wrong}
use Rattle.walks.specs.declared.step.Cause.{Cause}
use Rattle.walks.specs.declared.step.Cause.TheVariants.{EndsLow, NoSuchMove, NotEnabled, Outranked}
use Rattle.walks.specs.declared.walk.Stop.{Stop}

-- Where a walk stops: the index, from 0, of the first move that does not pass, each judged after those before it, or the number of moves.
unfoldable pub stops_from : Plan → ℕ → Configuration → List ℕ → ℕ
stops_from p v c [] = 0
stops_from p v c (i ∷ is) = cond (passes p v c i) (suc (stops_from p v (after p c i) is)) 0

-- The cause that fits that move; 0 where each passes.
unfoldable pub stop_cause : Plan → ℕ → Configuration → List ℕ → ℕ
stop_cause p v c [] = 0
stop_cause p v c (i ∷ is) = cond (passes p v c i) (stop_cause p v (after p c i) is) (cause_from p v c i)

-- The number of a cause: 0 where the move's own verdict is too low.
abbrev pub cause_number : Cause → ℕ
cause_number EndsLow = 0
cause_number NoSuchMove = 16
cause_number NotEnabled = 17
cause_number Outranked = 18

-- What a step says of the cause: 0 where the move is made.
abbrev pub cause_said : {A : Type 0} → Result A Cause → ℕ
cause_said (Ok o) = 0
cause_said (Err c) = cause_number c

-- What a walk over n moves says of the index and of the cause: n and 0 where each is made.
abbrev pub index_said : {A : Type 0} → ℕ → Result A Stop → ℕ
index_said n (Ok o) = n
index_said n (Err s) = s.index

abbrev pub stop_said : {A : Type 0} → Result A Stop → ℕ
stop_said (Ok o) = 0
stop_said (Err s) = cause_number s.cause

-- The answer of a log's check.
unfoldable pub log_answer : {A : Type 0} → Result A LogError → Answer
log_answer (Ok a) = accepted
log_answer (Err (Refused r)) = refused (number r)
log_answer (Err (Wrong s)) = wrong (cause_number s.cause) s.index
