-- The check of a log, 02, job 4: each answer exactly. "It is accepted exactly then, whoever wrote it. Else the answer is the index, from 0, of the first wrong
-- entry and the first cause that fits it." `Cause` and `FirstWrong` of LogWalk say the last in words; the refusals stand in RefusalConditions.
use mathlib.Core.Path.{◌≡◌, refl, ap}
use mathlib.Core.Logic.Iff
use mathlib.Core.Logic.{◌↔◌, ◌≢◌}
use Prim.Native.Nat.{ℕ}
use mathlib.Core.Bool.{true}
use mathlib.Core.List.{[]}
use Rattle.semantics.specs.Bytes.{entries, table}
use Rattle.semantics.specs.Plan.{Plan}
use Rattle.semantics.specs.Rules.{plan_rules}
use Rattle.semantics.specs.Move.{good, initial}
use Rattle.semantics.specs.Calls.{Answer, accepted}
use Rattle.semantics.specs.Run.{is_run}
use Rattle.semantics.specs.Log.{Log, wrong, log_rules, check_log, log_index}
use Rattle.semantics.proofs.Basics.{eqb-false}
use Rattle.semantics.proofs.RuleLists.{Kept, kept_append}
use Rattle.semantics.proofs.RefusedUnchanged.{accepted_not_refused, answers_exactly}
use Rattle.semantics.proofs.RefusalConditions.{logging, all_numbered}
use Rattle.semantics.proofs.ExactAnswers.{Answers, refuses_with, accepts_log, finds_wrong, every-answer}
use Rattle.semantics.proofs.LogWalk.{FirstWrong, through_exactly, stops_exactly}

-- accepted: past the numbers, the log is a run from the starting state
pub log_accepted_exactly : (p : Plan) (l : Log) → check_log p l ≡ accepted ↔ Kept (log_rules p l) × (is_run p (initial p) (entries l) ≡ true)
unfolding check_log
log_accepted_exactly p l =
    Iff.trans (answers_exactly (log_rules p l) [] _ (all_numbered p (logging l)) accepted accepted_not_refused)
    (Iff.and Iff.rfl (through_exactly p (initial p) (entries l)))

-- wrong: past the numbers, entry k is the first wrong one, and n the first cause that fits it
pub log_wrong_exactly : (p : Plan) (l : Log) (n k : ℕ)
    → check_log p l ≡ wrong n k ↔ Kept (log_rules p l) × FirstWrong p (initial p) (entries l) k n
unfolding check_log
log_wrong_exactly p l n k =
    Iff.trans (answers_exactly (log_rules p l) [] _ (all_numbered p (logging l)) (wrong n k) (eqb-false 6 5 refl))
    (Iff.and Iff.rfl (stops_exactly p (initial p) (entries l) k n))

-- the second call gives that entry's index
pub log_index_lem : (p : Plan) (l : Log) (n k : ℕ) → check_log p l ≡ wrong n k → log_index p l ≡ k
unfolding log_index
log_index_lem p l n k e = ap (λ (a : Answer). a.bits) e

-- and 0 where there is none
pub log_index_none : (p : Plan) (l : Log) → (check_log p l).kind ≢ 6 → log_index p l ≡ 0
unfolding log_index
log_index_none p l = go (every-answer p (logging l))
  where
    go : {a : Answer} → Answers p (logging l) a → a.kind ≢ 6 → a.bits ≡ 0
    go (refuses_with n m) f = refl
    go accepts_log f = refl
    go (finds_wrong n k m h) f = absurd (f refl)

-- "Past 15, empty logs are accepted."
pub empty_log : (p : Plan) → check_log p [] ≡ accepted ↔ Kept (plan_rules p) × (good p (initial p) ≡ true)
unfolding log_rules
empty_log p =
    Iff.trans (log_accepted_exactly p [])
    ((λ (h, r). let (k, (_, (g, _))) = (kept_append (plan_rules p) _).0 h in (k, g)), (λ (k, g). ((kept_append (plan_rules p) _).1 (k, (refl, (g, tt))), empty_run p)))
  where
    empty_run : (p : Plan) → is_run p (initial p) (entries []) ≡ true
    empty_run p = unfold entries table is_run in refl
