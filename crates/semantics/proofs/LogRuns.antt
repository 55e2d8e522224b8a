-- The check of a log and demand 3: what any calls commit from an accepted start is accepted as a log exactly where every state on the way is good, and every accepted log
-- is committed by a list of tries.
use mathlib.Core.Path.{◌≡◌, sym, ap, ◌∙◌, subst}
use mathlib.Core.Logic.{◌↔◌}
use Prim.Native.Nat.{ℕ, zero, suc, ◌%◌, ◌<◌}
use native.Mathlib.Omega.{arith}
use mathlib.Core.Bool.{true}
use mathlib.Core.List.{List, [], ◌∷◌, ◌++◌}
use lib.ListN.{length, get_or}
use Rattle.semantics.specs.Plan.{Plan, interactions}
use Rattle.semantics.specs.Rules.{plan_rules, plan_refusal}
use Rattle.semantics.specs.Move.{Configuration, after, good, replay, initial}
use Rattle.semantics.specs.Image.{Image, image_length, length_rule}
use Rattle.semantics.specs.Calls.{accepted, start_rules, start, Call, called_all}
use Rattle.semantics.specs.Run.{is_run, Commit, single, whole, committed_by, moves_of, committed_moves, is_history, every_state}
use Rattle.semantics.specs.Load.{stops_at}
use Rattle.semantics.specs.Bytes.{entries}
use Rattle.semantics.specs.Log.{Log, log_of, log_rules, check_log}
use Rattle.semantics.proofs.Basics.{each, ltb-true, eq-eqb, eqb-true}
use Rattle.semantics.proofs.Refusing.{none-refused}
use Rattle.semantics.proofs.RuleLists.{Kept, kept_append}
use Rattle.semantics.proofs.AcceptedPlan.{accepted_plan, counts_of_lem}
use Rattle.semantics.proofs.RefusalConditions.{checking, all_numbered}
use Rattle.semantics.proofs.ExactAnswers.{accepted_exactly}
use Rattle.semantics.proofs.Loads.{allowed_exactly, first-allowed, completes_all}
use Rattle.semantics.proofs.Demand3.{Starts, start_plan, start-good}
use Rattle.semantics.proofs.CommittedRun.{run-good, committed-run, committed_run_exactly}
use Rattle.semantics.proofs.RunsByTries.{Committed, run_tries, runs_by_tries}
use Rattle.semantics.proofs.LogEntries.{log_long, entries_back}
use Rattle.semantics.proofs.LogExactly.{log_accepted_exactly}

-- ---- moves fit into 16 bits

-- each number of the list does
abbrev Small : List ℕ → Type 0
Small is = (k : ℕ) → get_or is k 0 < 65536

none_small : Small []
none_small k = omega arith

small_more : (p : Plan) → plan_refusal p ≡ 0 → (i : ℕ) (is : List ℕ) → i < interactions p → Small is → Small (i ∷ is)
small_more p e i is l f zero = omega (arith, (counts_of_lem p (accepted_plan p e).counts).interactions≤)
small_more p e i is l f (suc k) = f k

-- those of a run
run_small : (p : Plan) → plan_refusal p ≡ 0 → (c : Configuration) (is : List ℕ) → is_run p c is ≡ true → Small is
unfolding is_run
run_small p e c [] r = none_small
run_small p e c (i ∷ is) r = let (l, (_, (rest, _))) = each _ r in small_more p e i is (ltb-true _ _ l) (run_small p e (after p c i) is rest)

-- of a list that does not stop, before others that do
list_small : (p : Plan) → plan_refusal p ≡ 0 → (c : Configuration) (is js : List ℕ) → stops_at p c is ≡ length is → Small js → Small (is ++ js)
list_small p e c [] js n f = f
list_small p e c (i ∷ is) js n f =
    let (a, rest) = first-allowed p c i is n in small_more p e i (is ++ js) ((allowed_exactly p c i).0 a).number< (list_small p e (after p c i) is js rest f)

-- and of a history
history_small : (p : Plan) → plan_refusal p ≡ 0 → (c : Configuration) (ms : List Commit) → is_history p c ms ≡ true → Small (committed_moves ms)
unfolding is_history committed_moves moves_of
history_small p e c [] h = none_small
history_small p e c (single i ∷ ms) h =
    let (l, (_, (rest, _))) = each _ h in small_more p e i (committed_moves ms) (ltb-true _ _ l) (history_small p e (after p c i) ms rest)
history_small p e c (whole is ∷ ms) h =
    let (m, (rest, _)) = each _ h in list_small p e c is (committed_moves ms) (completes_all p c is m) (history_small p e (replay p c is) ms rest)

-- ---- logs of what was committed

-- where a lane was started the numbers of a log are its own 21 alone
started_rules : (p : Plan) (b : Image) (l : Log) → Starts p b → length l % 2 ≡ 0 → Kept (log_rules p l)
unfolding log_rules plan_refusal
started_rules p b l s e =
    (kept_append (plan_rules p) _).1 (none-refused (plan_rules p) (all_numbered p checking) (start_plan p b s), (eq-eqb (length l % 2) 0 e, (start-good p b s, tt)))

-- a run written as a log is accepted
run-accepted : (p : Plan) (b : Image) → Starts p b → (is : List ℕ) → is_run p (initial p) is ≡ true → check_log p (log_of is) ≡ accepted
run-accepted p b s is r =
    let even : length (log_of is) % 2 ≡ 0 = ap (◌% 2) (log_long is) ∙ omega arith in
    (log_accepted_exactly p (log_of is)).1
    (started_rules p b (log_of is) s even, rw (entries_back is (run_small p (start_plan p b s) (initial p) is r)) r)

-- The committed moves of any sequence of calls from an accepted start, written as a log, are accepted exactly where every state on the way is good: where no list passed
-- through verdict 1, which is not good in a log (02, job 6).
pub committed-log : (p : Plan) (b : Image) → Starts p b → (cs : List Call)
    → check_log p (log_of (committed_moves (committed_by p (start p b).image cs))) ≡ accepted
    ↔ every_state (good p) p (initial p) (committed_moves (committed_by p (start p b).image cs)) ≡ true
committed-log p b s cs =
    let is : List ℕ = committed_moves (committed_by p (start p b).image cs) in (
      (λ e. run-good p (initial p) (start-good p b s) is (rw (entries_back is (history_small p (start_plan p b s) (initial p) (committed_by p (start p b).image cs) (committed-run p b s cs))) at ((log_accepted_exactly p (log_of is)).0 e).1)),
      (λ g. run-accepted p b s is ((committed_run_exactly p b s cs).1 g)),
    )

-- Where a log is accepted every image of 312 bytes can be started.
pub log_starts : (p : Plan) (l : Log) → check_log p l ≡ accepted → (b : Image) → length b ≡ image_length → Starts p b
unfolding log_rules start_rules length_rule
log_starts p l e b w =
    let (h, _) = (log_accepted_exactly p l).0 e in
    let (k, (_, (g, _))) = (kept_append (plan_rules p) _).0 h in
    (accepted_exactly p b).1.1 ((kept_append (plan_rules p) _).1 (k, (eq-eqb (length b) image_length w, (g, tt))))

-- Every accepted log is committed, exactly, by a list of tries, on any such image.
pub log-committed : (p : Plan) (l : Log) → check_log p l ≡ accepted → (b : Image) → length b ≡ image_length
    → Committed p (entries l) (start p b).image (run_tries p (entries l)) (called_all p (start p b).image (run_tries p (entries l)))
log-committed p l e b w = runs_by_tries p b (log_starts p l e b w) (entries l) ((log_accepted_exactly p l).0 e).1

-- So on a lane that was started a log of whole entries is accepted exactly where some calls commit its entries and every state on the way is good.
pub log_by_calls : (p : Plan) (b : Image) → Starts p b → (l : Log)
    → check_log p l ≡ accepted
    ↔ (length l % 2 ≡ 0)
    × (((cs : List Call) × (committed_moves (committed_by p (start p b).image cs) ≡ entries l)) × (every_state (good p) p (initial p) (entries l) ≡ true))
unfolding log_rules
log_by_calls p b s l = (
  (λ e.
      let (h, r) = (log_accepted_exactly p l).0 e in
      let (_, (even, _)) = (kept_append (plan_rules p) _).0 h in
      (eqb-true _ 0 even, ((run_tries p (entries l), (runs_by_tries p b s (entries l) r).moves), run-good p (initial p) (start-good p b s) (entries l) r))),
  (λ (even, ((cs, e), g)).
      let r = (committed_run_exactly p b s cs).1 (subst (λ (is : List ℕ). every_state (good p) p (initial p) is ≡ true) (sym e) g) in
      (log_accepted_exactly p l).1 (started_rules p b l s even, subst (λ (is : List ℕ). is_run p (initial p) is ≡ true) e r)),
)
