-- The check of a simulator's log (02, job 4) by the published rules: what is accepted are the runs of the priority rule over the monitor's commits, and their events
-- stay in the oracles' property.
use mathlib.Core.Path.{◌≡◌, refl}
use mathlib.Core.Logic.{◌↔◌}
use mathlib.Core.Bool.{true}
use Rattle.semantics.specs.Plan.{Plan}
use Rattle.semantics.specs.Rules.{plan_rules, plan_refusal}
use Rattle.semantics.specs.Move.{Configuration, good, initial, replay}
use Rattle.semantics.specs.Calls.{accepted}
use Rattle.semantics.specs.Bytes.{entries}
use Rattle.semantics.specs.Log.{Log, log_rules, check_log}
use Rattle.semantics.proofs.Refusing.{all_kept}
use Rattle.semantics.proofs.RuleLists.{Kept, kept_append}
use Rattle.semantics.proofs.AcceptedPlan.{accepted_plan}
use Rattle.semantics.proofs.Sound.{sound_initial}
use Rattle.semantics.proofs.LogExactly.{log_accepted_exactly}
use Rattle.bip.specs.Steps.{Chosen}
use Rattle.bip.specs.Monitor.{AllowedRun, EngineRun}
use Rattle.bip.proofs.Events.{good_allows, initial_begins}
use Rattle.bip.proofs.Paths.{path_part}
use Rattle.bip.proofs.Priorities.{ranked_steps}
use Rattle.bip.proofs.Runs.{run_path, run_exactly, commits-allowed}

module _ (p : Plan) (l : Log) (h : Kept (log_rules p l)) where
  -- past the numbers the plan is accepted and its starting state is good
  pub log_plan : plan_refusal p ≡ 0
  unfolding plan_refusal log_rules
  log_plan = all_kept (plan_rules p) ((kept_append (plan_rules p) _).0 h).0

  log-good : good p (initial p) ≡ true
  unfolding log_rules
  log-good = let (_, (_, (g, _))) = (kept_append (plan_rules p) _).0 h in g

  -- a log is accepted exactly where its entries are a run of the engine's rule, from a judged beginning
  pub log_run_exactly : check_log p l ≡ accepted ↔ ((c : Configuration) × EngineRun p (entries l) c)
  log_run_exactly = (
    (λ e. (replay p (initial p) (entries l), (run_exactly p log_plan (entries l) _).1 (((log_accepted_exactly p l).0 e).1, refl))),
    (λ (c, r). (log_accepted_exactly p l).1 (h, ((run_exactly p log_plan (entries l) c).0 r).0)),
  )

  -- 002 corollary 1: it is a run of the system whose events, the starting one first, stay in the property
  pub log-allowed : check_log p l ≡ accepted
      → AllowedRun p (Chosen p) (initial p).state (initial_begins p log_plan).first_event (entries l) (replay p (initial p) (entries l)).state
  log-allowed e =
      let sound = sound_initial p (accepted_plan p log_plan) in
      let commits = path_part (λ (c : Configuration). c) (λ c i d r. ranked_steps r) (run_path p log_plan (initial p) (entries l) sound ((log_accepted_exactly p l).0 e).1) in
      ((commits-allowed p log_plan (initial p) sound (initial_begins p log_plan) ((good_allows p log_plan (initial p) sound.in_range).0 log-good) (entries l) _).0 commits).0
