-- The calls by the published rules, on any plan and image: where no list is committed they are a trace of the engine's steps, and so of the composition (002 definition
-- 16). From an accepted start on, what they commit is then a run under the priority rule over commits, which stays in the property (corollary 1), and nothing of such
-- runs is lost; with lists (02, job 6) it is still a run of the composite system, in the property after each commit.
use mathlib.Core.Path.{◌≡◌, refl, sym, ap, ◌∙◌, subst}
use mathlib.Core.Logic.{inl, inr}
use Prim.Native.Nat.{ℕ}
use mathlib.Core.Bool.{Bool, true, false, cond}
use mathlib.Core.List.{List, [], ◌∷◌, ◌++◌}
use lib.ListN.{length}
use lib.Dec.{eqb}
use Rattle.semantics.specs.Bytes.{entries}
use Rattle.semantics.specs.Plan.{Plan}
use Rattle.semantics.specs.Move.{Configuration, good, initial, replay}
use Rattle.semantics.specs.Image.{Image, configuration_of}
use Rattle.semantics.specs.Calls.{Answer, committed, cancelled, refused, Outcome, start, Call, offered, try, settle, list, called, called_all}
use Rattle.semantics.specs.Run.{is_run, exchanges, commits, Commit, single, whole, commit_of, commits_in, committed_by, one_by_one, moves_of, committed_moves, every_state, left_by}
use Rattle.semantics.specs.Book.{blank, lane}
use Rattle.bip.specs.Steps.{Chosen, Path, Trace, still, onward, end_of, CompositeRun}
use Rattle.bip.specs.Monitor.{Allows, Denotes, Label, did, ε, CancelStep, RankedCommit, NoneAbove, EngineStep, does, undoes, Begins, erased, stutter_free, interactions_of, AllowedRun, EngineRun}
use Rattle.bip.specs.Transaction.{Transaction}
use Rattle.semantics.proofs.Basics.{absurd_bool, eqb-false}
use Rattle.semantics.proofs.RefusedUnchanged.{same_not_refused, refused-unchanged}
use Rattle.semantics.proofs.RefusalConditions.{calling}
use Rattle.semantics.proofs.ExactAnswers.{Answers, refuses_with, offers-bits, commits-tried, cancels_tried, commits-lowest, stalls, pens, commits-list, stops_list, every-answer, bytes_after, bytes_after_lem}
use Rattle.semantics.proofs.BookStep.{held-lane}
use Rattle.semantics.proofs.Demand3.{Starts, start_plan, start-good, start_is, blank_lawful}
use Rattle.semantics.proofs.CommittedRun.{committed-run, committed-leads, committed_run_exactly}
use Rattle.semantics.proofs.RunsByTries.{Committed, run_tries, runs_by_tries}
use Rattle.semantics.proofs.Sound.{Sound, sound_initial}
use Rattle.semantics.proofs.AcceptedPlan.{accepted_plan}
use Rattle.bip.proofs.Events.{good_allows, initial_begins}
use Rattle.bip.proofs.Listing.{list_is, CommitIs, history_path, history_composite, history_shown, history_denotes}
use Rattle.bip.proofs.Trying.{try_is}
use Rattle.bip.proofs.Paths.{path_split, path_part}
use Rattle.bip.proofs.Priorities.{ranked_steps}
use Rattle.bip.proofs.Runs.{run_path, run_exactly, commits-allowed}
use Rattle.bip.proofs.Settling.{settle_is}
use Rattle.bip.proofs.Transactions.{Judged}

-- ---- one call

-- the answer cancels a try. A cancelled list has gone back itself, and shows nothing
unfoldable pub takes_back : Call → Answer → Bool
takes_back (try i) a = eqb a.kind 2
takes_back offered a = false
takes_back settle a = false
takes_back (list l) a = false

-- what a call k and its outcome on an image that holds the configuration c are, of the system and its monitor: a commit of rule 2 or a step of rule 3, with no commit
-- above it; a transaction; or nothing to be seen with the configuration as it was
pub data CallIs (p : Plan) (c : Configuration) (k : Call) (o : Outcome) : Type 0 where
  commits_it : (i : ℕ) → o.answer ≡ committed i → commit_of k (committed i) ≡ single i → RankedCommit p c i (configuration_of o.image) → CallIs p c k o
  cancels_it : (i : ℕ) → o.answer ≡ cancelled i → takes_back k (cancelled i) ≡ true → CancelStep p c i (configuration_of o.image) → NoneAbove p c i → CallIs p c k o
  commits_all : (is : List ℕ) → o.answer ≡ committed (length is) → commit_of k (committed (length is)) ≡ whole is
      → Transaction p (length is) c is (configuration_of o.image) → CallIs p c k o
  stays : commits o.answer ≡ false → takes_back k o.answer ≡ false → configuration_of o.image ≡ c → CallIs p c k o

no_try : (k : Call) (n : ℕ) → takes_back k (refused n) ≡ false
unfolding takes_back
no_try offered n = refl
no_try (try i) n = refl
no_try settle n = refl
no_try (list l) n = refl

module _ (p : Plan) (b : Image) where
  quiet : (k : Call) (a : Answer) → (called p b k).answer ≡ a → commits a ≡ false → takes_back k a ≡ false → configuration_of (called p b k).image ≡ configuration_of b
      → CallIs p (configuration_of b) k (called p b k)
  quiet k a e none back same = stays (rw e none) (rw e back) same

  answer_is : (k : Call) (a : Answer) → (called p b k).answer ≡ a → Answers p (calling b k) a → CallIs p (configuration_of b) k (called p b k)
  unfolding takes_back commit_of
  answer_is k a e (refuses_with n m) = quiet k a e refl (no_try k n) (ap configuration_of (refused-unchanged p b k n e))
  answer_is k a e (offers-bits m) = quiet k a e refl refl (ap configuration_of (bytes_after_lem p b offered ∙ unfold bytes_after in refl))
  answer_is k a e (commits-tried {i = i} l) = commits_it i e refl ((try_is p b i (same_not_refused e (eqb-false 1 5 refl))).leads e)
  answer_is k a e (cancels_tried {i = i} l) =
      let t = try_is p b i (same_not_refused e (eqb-false 2 5 refl)) in cancels_it i e refl (t.takes_back_lem e) (t.none_above e)
  answer_is k a e (commits-lowest i l) = commits_it i e refl ((settle_is p b (same_not_refused e (eqb-false 1 5 refl))).leads i e)
  answer_is k a e stalls = quiet k a e refl refl ((settle_is p b (same_not_refused e (eqb-false 3 5 refl))).restores_whole (inl e))
  answer_is k a e pens = quiet k a e refl refl ((settle_is p b (same_not_refused e (eqb-false 4 5 refl))).restores_whole (inr e))
  answer_is k a e (commits-list {l = l}) = commits_all (entries l) e refl ((list_is p b l (same_not_refused e (eqb-false 1 5 refl))).leads (length (entries l)) e)
  answer_is k a e (stops_list {l = l} n m) =
      quiet k a e refl refl (ap configuration_of ((list_is p b l (same_not_refused e (eqb-false 2 5 refl))).restores_whole n e))

  -- 002 definition 16, and 02, job 6: every call, refused or not, on any image
  pub call_is : (k : Call) → CallIs p (configuration_of b) k (called p b k)
  call_is k = answer_is k (called p b k).answer refl (every-answer p (calling b k))

-- ---- calls that commit no list

-- what calls show, each with the configuration that its image holds: an interaction done for each commit, ε for each cancelled try, nothing for any other
unfoldable pub seen : Plan → Image → List Call → List (Label × Configuration)
seen p b [] = []
seen p b (k ∷ ks) =
    let o = called p b k in
    let rest = seen p o.image ks in
    cond (commits o.answer) ((did o.answer.number, configuration_of o.image) ∷ rest)
    (cond (takes_back k o.answer) ((ε, configuration_of o.image) ∷ rest) rest)

-- what the calls cs on the image b are of the composition
pub record IsTrace (p : Plan) (b : Image) (cs : List Call) : Type 0 where
  -- what they show is a trace from the configuration that b holds
  pub trace : Trace (EngineStep p) (configuration_of b) (seen p b cs)
  -- which ends in the one that the last image holds
  pub ends : end_of (configuration_of b) (seen p b cs) ≡ configuration_of (left_by b (called_all p b cs))
  -- and its interactions are the moves committed
  pub moves : interactions_of (stutter_free (erased (seen p b cs))) ≡ committed_moves (committed_by p b cs)

module _ (p : Plan) where
  one_more : (b : Image) (k : Call) (cs : List Call) → CallIs p (configuration_of b) k (called p b k) → one_by_one (committed_by p b (k ∷ cs)) ≡ true
      → (one_by_one (committed_by p (called p b k).image cs) ≡ true → IsTrace p (called p b k).image cs) → IsTrace p b (k ∷ cs)
  unfolding seen end_of left_by erased stutter_free called_all exchanges commits_in one_by_one committed_moves moves_of
  one_more b k cs (commits_it i e w m) one rest =
      let t = rest (rw (e, w) at one) in
      record { trace = rw e (onward (does m) t.trace); ends = rw e t.ends; moves = rw (e, w) (ap (i ∷◌) t.moves) }
  one_more b k cs (cancels_it i e w m n) one rest =
      let t = rest (rw e at one) in
      record { trace = rw (e, w) (onward (undoes m n) t.trace); ends = rw (e, w) t.ends; moves = rw (e, w) t.moves }
  one_more b k cs (commits_all is e w t) one rest = absurd_bool (rw (e, w) at one) refl
  one_more b k cs (stays c x e) one rest =
      let t = rest (rw c at one) in
      record {
        trace = rw (c, x, ← e) t.trace;
        ends = rw (c, x) (ap (λ (d : Configuration). end_of d (seen p (called p b k).image cs)) (sym e) ∙ t.ends);
        moves = rw (c, x) t.moves;
      }

  -- 002 definition 16: calls on any image that commit no list are a trace of the engine's steps, which are steps of the system composed with its monitor
  pub calls_trace : (b : Image) (cs : List Call) → one_by_one (committed_by p b cs) ≡ true → IsTrace p b cs
  calls_trace b [] one =
      unfold seen end_of left_by erased stutter_free called_all exchanges commits_in committed_moves in (record { trace = still; ends = refl; moves = refl })
  calls_trace b (k ∷ cs) one = one_more b k cs (call_is p b k) one (calls_trace (called p b k).image cs)

-- ---- from an accepted start on

module _ (p : Plan) (b : Image) (s : Starts p b) where
  abbrev started : Image
  started = (start p b).image

  start_configuration : configuration_of started ≡ initial p
  start_configuration = ap (λ (o : Outcome). configuration_of o.image) (start_is p b s) ∙ held-lane p (start_plan p b s) blank (blank_lawful p b s) ∙ unfold lane replay in refl

  -- 000 section 5.5, remark 2: an accepted start is a judged beginning
  pub start_begins : Begins p (configuration_of (start p b).image)
  start_begins = subst (Begins p) (sym start_configuration) (initial_begins p (start_plan p b s))

  start_allows : Allows p (configuration_of started).oracles
  start_allows =
      subst (λ (c : Configuration). Allows p c.oracles) (sym start_configuration)
      ((good_allows p (start_plan p b s) (initial p) (sound_initial p (accepted_plan p (start_plan p b s))).in_range).0 (start-good p b s))

  -- where every state on the way is good, lists or not, the moves that calls commit are a run under the priority rule over commits, to the configuration that the
  -- image holds
  pub committed_trace : (cs : List Call) → every_state (good p) p (initial p) (committed_moves (committed_by p (start p b).image cs)) ≡ true
      → EngineRun p (committed_moves (committed_by p (start p b).image cs)) (configuration_of (left_by (start p b).image (called_all p (start p b).image cs)))
  committed_trace cs g = (run_exactly p (start_plan p b s) _ _).1 ((committed_run_exactly p b s cs).1 g, committed-leads p b s cs)

  -- 002 corollary 1 for this engine: it is a run of the system that stays in Π throughout
  pub committed-allowed : (cs : List Call) → every_state (good p) p (initial p) (committed_moves (committed_by p (start p b).image cs)) ≡ true
      → AllowedRun p (Chosen p) (configuration_of (start p b).image).state start_begins.first_event (committed_moves (committed_by p (start p b).image cs))
      (configuration_of (left_by (start p b).image (called_all p (start p b).image cs))).state
  committed-allowed cs g =
      let ok = start_plan p b s in
      let c : Configuration = configuration_of started in
      let is : List ℕ = committed_moves (committed_by p started cs) in
      let sound : Sound p c = subst (Sound p) (sym start_configuration) (sound_initial p (accepted_plan p ok)) in
      let run : is_run p c is ≡ true = subst (λ (x : Configuration). is_run p x is ≡ true) (sym start_configuration) ((committed_run_exactly p b s cs).1 g) in
      let ends : configuration_of (left_by started (called_all p started cs)) ≡ replay p c is
      = committed-leads p b s cs ∙ ap (λ (x : Configuration). replay p x is) (sym start_configuration) in
      let path = path_part (λ (x : Configuration). x) (λ x i d r. ranked_steps r) (run_path p ok c is sound run) in
      rw ends ((commits-allowed p ok c sound start_begins start_allows is (replay p c is)).0 path).0

  -- 02, job 6: what any calls commit is a sequence of moves under that rule and of transactions, to the configuration that the image holds
  pub committed_history : (cs : List Call)
      → Path (CommitIs p) (configuration_of (start p b).image) (committed_by p (start p b).image cs)
      (configuration_of (left_by (start p b).image (called_all p (start p b).image cs)))
  committed_history cs =
      let ok = start_plan p b s in
      rw (start_configuration, committed-leads p b s cs)
      (history_path p ok (initial p) (committed_by p started cs) (sound_initial p (accepted_plan p ok)) (committed-run p b s cs))

  -- so any calls commit a run of the composite system from its initial state, to the state that the image holds
  pub committed_is_run : (cs : List Call)
      → CompositeRun p (committed_moves (committed_by p (start p b).image cs)) (configuration_of (left_by (start p b).image (called_all p (start p b).image cs))).state
  committed_is_run cs =
      record { first = (configuration_of started).state; begins = start_begins.initial-state; steps = history_composite (committed_history cs) }

  -- 002 corollary 1 with lists (02, job 6): after each commit, of a move or a list, the events so far, the starting one first, are in the property
  pub committed_denotes : (cs : List Call) (ms ns : List Commit) → committed_by p (start p b).image cs ≡ ms ++ ns
      → (d : Configuration) × (j : Judged p (length (committed_moves ms)) (configuration_of (start p b).image) (committed_moves ms) d)
      × Denotes p (start_begins.first_event ∷ j.events)
  committed_denotes cs ms ns e =
      let end : Configuration = configuration_of (left_by started (called_all p started cs)) in
      let (d, r, _) = path_split ms ns (subst (λ (ks : List Commit). Path (CommitIs p) (configuration_of started) ks end) e (committed_history cs)) in
      (d, history_shown r, history_denotes start_begins start_allows r)

  -- and nothing is lost: every run of the engine is committed by tries, those above each move before it, which leave an image of its last configuration
  pub nothing_lost : (is : List ℕ) (c : Configuration) → EngineRun p is c
      → Committed p is (start p b).image (run_tries p is) (called_all p (start p b).image (run_tries p is))
      × (configuration_of (left_by (start p b).image (called_all p (start p b).image (run_tries p is))) ≡ c)
  nothing_lost is c r =
      let (run, ends) = (run_exactly p (start_plan p b s) is c).0 r in
      let t = runs_by_tries p b s is run in
      (t, committed-leads p b s (run_tries p is) ∙ ap (replay p (initial p)) t.moves ∙ sym ends)
