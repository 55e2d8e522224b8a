-- The runs of 01, as 02's job 3 ranks them, are the runs of the priority rule over the monitor's commits (001 definitions 8 and 12); and commits are the steps
-- whose events stay in the oracles' property (002 corollary 1).
use mathlib.Core.Path.{◌≡◌, refl, sym, ap, ◌∙◌, subst}
use mathlib.Core.Logic.{◌↔◌, inl, inr}
use Prim.Native.Nat.{ℕ, ◌<◌}
use mathlib.Core.Bool.{true}
use mathlib.Core.List.{List, [], ◌∷◌, ◌++◌, append_assoc}
use Rattle.semantics.specs.Plan.{Plan, interactions, start_states}
use Rattle.semantics.specs.Code.{State}
use Rattle.semantics.specs.Rules.{plan_refusal}
use Rattle.semantics.specs.Move.{Configuration, enabled, letter, next_states, judged, after, good, initial, replay}
use Rattle.semantics.specs.Run.{is_run}
use Rattle.bip.specs.Property.{Throughout}
use Rattle.bip.specs.Steps.{Chosen, Path, here, further, Trace, still, onward, end_of}
use Rattle.bip.specs.Monitor.{Letter, Satisfies, Reads, Allows, Denotes, Label, did, ε, CommitStep, CancelStep, RankedCommit, EngineStep, does, undoes, MonitoredStep, Begins, erased, stutter_free, Shows, shown, interactions_of, AllowedRun, EngineRun}
use Rattle.semantics.proofs.Basics.{each, all_of_lem, ltb-true, lt-ltb}
use Rattle.semantics.proofs.AcceptedPlan.{accepted_plan}
use Rattle.semantics.proofs.Sound.{Sound, sound_initial, sound_after}
use Rattle.semantics.proofs.Ranking.{safe-enabled, safe-from, commit_enabled}
use Rattle.bip.proofs.Enforcement.{each_step, enforced}
use Rattle.bip.proofs.Components.{state_of_lem}
use Rattle.bip.proofs.Composites.{chosen_exactly}
use Rattle.bip.proofs.Events.{event_once, good_allows, initial_begins, begins_initial}
use Rattle.bip.proofs.OracleRules.{reads_next, reads_once}
use Rattle.bip.proofs.Paths.{path_join}
use Rattle.bip.proofs.MonitorRules.{did_not_ε, chosen-moves, monitored_low, commit_exactly, ranked_commit_exactly}
use Rattle.bip.proofs.Priorities.{composite_low, ranked_steps}

-- ---- the runs

module _ (p : Plan) (ok : plan_refusal p ≡ 0) where
  path_run : {c d : Configuration} {is : List ℕ} → Sound p c → Path (RankedCommit p) c is d → (is_run p c is ≡ true) × (d ≡ replay p c is)
  unfolding is_run replay
  path_run h here = (refl, refl)
  path_run h (further {s = c} {t} {l = i} {ls = is} r rest) =
      let (l, m, same) = (ranked_commit_exactly p ok c h i t).0 r in
      let h' : Sound p (after p c i) = sound_after p (accepted_plan p ok) c h i l (commit_enabled p c i m) in
      let (run, ends) = path_run (subst (Sound p) (sym same) h') rest in
      (all_of_lem _ (lt-ltb _ _ l, (m, (subst (λ (x : Configuration). is_run p x is ≡ true) same run, tt))), ends ∙ ap (λ (x : Configuration). replay p x is) same)

  pub run_path : (c : Configuration) (is : List ℕ) → Sound p c → is_run p c is ≡ true → Path (RankedCommit p) c is (replay p c is)
  unfolding is_run replay
  run_path c [] h e = here
  run_path c (i ∷ is) h e =
      let (number, (m, (rest, _))) = each _ e in
      let l = ltb-true _ _ number in
      further ((ranked_commit_exactly p ok c h i (after p c i)).1 (l, m, refl))
      (run_path (after p c i) is (sound_after p (accepted_plan p ok) c h i l (commit_enabled p c i m)) rest)

  -- the runs of 01 are exactly the runs of the engine's rule, with the configuration that they lead to
  pub run_exactly : (is : List ℕ) (c : Configuration) → EngineRun p is c ↔ ((is_run p (initial p) is ≡ true) × (c ≡ replay p (initial p) is))
  run_exactly is c = (from, to)
    where
      sound : Sound p (initial p)
      sound = sound_initial p (accepted_plan p ok)

      from : EngineRun p is c → (is_run p (initial p) is ≡ true) × (c ≡ replay p (initial p) is)
      from a = path_run sound (subst (λ (x : Configuration). Path (RankedCommit p) x is c) (begins_initial p a.first a.begins) a.steps)

      to : (is_run p (initial p) is ≡ true) × (c ≡ replay p (initial p) is) → EngineRun p is c
      to (r, ends) =
          record {
            first = initial p;
            begins = initial_begins p ok;
            steps = subst (Path (RankedCommit p) (initial p) is) (sym ends) (run_path (initial p) is sound r);
          }

-- ---- traces of the engine's steps

module _ (p : Plan) where
  -- a step of the engine is one of the composition
  enforcing : {c d : Configuration} {l : Label} → EngineStep p c l d → MonitoredStep p (Chosen p) c l d
  enforcing (does {i = i} r) = (i, ranked_steps r)
  enforcing (undoes {i = i} m n) = (i, m)

  pub trace_enforcing : {c : Configuration} {σ : List (Label × Configuration)} → Trace (EngineStep p) c σ → Trace (MonitoredStep p (Chosen p)) c σ
  trace_enforcing still = still
  trace_enforcing (onward s r) = onward (enforcing s) (trace_enforcing r)

  -- rule 3 leaves the configuration as it was
  back : {c d : Configuration} {i : ℕ} → CancelStep p c i d → d ≡ c
  back {c} {d} {i} m = elim (each_step p (Chosen p) i c d ε m) [ inl h ↦ absurd (did_not_ε (sym h.0)) | inr h ↦ h.1 ]

  one_step : {c d : Configuration} {l : Label} (σ : List (Label × Configuration)) → EngineStep p c l d
      → Path (RankedCommit p) d (interactions_of (stutter_free (erased σ))) (end_of d σ)
      → Path (RankedCommit p) c (interactions_of (stutter_free (erased ((l, d) ∷ σ)))) (end_of d σ)
  unfolding erased stutter_free
  one_step σ (does r) rest = further r rest
  one_step {d} σ (undoes m n) rest = subst (λ (x : Configuration). Path (RankedCommit p) x (interactions_of (stutter_free (erased σ))) (end_of d σ)) (back m) rest

  -- its interactions are a path of commits under the priorities
  pub trace_path : {c : Configuration} {σ : List (Label × Configuration)} → Trace (EngineStep p) c σ
      → Path (RankedCommit p) c (interactions_of (stutter_free (erased σ))) (end_of c σ)
  unfolding erased stutter_free end_of
  trace_path still = here
  trace_path (onward {σ} s r) = one_step σ s (trace_path r)

  -- 002 corollary 1: from a good judged beginning the events stay in the property, and the interactions are a run of the system
  pub trace_allowed : (c : Configuration) (begins : Begins p c) → Allows p c.oracles → (σ : List (Label × Configuration)) → Trace (EngineStep p) c σ
      → AllowedRun p (Chosen p) c.state begins.first_event (interactions_of (stutter_free (erased σ))) (end_of c σ).state
  trace_allowed c begins w σ t =
      let f = enforced p (Chosen p) c begins w σ (trace_enforcing t) in
      record {
        trace = stutter_free (erased σ);
        through = refl;
        steps = f.of_system;
        ends = f.ends;
        events = f.events.0;
        shows = f.events.1;
        in_property = f.in_property f.events.0 f.events.1;
      }

-- ---- commits and the property

module _ (p : Plan) (ok : plan_refusal p ≡ 0) where
  -- a path of commits is a trace of the composition, without a cancelled step
  record Traced (c : Configuration) (is : List ℕ) (d : Configuration) : Type 0 where
    trace : List (Label × Configuration)
    steps : Trace (MonitoredStep p (Chosen p)) c trace
    through : interactions_of (stutter_free (erased trace)) ≡ is
    ends : end_of c trace ≡ d

  path_traced : {c d : Configuration} {is : List ℕ} → Path (CommitStep p) c is d → Traced c is d
  unfolding erased stutter_free end_of
  path_traced here = record { trace = []; steps = still; through = refl; ends = refl }
  path_traced (further {t} {l = i} m rest) =
      let r = path_traced rest in
      record { trace = (did i, t) ∷ r.trace; steps = onward (i, m) r.steps; through = ap (i ∷◌) r.through; ends = r.ends }

  -- it leads where its moves do
  path_replay : {c d : Configuration} {is : List ℕ} → Sound p c → Path (CommitStep p) c is d → d ≡ replay p c is
  unfolding replay
  path_replay h here = refl
  path_replay h (further {s = c} {t} {l = i} {ls = is} m rest) =
      let l = monitored_low chosen-moves m in
      let (s, same) = (commit_exactly p ok c h i l t).0 m in
      let h' : Sound p (after p c i) = sound_after p (accepted_plan p ok) c h i l (safe-enabled p c i s) in
      path_replay (subst (Sound p) (sym same) h') rest ∙ ap (λ (x : Configuration). replay p x is) same

  -- a step of the system is the engine's move, and the event of the state that it leads to takes the oracles where the engine's does
  record Same (c : Configuration) (i : ℕ) (e : Letter p) (t : State) : Type 0 where
    number< : i < interactions p
    is_enabled : enabled p c.state i ≡ true
    state_same : (after p c i).state ≡ t
    read_same : Reads p c.oracles e (after p c i).oracles

  same : (c : Configuration) → Sound p c → (i : ℕ) (e : Letter p) (t : State) → Chosen p c.state i t → Satisfies p t e → Same c i e t
  unfolding after judged
  same c h i e t m o =
      let l = composite_low m.step in
      let s = (chosen_exactly p ok c.state (state_of_lem p ok c h) i l t).0 m in
      record {
        number< = l;
        is_enabled = s.0;
        state_same = sym s.1;
        read_same = subst (λ (k : ℕ). Reads p c.oracles e (next_states p c.oracles k)) (event_once p t e o ∙ ap (letter p) s.1) (reads_next p c.oracles e);
      }

  -- a trace of the system whose events stay in the property is a path of commits
  trace_commits : {s : State} {σ : List (ℕ × State)} → Trace (Chosen p) s σ → (c : Configuration) → Sound p c → c.state ≡ s
      → (first : Letter p) (τ es : List (Letter p)) → Path (Reads p) (start_states p) (first ∷ τ) c.oracles → Shows p σ es → Throughout (Denotes p) (first ∷ (τ ++ es))
      → Path (CommitStep p) c (interactions_of σ) (replay p c (interactions_of σ))
  unfolding replay
  trace_commits still c h e first τ es r shows d = here
  trace_commits (onward {t} {l = i} {σ} m rest) c h e first τ events r (shown {e = a} {es} o shows) d =
      let s : Same c i a t = same c h i a t (subst (λ (q : State). Chosen p q i t) (sym e) m) o in
      let h' : Sound p (after p c i) = sound_after p (accepted_plan p ok) c h i s.number< s.is_enabled in
      let r' : Path (Reads p) (start_states p) (first ∷ (τ ++ (a ∷ []))) (after p c i).oracles = path_join r (further s.read_same here) in
      let d' : Throughout (Denotes p) (first ∷ ((τ ++ (a ∷ [])) ++ es))
      = subst (λ (ρ : List (Letter p)). Throughout (Denotes p) (first ∷ ρ)) (sym (append_assoc τ (a ∷ []) es)) d in
      let before = d' first (τ ++ (a ∷ [])) es refl in
      let w : Allows p (after p c i).oracles = subst (Allows p) (reads_once before.1 r') before.2 in
      let g : good p (after p c i) ≡ true = (good_allows p ok (after p c i) h'.in_range).1 w in
      further ((commit_exactly p ok c h i s.number< (after p c i)).1 (safe-from p c i s.is_enabled g, refl))
      (trace_commits rest (after p c i) h' s.state_same first (τ ++ (a ∷ [])) es r' shows d')

  -- 002 corollary 1 and its converse: from a judged beginning that the oracles allow, what the monitor commits are exactly the runs of the system whose events
  -- stay in the property. The engine's runs are those of them in which no interaction above a move has a commit.
  pub commits-allowed : (c : Configuration) → Sound p c → (begins : Begins p c) → Allows p c.oracles → (is : List ℕ) (d : Configuration)
      → Path (CommitStep p) c is d ↔ (AllowedRun p (Chosen p) c.state begins.first_event is d.state × (d ≡ replay p c is))
  commits-allowed c h begins w is d = (
    (λ r.
        let t = path_traced r in
        let f = enforced p (Chosen p) c begins w t.trace t.steps in (
          record {
            trace = stutter_free (erased t.trace);
            through = t.through;
            steps = f.of_system;
            ends = f.ends ∙ ap (λ (x : Configuration). x.state) t.ends;
            events = f.events.0;
            shows = f.events.1;
            in_property = f.in_property f.events.0 f.events.1;
          },
          path_replay h r,
        )),
    (λ (a, ends).
        let r = trace_commits a.steps c h refl begins.first_event [] a.events (further begins.judged-first here) a.shows a.in_property in
        rw ends (subst (λ (js : List ℕ). Path (CommitStep p) c js (replay p c js)) a.through r)),
  )
