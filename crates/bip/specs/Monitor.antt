-- Events (000 section 4.3); the oracles, the enforcement monitor and its composition with a system (002 section 5.2, definitions 14 to 16); beginnings, traces,
-- runs, and what proposition 3 and corollary 1 say. Of the engine's meaning they cite the fields of a plan, the evaluator of code and the record of a
-- configuration alone.
use Rattle.std.specs.Prelude.{◌≡◌, ◌⊎◌, ℕ, ◌≤◌, ◌<◌, List, [], ◌∷◌, map, length, get_or}
use Rattle.semantics.specs.Bytes.{bit}
use Rattle.semantics.specs.Plan.{Plan, max_oracles, propositions, oracles, start_states, letters, proposition_of, verdict, next}
use Rattle.semantics.specs.Code.{State, guard_holds}
use Rattle.semantics.specs.Move.{Configuration}
use Rattle.bip.specs.Steps.{Below, Chosen, Ranked, Init, Path, Trace, end_of}
use Rattle.bip.specs.Property.{Property, Throughout}

-- ---- events: 000 section 4.3

-- Σ: an event is a set of propositions, as a number below 2^K.
abbrev pub Letter : Plan → Type 0
Letter p = (e : ℕ) × (e < letters p)

-- q ⊨ e: the propositions of e are those that hold in q. Every state has one event (`event_of`, `event_once`), and 01 has it read after every move.
abbrev pub Satisfies : (p : Plan) → State → Letter p → Type 0
Satisfies p q e = (k : ℕ) → k < propositions p → bit e.0 k ≡ guard_holds p q (proposition_of p k)

-- ---- the runtime oracle: 002 definition 14, of each oracle of a plan

-- θ →e θ' of oracle n: its transition function.
pub data ReadsAlone (p : Plan) (n θ : ℕ) (e : Letter p) : ℕ → Type 0 where
  reads : ReadsAlone p n θ e (next p n θ e.0)

-- verdict(θ) ∈ {⊤, ⊤_c}, 01's 3 and 2.
abbrev pub AllowsAlone : Plan → ℕ → ℕ → Type 0
AllowsAlone p n θ = (verdict p n θ ≡ 3) ⊎ (verdict p n θ ≡ 2)

-- The property that oracle n denotes: the sequences of events after which its verdict is ⊤ or ⊤_c.
abbrev pub DenotesAlone : (p : Plan) → ℕ → Property (Letter p)
DenotesAlone p n σ = (θ : ℕ) × Path (ReadsAlone p n) (get_or (start_states p) n 0) σ θ × AllowsAlone p n θ

-- ---- the oracles of a plan as one (02, job 1), which is the monitor's. Θ is the product of their states: a list of four, with oracle n's state at place n
-- and 0 where the plan has no oracle n.

-- θ →e θ': each oracle reads the event.
pub record Reads (p : Plan) (θ : List ℕ) (e : Letter p) (θ' : List ℕ) : Type 0 where
  pub long : length θ' ≡ max_oracles
  pub together : (n : ℕ) → n < max_oracles → n < oracles p → ReadsAlone p n (get_or θ n 0) e (get_or θ' n 0)
  pub unused : (n : ℕ) → n < max_oracles → oracles p ≤ n → get_or θ' n 0 ≡ 0

-- "The verdict .. is the lowest of all the oracles' verdicts": some oracle's, and at most each one's.
pub record Verdict (p : Plan) (θ : List ℕ) (v : ℕ) : Type 0 where
  pub reached : (n : ℕ) × (n < oracles p) × (verdict p n (get_or θ n 0) ≡ v)
  pub lowest : (n : ℕ) → n < oracles p → v ≤ verdict p n (get_or θ n 0)

-- verdict(θ) ∈ {⊤, ⊤_c}.
abbrev pub Allows : Plan → List ℕ → Type 0
Allows p θ = Verdict p θ 3 ⊎ Verdict p θ 2

-- verdict(θ) ∈ {⊥, ⊥_c}, 01's 0 and, from 02, job 6, on, 1. 002 prints ⊥ alone, since no verdict of a safety property is ⊥_c; a monitor that can go back one step
-- takes both back.
abbrev pub Forbids : Plan → List ℕ → Type 0
Forbids p θ = Verdict p θ 0 ⊎ Verdict p θ 1

-- verdict(θ) ≠ ⊥: what a monitor that can go back several steps lets stand for a while (002 definition 11).
abbrev pub Tolerates : Plan → List ℕ → Type 0
Tolerates p θ = Verdict p θ 0 → ⊥

-- The property that the oracles denote together.
abbrev pub Denotes : (p : Plan) → Property (Letter p)
Denotes p σ = (θ : List ℕ) × Path (Reads p) (start_states p) σ θ × Allows p θ

-- ---- the enforcement monitor: 002 definition 15

-- Θ and its fresh copies: θ, θ_c and θ_e. 002 prints θ_c without its event; here there is one for each, so that a commit leads where that event does.
pub data MonitorState (p : Plan) : Type 0 where
  stable : List ℕ → MonitorState p
  committing : List ℕ → Letter p → MonitorState p
  cancelling : List ℕ → Letter p → MonitorState p

-- Σ ∪ {com} ∪ the cancellation events.
pub data MonitorEvent (p : Plan) : Type 0 where
  event : Letter p → MonitorEvent p
  commit : MonitorEvent p
  cancel : Letter p → MonitorEvent p

-- The transition function of the monitor: two transitions for each one of the oracle, by the verdict that it leads to.
pub data Enforces (p : Plan) : MonitorState p → MonitorEvent p → MonitorState p → Type 0 where
  accepts : {θ θ' : List ℕ} {e : Letter p} → Reads p θ e θ' → Allows p θ' → Enforces p (stable θ) (event e) (committing θ e)
  commits : {θ θ' : List ℕ} {e : Letter p} → Reads p θ e θ' → Allows p θ' → Enforces p (committing θ e) commit (stable θ')
  rejects : {θ θ' : List ℕ} {e : Letter p} → Reads p θ e θ' → Forbids p θ' → Enforces p (stable θ) (event e) (cancelling θ e)
  restores : {θ θ' : List ℕ} {e : Letter p} → Reads p θ e θ' → Forbids p θ' → Enforces p (cancelling θ e) (cancel e) (stable θ)

-- ---- the composition: 002 definition 16

-- Lab ∪ {ε}: an interaction done, or nothing to be seen.
pub data Label : Type 0 where
  did : ℕ → Label
  ε : Label

-- ⟨q, θ⟩
abbrev pub pair : State → List ℕ → Configuration
pair q θ = record { state = q; oracles = θ }

-- A system as the composition sees it: its labelled transitions.
abbrev pub System : Type 1
System = State → ℕ → State → Type 0

-- The composition of a system with the monitor, for the interaction i that the system performs. Rule 2 commits; rule 3 cancels, with state and
-- monitor as they were. Rule 1, for a step of which the instrumentation makes no event (002 section 4.2), is left out: 01 has an event read after every
-- move.
pub data Monitored (p : Plan) (system : System) (i : ℕ) : Configuration → Label → Configuration → Type 0 where
  rule_2 : {q q' : State} {θ θ' : List ℕ} {e : Letter p} → system q i q' → Satisfies p q' e → Enforces p (stable θ) (event e) (committing θ e)
      → Enforces p (committing θ e) commit (stable θ') → Monitored p system i (pair q θ) (did i) (pair q' θ')
  rule_3 : {q q' : State} {θ : List ℕ} {e : Letter p} → system q i q' → Satisfies p q' e → Enforces p (stable θ) (event e) (cancelling θ e)
      → Enforces p (cancelling θ e) (cancel e) (stable θ) → Monitored p system i (pair q θ) ε (pair q θ)

-- A step of the composition: of some interaction.
abbrev pub MonitoredStep : Plan → System → Configuration → Label → Configuration → Type 0
MonitoredStep p system c l d = (i : ℕ) × Monitored p system i c l d

-- ---- the engine: enforced, then ranked (02, job 3)

-- The monitor's commits: rule 2, of the system by 01's choice.
abbrev pub CommitStep : Plan → Configuration → ℕ → Configuration → Type 0
CommitStep p c i d = Monitored p (Chosen p) i c (did i) d

-- What the monitor takes back: rule 3.
abbrev pub CancelStep : Plan → Configuration → ℕ → Configuration → Type 0
CancelStep p c i d = Monitored p (Chosen p) i c ε d

-- Definition 8 over the monitor's commits: a commit, and no interaction above it has one. The papers rank the system and then compose it with the monitor, so
-- that what the monitor forbids still outranks.
abbrev pub RankedCommit : Plan → Configuration → ℕ → Configuration → Type 0
RankedCommit p = Ranked p (CommitStep p)

-- Its premise alone: no interaction above i has a commit.
abbrev pub NoneAbove : Plan → Configuration → ℕ → Type 0
NoneAbove p c i = (j : ℕ) (d : Configuration) → Below p i j → CommitStep p c j d → ⊥

-- A step that the engine takes: a commit or a cancelled move, above which nothing commits.
pub data EngineStep (p : Plan) : Configuration → Label → Configuration → Type 0 where
  does : {c d : Configuration} {i : ℕ} → RankedCommit p c i d → EngineStep p c (did i) d
  undoes : {c d : Configuration} {i : ℕ} → CancelStep p c i d → NoneAbove p c i → EngineStep p c ε d

-- ---- beginnings, traces and runs

-- 01: "The oracle also reads the starting state's event (000), so a run begins judged"; 000 section 5.5, remark 2, has the monitor evaluate the initial
-- state.
pub record Begins (p : Plan) (c : Configuration) : Type 0 where
  pub initial-state : Init p c.state
  pub first_event : Letter p
  pub observed : Satisfies p c.state first_event
  pub judged-first : Reads p (start_states p) first_event c.oracles

-- ---- traces: 002 corollary 1

-- σ↓: the trace σ of the composition without the states of the monitor.
unfoldable pub erased : List (Label × Configuration) → List (Label × State)
erased [] = []
erased ((l, c) ∷ σ) = (l, c.state) ∷ erased σ

-- stutter-free(σ↓): the states that follow an ε are removed, with it.
unfoldable pub stutter_free : {S : Type 0} → List (Label × S) → List (ℕ × S)
stutter_free [] = []
stutter_free ((did i, q) ∷ σ) = (i, q) ∷ stutter_free σ
stutter_free ((ε, q) ∷ σ) = stutter_free σ

-- inst(σ): the event of each state that an interaction led to, inst((a, q')) = e. A step back (ε) leads to no new state, and shows none.
pub data Shows (p : Plan) : List (ℕ × State) → List (Letter p) → Type 0 where
  ended : Shows p [] []
  shown : {i : ℕ} {q : State} {e : Letter p} {σ : List (ℕ × State)} {es : List (Letter p)} → Satisfies p q e → Shows p σ es → Shows p ((i, q) ∷ σ) (e ∷ es)

-- The interactions of a trace.
abbrev pub interactions_of : {S : Type 0} → List (ℕ × S) → List ℕ
interactions_of {S} σ = map (λ (m : ℕ × S). m.0) σ

-- Corollary 1, of a trace σ of the composition from c, with the event of c's state first.
pub record Enforced (p : Plan) (system : System) (c : Configuration) (first : Letter p) (σ : List (Label × Configuration)) : Type 0 where
  -- σ has its events,
  pub events : (es : List (Letter p)) × Shows p (stutter_free (erased σ)) es
  -- inst(σ) ∈ Π, the starting event first (01; 002 begins with the first move's), and so is each part of it that begins there: 002 has that of a safety property,
  pub in_property : (es : List (Letter p)) → Shows p (stutter_free (erased σ)) es → Throughout (Denotes p) (first ∷ es)
  -- stutter-free(σ↓) ∈ traces(L),
  pub of_system : Trace system c.state (stutter_free (erased σ))
  -- and it ends where σ does.
  pub ends : end_of c.state (stutter_free (erased σ)) ≡ (end_of c σ).state

-- A run of the system through the interactions is, from q to q', whose events, with the first before them, are in the property throughout (001 definition 12, 002
-- corollary 1).
pub record AllowedRun (p : Plan) (system : System) (q : State) (first : Letter p) (is : List ℕ) (q' : State) : Type 0 where
  pub trace : List (ℕ × State)
  pub through : interactions_of trace ≡ is
  pub steps : Trace system q trace
  pub ends : end_of q trace ≡ q'
  pub events : List (Letter p)
  pub shows : Shows p trace events
  pub in_property : Throughout (Denotes p) (first ∷ events)

-- A run of the engine: from a judged beginning, commits under the priority rule over commits, to the configuration c'.
pub record EngineRun (p : Plan) (is : List ℕ) (c' : Configuration) : Type 0 where
  pub first : Configuration
  pub begins : Begins p first
  pub steps : Path (RankedCommit p) first is c'

-- 002 proposition 3, simulation: its three conditions on a relation R between the composition's states and the system's
pub record Simulates (p : Plan) (system : System) (R : Configuration → State → Type 0) (r₀ : Configuration) (s₀ : State) : Type 0 where
  pub begins : R r₀ s₀
  pub does : (r r' : Configuration) (s : State) (i : ℕ) → R r s → MonitoredStep p system r (did i) r' → (s' : State) × system s i s' × R r' s'
  pub keeps : (r r' : Configuration) (s : State) → R r s → MonitoredStep p system r ε r' → R r' s
