-- The rules of a system composed with its enforcement monitor, read backwards, and where they apply in the engine's system: 002 definition 16, rules 2 and 3;
-- and definition 8 over its commits.
use mathlib.Core.Path.{◌≡◌, refl, sym, ap, ◌∙◌, subst}
use mathlib.Core.Logic.{◌↔◌}
use Prim.Native.Nat.{ℕ, ◌<◌}
use mathlib.Core.Bool.{Bool, true, false, true≢false}
use mathlib.Core.List.{List}
use Rattle.semantics.specs.Plan.{Plan, interactions}
use Rattle.semantics.specs.Code.{State}
use Rattle.semantics.specs.Rules.{plan_refusal}
use Rattle.semantics.specs.Move.{Configuration, enabled, fired, letter, next_states, judged, after, oracles_in_range, good, safe, may_commit}
use Rattle.semantics.proofs.Basics.{bool_cases, absurd_bool}
use Rattle.semantics.proofs.AcceptedPlan.{accepted_plan}
use Rattle.semantics.proofs.Sound.{Sound, letter_lt, sound_after}
use Rattle.semantics.proofs.Ranking.{safe-enabled, safe-good, safe-from, commit_enabled, commit_good, commit_above, commit_from}
use Rattle.bip.specs.Steps.{Below, Ranked, ranked, Chosen}
use Rattle.bip.specs.Monitor.{Letter, Reads, Allows, Forbids, stable, committing, cancelling, event, commit, Enforces, accepts, commits, rejects, restores, Label, did, ε, System, Monitored, rule_2, rule_3, CommitStep, CancelStep, RankedCommit, NoneAbove}
use Rattle.bip.specs.Disabler.{Disabler, RankedUnder}
use Rattle.bip.proofs.Events.{event_of, event_once, bad_forbids, good_allows}
use Rattle.bip.proofs.OracleRules.{reads_is, reads_next}
use Rattle.bip.proofs.Components.{state_of_lem}
use Rattle.bip.proofs.Composites.{chosen_exactly}
use Rattle.bip.proofs.Priorities.{composite_low, ranked_steps, none_above}

-- ---- the monitor's transitions, read backwards

-- 002 definition 15: committing follows the oracles, to a verdict ⊤ or ⊤_c
pub commits_means : {p : Plan} {θ θ' : List ℕ} {e : Letter p} → Enforces p (committing θ e) commit (stable θ') → Reads p θ e θ' × Allows p θ'
commits_means (commits r a) = (r, a)

-- cancelling begins where the oracles' verdict would be ⊥ or ⊥_c
rejects_means : {p : Plan} {θ θ₁ : List ℕ} {e e₁ : Letter p} → Enforces p (stable θ) (event e) (cancelling θ₁ e₁) → Forbids p (next_states p θ e.0)
rejects_means {p} (rejects r f) = rw (← reads_is r) f

-- ---- the rules of the composition, read backwards

-- a step of the composition is one of the system
pub monitored_steps : {p : Plan} {system : System} {i : ℕ} {c d : Configuration} {l : Label} → Monitored p system i c l d → (q' : State) × system c.state i q'
monitored_steps (rule_2 {q'} s h a b) = (q', s)
monitored_steps (rule_3 {q'} s h a b) = (q', s)

-- an interaction done is not ε
pub did_not_ε : {i : ℕ} → did i ≡ ε → ⊥
did_not_ε e = true≢false (ap shows e)
  where
    shows : Label → Bool
    shows (did i) = true
    shows ε = false

-- what rule 2 says of its ends: a step of the system, read by the oracles and allowed
record Commits (p : Plan) (system : System) (i : ℕ) (c d : Configuration) : Type 0 where
  moves : system c.state i d.state
  read : d.oracles ≡ next_states p c.oracles (letter p d.state)
  allowed : Allows p d.oracles

-- what rule 3 says: a step of the system that the oracles forbid, and the configuration as it was
record Cancels (p : Plan) (system : System) (i : ℕ) (c d : Configuration) : Type 0 where
  left : State
  moves : system c.state i left
  forbidden : Forbids p (next_states p c.oracles (letter p left))
  back : d ≡ c

by_rule_2 : {p : Plan} {system : System} {i : ℕ} {c d : Configuration} {l : Label} → Monitored p system i c l d → l ≡ did i → Commits p system i c d
by_rule_2 {p} (rule_2 {q} {q'} {θ} {θ'} {e} s h a b) x =
    let m = commits_means b in
    record { moves = s; read = reads_is m.0 ∙ ap (next_states p θ) (event_once p q' e h); allowed = m.1 }
by_rule_2 (rule_3 s h a b) x = absurd (did_not_ε (sym x))

by_rule_3 : {p : Plan} {system : System} {i : ℕ} {c d : Configuration} {l : Label} → Monitored p system i c l d → l ≡ ε → Cancels p system i c d
by_rule_3 (rule_2 s h a b) x = absurd (did_not_ε x)
by_rule_3 {p} (rule_3 {q} {q'} {θ} {e} s h a b) x =
    record { left = q'; moves = s; forbidden = subst (λ (n : ℕ). Forbids p (next_states p θ n)) (event_once p q' e h) (rejects_means a); back = refl }

-- ---- systems of the engine's moves

-- each step of the system is one of 01's choice
abbrev pub Moves : Plan → System → Type 0
Moves p system = (q : State) (i : ℕ) (q' : State) → system q i q' → Chosen p q i q'

pub chosen-moves : {p : Plan} → Moves p (Chosen p)
chosen-moves q i q' s = s

pub under-moves : {p : Plan} (d : Disabler) → Moves p (RankedUnder p d)
under-moves d q i q' s = (ranked_steps s).0

-- an interaction done or taken back is one of the plan's
pub monitored_low : {p : Plan} {system : System} {i : ℕ} {c d : Configuration} {l : Label} → Moves p system → Monitored p system i c l d → i < interactions p
monitored_low moves m = let (_, s) = monitored_steps m in composite_low (moves _ _ _ s).step

module _ (p : Plan) (ok : plan_refusal p ≡ 0) (c : Configuration) (sound : Sound p c) (i : ℕ) (l : i < interactions p) where
  pub step_exactly : (q' : State) → Chosen p c.state i q' ↔ ((enabled p c.state i ≡ true) × (q' ≡ fired p c.state i))
  step_exactly = chosen_exactly p ok c.state (state_of_lem p ok c sound) i l

  after_in_range : enabled p c.state i ≡ true → oracles_in_range p (after p c i).oracles ≡ true
  after_in_range e = (sound_after p (accepted_plan p ok) c sound i l e).in_range

  after_read : (after p c i).oracles ≡ next_states p c.oracles (letter p (fired p c.state i))
  unfolding after judged
  after_read = refl

  module _ (system : System) (moves : Moves p system) where
    abbrev move : Type 0
    move = system c.state i (fired p c.state i)

    moved : (q' : State) → system c.state i q' → q' ≡ fired p c.state i
    moved q' s = ((step_exactly q').0 (moves c.state i q' s)).1

    move-enabled : move → enabled p c.state i ≡ true
    move-enabled s = ((step_exactly (fired p c.state i)).0 (moves c.state i (fired p c.state i) s)).0

    -- a step of the system whose event the oracles read leads to the engine's configuration
    pub read_after : (d : Configuration) → system c.state i d.state → d.oracles ≡ next_states p c.oracles (letter p d.state) → move × (d ≡ after p c i)
    unfolding after judged
    read_after d m read =
        let s = moved d.state m in
        let o : d.oracles ≡ next_states p c.oracles (letter p (fired p c.state i)) = read ∙ ap (λ (q : State). next_states p c.oracles (letter p q)) s in
        (subst (system c.state i) s m, λ k. record { state = s k; oracles = o k })

    -- 002 definition 16, rule 2: a move of the system commits exactly where it ends good, and it leads to the engine's configuration
    pub commits_exactly : (d : Configuration) → Monitored p system i c (did i) d ↔ (system c.state i (fired p c.state i) × (good p (after p c i) ≡ true) × (d ≡ after p c i))
    commits_exactly d = (to, from)
      where
        to : Monitored p system i c (did i) d → move × (good p (after p c i) ≡ true) × (d ≡ after p c i)
        to m =
            let r = by_rule_2 m refl in
            let (s, same) = read_after d r.moves r.read in
            let a : Allows p (after p c i).oracles = subst (λ (x : Configuration). Allows p x.oracles) same r.allowed in
            (s, (good_allows p ok (after p c i) (after_in_range (move-enabled s))).1 a, same)

        from : move × (good p (after p c i) ≡ true) × (d ≡ after p c i) → Monitored p system i c (did i) d
        from (s, g, same) =
            let a : Allows p (after p c i).oracles = (good_allows p ok (after p c i) (after_in_range (move-enabled s))).0 g in
            let q' = fired p c.state i in
            let read = reads_next p c.oracles (letter p q', letter_lt p q') in
            subst (λ (x : Configuration). Monitored p system i c (did i) x) (sym same)
            (unfold after judged in (rule_2 s (event_of p q') (accepts read a) (commits read a)))

    -- 002 definition 16, rule 3: it is cancelled exactly where it ends bad, and the configuration is as it was
    pub cancels_exactly : (d : Configuration) → Monitored p system i c ε d ↔ (system c.state i (fired p c.state i) × (good p (after p c i) ≡ false) × (d ≡ c))
    cancels_exactly d = (to, from)
      where
        to : Monitored p system i c ε d → move × (good p (after p c i) ≡ false) × (d ≡ c)
        to m =
            let r = by_rule_3 m refl in
            let same = moved r.left r.moves in (
              subst (system c.state i) same r.moves,
              (bad_forbids p (after p c i)).1 (rw after_read (subst (λ (q : State). Forbids p (next_states p c.oracles (letter p q))) same r.forbidden)),
              r.back,
            )

        from : move × (good p (after p c i) ≡ false) × (d ≡ c) → Monitored p system i c ε d
        from (s, bad, same) =
            let q' = fired p c.state i in
            let f : Forbids p (next_states p c.oracles (letter p q')) = rw (← after_read) ((bad_forbids p (after p c i)).0 bad) in
            let read = reads_next p c.oracles (letter p q', letter_lt p q') in
            subst (λ (x : Configuration). Monitored p system i c ε x) (sym same) (rule_3 s (event_of p q') (rejects read f) (restores read f))

  -- of the system by 01's choice: it commits exactly the safe moves
  pub commit_exactly : (d : Configuration) → CommitStep p c i d ↔ ((safe p c i ≡ true) × (d ≡ after p c i))
  commit_exactly d = (
    (λ m.
        let (s, g, same) = (commits_exactly (Chosen p) chosen-moves d).0 m in
        (safe-from p c i ((step_exactly (fired p c.state i)).0 s).0 g, same)),
    (λ (m, same). (commits_exactly (Chosen p) chosen-moves d).1 ((step_exactly (fired p c.state i)).1 (safe-enabled p c i m, refl), safe-good p c i m, same)),
  )

  -- and takes back the enabled ones that end bad
  pub cancel_exactly : (d : Configuration) → CancelStep p c i d ↔ ((enabled p c.state i ≡ true) × (good p (after p c i) ≡ false) × (d ≡ c))
  cancel_exactly d = (
    (λ m.
        let (s, bad, same) = (cancels_exactly (Chosen p) chosen-moves d).0 m in
        (((step_exactly (fired p c.state i)).0 s).0, bad, same)),
    (λ (e, bad, same). (cancels_exactly (Chosen p) chosen-moves d).1 ((step_exactly (fired p c.state i)).1 (e, refl), bad, same)),
  )

-- ---- the priority rule over the monitor's commits

module _ (p : Plan) (ok : plan_refusal p ≡ 0) (c : Configuration) (sound : Sound p c) (i : ℕ) where
  -- definition 8, the premise: no commit lies above exactly where each enabled move above ends bad
  pub commit_premise : NoneAbove p c i
      ↔ ((j : ℕ) → j < interactions p → Below p i j → enabled p c.state j ≡ true → good p (after p c j) ≡ false)
  commit_premise = (
    (λ none j h b on.
        bool_cases (good p (after p c j)) (λ g. absurd (none j (after p c j) b ((commit_exactly p ok c sound j h (after p c j)).1 (safe-from p c j on g, refl)))) (λ g. g)),
    (λ bad j d b m.
        let h = monitored_low chosen-moves m in
        let s = ((commit_exactly p ok c sound j h d).0 m).0 in
        absurd_bool (safe-good p c j s) (bad j h b (safe-enabled p c j s))),
  )

  -- the engine's rule: a move may be committed exactly where definition 8 over the commits lets it be, and it leads to the engine's configuration
  pub ranked_commit_exactly : (d : Configuration) → RankedCommit p c i d ↔ ((i < interactions p) × (may_commit p c i ≡ true) × (d ≡ after p c i))
  ranked_commit_exactly d = (
    (λ r.
        let l = monitored_low chosen-moves (ranked_steps r) in
        let (s, same) = (commit_exactly p ok c sound i l d).0 (ranked_steps r) in
        (l, commit_from p c i (safe-enabled p c i s) (safe-good p c i s) (commit_premise.0 (none_above r)), same)),
    (λ (l, m, same).
        ranked ((commit_exactly p ok c sound i l d).1 (safe-from p c i (commit_enabled p c i m) (commit_good p c i m), same)) (commit_premise.1 (commit_above p c i m))),
  )

  -- ranked and then enforced, as the papers have it, a commit is one of the engine's: it enforces and then ranks, and commits no less
  pub ranked_first_commits : (d : Configuration) → Monitored p (Ranked p (Chosen p)) i c (did i) d → RankedCommit p c i d
  ranked_first_commits d m =
      let moves : Moves p (Ranked p (Chosen p)) = λ q k q' r. ranked_steps r in
      let l = monitored_low moves m in
      let (r, g, same) = (commits_exactly p ok c sound i l (Ranked p (Chosen p)) moves d).0 m in
      let on = ((chosen_exactly p ok c.state (state_of_lem p ok c sound) i l (fired p c.state i)).0 (ranked_steps r)).0 in
      ranked ((commit_exactly p ok c sound i l d).1 (safe-from p c i on g, same))
      (λ j d' b n. let (q', s) = monitored_steps n in none_above r j q' b s)
