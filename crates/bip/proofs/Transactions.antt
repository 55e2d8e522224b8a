-- A list of moves (02, job 6) in the terms of the published rules: the engine's lists are exactly the transactions under the tolerance of their own length (002, definition 11,
-- remark 1 and section 9).
use mathlib.Core.Path.{◌≡◌, refl, sym, ap, ◌∙◌, subst}
use mathlib.Core.Logic.{◌↔◌, inr}
use Prim.Native.Nat.{ℕ, suc, ◌+◌, ◌<◌}
use native.Mathlib.Omega.{arith}
use mathlib.Core.Bool.{true}
use mathlib.Core.List.{List, [], ◌∷◌, ◌++◌, append_assoc, append-nil}
use lib.ListN.{length, length-append}
use Rattle.semantics.specs.Plan.{Plan, interactions, start_states}
use Rattle.semantics.specs.Code.{State}
use Rattle.semantics.specs.Rules.{plan_refusal}
use Rattle.semantics.specs.Move.{Configuration, fired, letter, next_states, judged, after, good, tolerable, replay}
use Rattle.semantics.specs.Load.{passable, entry_allowed, stops_at, completes}
use Rattle.semantics.proofs.Basics.{bool_cases, absurd_bool}
use Rattle.semantics.proofs.AcceptedPlan.{accepted_plan}
use Rattle.semantics.proofs.Sound.{Sound, letter_lt}
use Rattle.semantics.proofs.Loads.{EntryAllowed, allowed_exactly, passable-enabled, passable-tolerable, passable-from, stops_later, first-allowed, completes_all, completes-good, completes-from, entry_sound, sound_replay}
use Rattle.bip.specs.Steps.{Composite, Chosen, ranked, Path, here, further, Trace, still, onward, end_of}
use Rattle.bip.specs.Property.{Throughout, Deviates}
use Rattle.bip.specs.Monitor.{Letter, Reads, Verdict, Allows, Forbids, Tolerates, Denotes, Shows, ended, shown, interactions_of}
use Rattle.bip.specs.Transaction.{PassStep, RankedPass, Transaction}
use Rattle.bip.proofs.Events.{event_of, event_once, tolerable_exactly, good_allows}
use Rattle.bip.proofs.SafetyProperty.{currently_out}
use Rattle.bip.proofs.OracleRules.{reads_is, reads_next, reads_once, not_both}
use Rattle.bip.proofs.Paths.{path_join, path_part, Into, into_throughout}
use Rattle.bip.proofs.MonitorRules.{chosen-moves, step_exactly, read_after}
use Rattle.bip.proofs.Priorities.{composite_low, ranked_steps, none_above}

-- ---- one step

module _ (p : Plan) (ok : plan_refusal p ≡ 0) (c : Configuration) (sound : Sound p c) where
  -- 002 definition 11, one step of a deviation or of none: a step is let pass exactly where it is enabled and its verdict is not 0 (02, job 6)
  pub pass_exactly : (i : ℕ) → i < interactions p → (d : Configuration) → PassStep p c i d ↔ ((passable p c i ≡ true) × (d ≡ after p c i))
  pass_exactly i l d = (to, from)
    where
      to : PassStep p c i d → (passable p c i ≡ true) × (d ≡ after p c i)
      to s =
          let read = reads_is s.reading ∙ ap (next_states p c.oracles) (event_once p d.state s.event s.observed) in
          let (m, same) = read_after p ok c sound i l (Chosen p) chosen-moves d s.moves read in
          let t : Tolerates p (after p c i).oracles = subst (λ (x : Configuration). Tolerates p x.oracles) same s.tolerated in
          (passable-from p c i ((step_exactly p ok c sound i l (fired p c.state i)).0 m).0 ((tolerable_exactly p (after p c i)).1 t), same)

      from : (passable p c i ≡ true) × (d ≡ after p c i) → PassStep p c i d
      from (m, same) =
          let q' = fired p c.state i in
          subst (λ (x : Configuration). PassStep p c i x) (sym same)
          (unfold after judged in (record {
            moves = (step_exactly p ok c sound i l q').1 (passable-enabled p c i m, refl);
            event = (letter p q', letter_lt p q');
            observed = event_of p q';
            reading = reads_next p c.oracles (letter p q', letter_lt p q');
            tolerated = (tolerable_exactly p (after p c i)).0 (passable-tolerable p c i m);
          }))

  pass_low : (i : ℕ) (d : Configuration) → PassStep p c i d → i < interactions p
  pass_low i d s = composite_low s.moves.step

  -- 002 definition 8 over these steps: "no enabled interaction above it leads to a verdict other than 0" (02, job 6)
  pub ranked_pass_exactly : (i : ℕ) (d : Configuration) → RankedPass p c i d ↔ ((entry_allowed p c i ≡ true) × (d ≡ after p c i))
  ranked_pass_exactly i d = (
    (λ r.
        let s = ranked_steps r in
        let l = pass_low i d s in
        let (m, same) = (pass_exactly i l d).0 s in (
          (allowed_exactly p c i).1 (record {
            number< = l;
            is_enabled = passable-enabled p c i m;
            not_bad = passable-tolerable p c i m;
            none_above = λ j h b on.
                bool_cases (tolerable p (after p c j))
                (λ t. absurd (none_above r j (after p c j) b ((pass_exactly j h (after p c j)).1 (passable-from p c j on t, refl)))) (λ t. t);
          }),
          same,
        )),
    (λ (e, same).
        let a : EntryAllowed p c i = (allowed_exactly p c i).0 e in
        ranked ((pass_exactly i a.number< d).1 (passable-from p c i a.is_enabled a.not_bad, same))
        (λ j d' b s.
        let h = pass_low j d' s in
        let m = ((pass_exactly j h d').0 s).0 in
        absurd_bool (passable-tolerable p c j m) (a.none_above j h b (passable-enabled p c j m)))),
  )

-- ---- the list

module _ (p : Plan) (ok : plan_refusal p ≡ 0) where
  path_passes : {c d : Configuration} {is : List ℕ} → Sound p c → Path (RankedPass p) c is d → (stops_at p c is ≡ length is) × (d ≡ replay p c is)
  unfolding replay
  path_passes {c} h here = (unfold stops_at in refl, refl)
  path_passes h (further {s = c} {t} {l = i} {ls = is} r rest) =
      let (e, same) = (ranked_pass_exactly p ok c h i t).0 r in
      let (all, ends) = path_passes (subst (Sound p) (sym same) (entry_sound p (accepted_plan p ok) c h i e)) rest in
      (stops_later p c i is e ∙ ap suc (ap (λ (x : Configuration). stops_at p x is) (sym same) ∙ all), ends ∙ ap (λ (x : Configuration). replay p x is) same)

  passes_path : (c : Configuration) (is : List ℕ) → Sound p c → stops_at p c is ≡ length is → Path (RankedPass p) c is (replay p c is)
  unfolding replay
  passes_path c [] h e = here
  passes_path c (i ∷ is) h e =
      let (a, rest) = first-allowed p c i is e in
      further ((ranked_pass_exactly p ok c h i (after p c i)).1 (a, refl)) (passes_path (after p c i) is (entry_sound p (accepted_plan p ok) c h i a) rest)

  module _ (c : Configuration) (sound : Sound p c) (is : List ℕ) where
    -- a transaction leads where its moves do
    pub transaction_ends : (k : ℕ) (d : Configuration) → Transaction p k c is d → d ≡ replay p c is
    transaction_ends k d t = (path_passes sound t.steps).1

    good_at_end : stops_at p c is ≡ length is → good p (replay p c is) ≡ true ↔ Allows p (replay p c is).oracles
    good_at_end e = good_allows p ok (replay p c is) (sound_replay p (accepted_plan p ok) c sound is e).in_range

    -- 02, job 6: a list is committed exactly where it is a transaction under the tolerance of its own length
    pub list_exactly : completes p c is ≡ true ↔ Transaction p (length is) c is (replay p c is)
    list_exactly = (
      (λ e.
          let all = completes_all p c is e in
          record { many = refl; steps = passes_path c is sound all; ends = (good_at_end all).0 (completes-good p c is e) }),
      (λ t. let (all, _) = path_passes sound t.steps in completes-from p c is all ((good_at_end all).1 t.ends)),
    )

-- ---- its events

-- what k steps that pass are, of the system and the oracles
pub record Judged (p : Plan) (k : ℕ) (c : Configuration) (is : List ℕ) (d : Configuration) : Type 0 where
  -- a trace of the system through the interactions is,
  pub trace : List (ℕ × State)
  pub through : interactions_of trace ≡ is
  pub steps : Trace (Chosen p) c.state trace
  pub ends : end_of c.state trace ≡ d.state
  -- an event for each step, of the state that it leads to,
  pub events : List (Letter p)
  pub many : length events ≡ k
  pub shows : Shows p trace events
  -- and the oracles read them one by one, to a verdict that is not ⊥ each time
  pub reading : Path (Into (Reads p) (Tolerates p)) c.oracles events d.oracles

-- steps that pass, ranked or not, have an event each
pub path_judged : {p : Plan} {c d : Configuration} {is : List ℕ} → Path (PassStep p) c is d → Judged p (length is) c is d
unfolding end_of
path_judged here = record { trace = []; through = refl; steps = still; ends = refl; events = []; many = refl; shows = ended; reading = here }
path_judged (further {t} {l = i} s rest) =
    let j = path_judged rest in
    record {
      trace = (i, t.state) ∷ j.trace;
      through = ap (i ∷◌) j.through;
      steps = onward s.moves j.steps;
      ends = j.ends;
      events = s.event ∷ j.events;
      many = ap suc j.many;
      shows = shown s.observed j.shows;
      reading = further (s.reading, s.tolerated) j.reading;
    }

module _ {p : Plan} {k : ℕ} {c d : Configuration} {is : List ℕ} where
  -- the steps of a list pass
  pub list-passes : Transaction p k c is d → Path (PassStep p) c is d
  list-passes t = path_part (λ (x : Configuration). x) (λ x i y r. ranked_steps r) t.steps

  -- 02, job 6: a list of k moves has k events
  pub list_events : Transaction p k c is d → Judged p k c is d
  list_events t = subst (λ (n : ℕ). Judged p n c is d) t.many (path_judged (list-passes t))

  -- which the oracles read,
  pub list_read : (j : Judged p k c is d) → Path (Reads p) c.oracles j.events d.oracles
  list_read j = path_part (λ (θ : List ℕ). θ) (λ θ e θ' r. r.0) j.reading

  -- with the verdict not ⊥ throughout
  pub list_tolerated : (j : Judged p k c is d) → Throughout (λ σ. (θ : List ℕ) × Path (Reads p) c.oracles σ θ × Tolerates p θ) j.events
  list_tolerated j = into_throughout (Reads p) (Tolerates p) j.reading

  -- a list handed in commits only steps of the composite system (001 and 002, definition 7)
  pub list_composite : Transaction p k c is d → Path (Composite p) c.state is d.state
  list_composite t = path_part (λ (x : Configuration). x.state) (λ x i y s. s.moves.step) (list-passes t)

-- ---- deviations

module _ {p : Plan} {k : ℕ} {c d : Configuration} {is : List ℕ} (t : Transaction p k c is d) (some : 0 < k) (j : Judged p k c is d) where
  -- events that do not lead to the end are not all of them
  unfinished : (σ rest : List (Letter p)) → j.events ≡ σ ++ rest → (Path (Reads p) c.oracles σ d.oracles → ⊥) → length σ < k
  unfinished σ [] e else = absurd (else (subst (λ (τ : List (Letter p)). Path (Reads p) c.oracles τ d.oracles) (e ∙ append-nil σ) (list_read j)))
  unfinished σ (a ∷ rest) e else = shorter (length σ) (length rest) (sym (length-append σ (a ∷ rest)) ∙ sym (ap length e) ∙ j.many)
    where
      shorter : (m n : ℕ) → m + suc n ≡ k → m < k
      shorter m n h = omega (arith, h)

  -- and a part of them is no longer
  part_short : (σ' σ : List (Letter p)) → length (σ' ++ σ) < k → length σ < k
  part_short σ' σ l = let h = length-append σ' σ in omega (arith, h, l)

  -- 002 definition 11, for the lists that the engine commits: what deviates within one, from the property that the oracles denote and behind any of its points, is
  -- shorter than its tolerance k; τ was read before it
  pub deviation_short : (τ : List (Letter p)) → Path (Reads p) (start_states p) τ c.oracles → (σ' σ rest : List (Letter p)) → j.events ≡ (σ' ++ σ) ++ rest
      → Deviates (Denotes p) (τ ++ σ') σ → length σ < k
  deviation_short τ before σ' [] rest e out = some
  deviation_short τ before σ' (a ∷ σ) rest e out =
      part_short σ' (a ∷ σ) (unfinished (σ' ++ (a ∷ σ)) rest e
      (λ r. currently_out (out a σ [] (sym (append-nil (a ∷ σ)))) (
        d.oracles,
        subst (λ (ρ : List (Letter p)). Path (Reads p) (start_states p) ρ d.oracles) (sym (append_assoc τ σ' (a ∷ σ))) (path_join before r),
        t.ends,
      )))

  -- and so are events that leave the verdict at ⊥_c one after the other
  pub verdict_1_short : (σ' σ rest : List (Letter p)) → j.events ≡ (σ' ++ σ) ++ rest
      → Throughout (λ τ. (θ : List ℕ) × Path (Reads p) c.oracles (σ' ++ τ) θ × Verdict p θ 1) σ → length σ < k
  verdict_1_short σ' [] rest e one = some
  verdict_1_short σ' (a ∷ σ) rest e one =
      let (θ, r, v) = one a σ [] (sym (append-nil (a ∷ σ))) in
      part_short σ' (a ∷ σ) (unfinished (σ' ++ (a ∷ σ)) rest e (λ q. not_both p d.oracles t.ends (subst (Forbids p) (reads_once r q) (inr v))))
