-- The priority rule of 001 and 002, definition 8, over what the disabler leaves of the system: the engine's outranked and eligible interactions.
use mathlib.Core.Path.{◌≡◌, refl, ap}
use mathlib.Core.Logic.{◌↔◌}
use Prim.Native.Nat.{ℕ, ◌<◌}
use mathlib.Core.Bool.{Bool, true, false, not}
use Rattle.semantics.specs.Plan.{Plan, interactions}
use Rattle.semantics.specs.Code.{State}
use Rattle.semantics.specs.Rules.{plan_refusal}
use Rattle.semantics.specs.Move.{outranked, eligible, fired}
use Rattle.bip.specs.Steps.{Q, Composite, fire, Below, Ranked, ranked}
use Rattle.bip.specs.Disabler.{Disabler, Undisabled, RankedUnder}
use Rattle.semantics.proofs.Basics.{bool_cases, absurd_bool, not_no}
use Rattle.semantics.proofs.Ranking.{outranked_exactly, unoutranked, eligible-enabled, eligible-top, eligible-from}
use Rattle.bip.proofs.Composites.{move_is_step, step_enabled, chosen_exactly}

-- an interaction that has a step is one of the plan's
pub composite_low : {p : Plan} {q q' : State} {i : ℕ} → Composite p q i q' → i < interactions p
composite_low (fire l g parts others state) = l

-- a step under the priorities is a step
pub ranked_steps : {p : Plan} {S : Type 0} {step : S → ℕ → S → Type 0} {q q' : S} {i : ℕ} → Ranked p step q i q' → step q i q'
ranked_steps (ranked s none) = s

pub none_above : {p : Plan} {S : Type 0} {step : S → ℕ → S → Type 0} {q q' : S} {i : ℕ} → Ranked p step q i q' → (j : ℕ) (q'' : S) → Below p i j → step q j q'' → ⊥
none_above (ranked s none) = none

-- the interactions that the disabler keeps disabled
abbrev pub disabled_by : Disabler → ℕ → Bool
disabled_by d i = not (d.enab i)

module _ (p : Plan) (z : plan_refusal p ≡ 0) (q : State) (h : Q p q) (d : Disabler) (i : ℕ) (l : i < interactions p) where
  -- 002 definition 8, the premise: not outranked exactly when no interaction above that the disabler has enabled has a step
  pub priority_premise : outranked p q (disabled_by d) i ≡ false ↔ ((j : ℕ) (q'' : State) → Below p i j → Undisabled p d q j q'' → ⊥)
  priority_premise = (
    (λ n j q'' b (s, on).
        let k = composite_low s.step in
        absurd_bool ((outranked_exactly p q (disabled_by d) i).1 (j, k, b, ((chosen_exactly p z q h j k q'').0 s).0, ap not on)) n),
    (λ none.
        bool_cases (outranked p q (disabled_by d) i)
        (λ o.
        let (j, k, b, e, on) = (outranked_exactly p q (disabled_by d) i).0 o in
        absurd (none j (fired p q j) b ((chosen_exactly p z q h j k (fired p q j)).1 (e, refl), not_no (d.enab j) on)))
        (λ o. o)),
  )

  -- so an interaction has a step under the priorities exactly where it is eligible and not disabled
  pub ranked_exactly : (q' : State) → RankedUnder p d q i q' ↔ ((eligible p q (disabled_by d) i ≡ true) × (d.enab i ≡ true) × (q' ≡ fired p q i))
  ranked_exactly q' = (
    (λ r.
        let (s, on) = ranked_steps r in
        let (e, same) = (chosen_exactly p z q h i l q').0 s in
        (eligible-from p q (disabled_by d) i e (priority_premise.1 (none_above r)), on, same)),
    (λ (e, on, same).
        ranked ((chosen_exactly p z q h i l q').1 (eligible-enabled p q (disabled_by d) i e, same), on) (priority_premise.0 (eligible-top p q (disabled_by d) i e))),
  )

-- Definition 8 as the papers print it, over the steps of definition 7: an interaction has a step under it exactly where it is eligible with no marks
pub printed_exactly : (p : Plan) → plan_refusal p ≡ 0 → (q : State) → Q p q → (i : ℕ) → i < interactions p
    → eligible p q (λ j. false) i ≡ true ↔ ((q' : State) × Ranked p (Composite p) q i q')
printed_exactly p z q h i l = (
  (λ e. (
    fired p q i,
    ranked (move_is_step p z q h i l (eligible-enabled p q (λ j. false) i e)).step
        (λ j q'' b s.
        let k = composite_low s in
        absurd_bool ((outranked_exactly p q (λ j. false) i).1 (j, k, b, step_enabled p z q h j k q'' s, refl)) (eligible-top p q (λ j. false) i e)),
  )),
  (λ (q', r).
      eligible-from p q (λ j. false) i (step_enabled p z q h i l q' (ranked_steps r))
      (unoutranked p q (λ j. false) i (λ j k b e. absurd (none_above r j (fired p q j) b (move_is_step p z q h j k e).step)))),
)
