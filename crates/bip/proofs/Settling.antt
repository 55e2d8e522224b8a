-- A settling in the papers' terms, on any image that is not refused: what it commits is the lowest interaction that the priority rule over the monitor's commits
-- lets be done; it is penned where the monitor commits none, and what it marks is rule 3 for each interaction that the rule takes back.
use mathlib.Core.Path.{◌≡◌, refl, sym, ap, ◌∙◌, subst}
use mathlib.Core.Logic.Iff
use mathlib.Core.Logic.{◌↔◌, ◌⊎◌, inl, inr}
use Prim.Native.Nat.{ℕ, ◌<◌}
use mathlib.Core.Bool.{true, false}
use Rattle.semantics.specs.Bytes.{bit, mask}
use Rattle.semantics.specs.Plan.{Plan, interactions}
use Rattle.semantics.specs.Code.{State}
use Rattle.semantics.specs.Move.{Configuration, enabled, after, good, safe, may_commit}
use Rattle.semantics.specs.Image.{Image, marks_of, configuration_of}
use Rattle.semantics.specs.Calls.{committed, stalled, penned, settle, call_rules, called}
use Rattle.semantics.proofs.Basics.{bool_cases, absurd_bool}
use Rattle.semantics.proofs.RuleLists.{Kept}
use Rattle.semantics.proofs.RefusedUnchanged.{Refused}
use Rattle.semantics.proofs.RefusalConditions.{calling}
use Rattle.semantics.proofs.Ranking.{safe-enabled, safe-good, safe-from}
use Rattle.semantics.proofs.ImagesRead.{marked_same}
use Rattle.semantics.proofs.PennedExactly.{Stuck, penned_exactly}
use Rattle.semantics.proofs.ExactAnswers.{unrefused_exactly, Allowed, allowed_exactly, LowestSafe, settled_exactly, stalled_exactly, bytes_after, penned-bytes}
use Rattle.bip.specs.Steps.{Q, Composite}
use Rattle.bip.specs.Monitor.{CommitStep, CancelStep, RankedCommit}
use Rattle.bip.proofs.Components.{state_of_lem}
use Rattle.bip.proofs.Composites.{enabled_exactly}
use Rattle.bip.proofs.KnownImage.{Known, known, after-held, leaves}
use Rattle.bip.proofs.MonitorRules.{chosen-moves, monitored_low, commit_exactly, cancel_exactly, ranked_commit_exactly}
use Rattle.bip.proofs.Priorities.{composite_low}

-- the priority rule over commits lets interaction i be done in the configuration c, and none lower
pub record LowestDone (p : Plan) (c : Configuration) (i : ℕ) : Type 0 where
  pub done : (d : Configuration) × RankedCommit p c i d
  pub none_lower : (j : ℕ) (d : Configuration) → j < i → RankedCommit p c j d → ⊥

-- what a settling on the image b is, of the system and its monitor
pub record SettleIs (p : Plan) (b : Image) : Type 0 where
  -- it commits i exactly where the rule lets i be done, and none lower
  pub commits_exactly : (i : ℕ) → (called p b settle).answer ≡ committed i ↔ LowestDone p (configuration_of b) i
  -- a commit leaves the configuration that the rule leads to
  pub leads : (i : ℕ) → (called p b settle).answer ≡ committed i → RankedCommit p (configuration_of b) i (configuration_of (called p b settle).image)
  -- it is stalled exactly where no interaction has a step
  pub stalls_exactly : (called p b settle).answer ≡ stalled ↔ ((i : ℕ) (q' : State) → Composite p (configuration_of b).state i q' → ⊥)
  -- it is penned exactly where some interaction has a step and the monitor commits none
  pub pens_exactly : (called p b settle).answer ≡ penned
      ↔ ((i : ℕ) × (q' : State) × Composite p (configuration_of b).state i q') × ((i : ℕ) (d : Configuration) → CommitStep p (configuration_of b) i d → ⊥)
  -- penned marks exactly the interactions that rule 3 takes back
  pub marks_exactly : (called p b settle).answer ≡ penned → (i : ℕ) → bit (marks_of (called p b settle).image) i ≡ true ↔ CancelStep p (configuration_of b) i (configuration_of b)
  -- stalled and penned leave the configuration as it was
  pub restores_whole : ((called p b settle).answer ≡ stalled) ⊎ ((called p b settle).answer ≡ penned) → configuration_of (called p b settle).image ≡ configuration_of b

module _ (p : Plan) (b : Image) (k : Known p b) where
  abbrev c : Configuration
  c = configuration_of b

  done_exactly : (i : ℕ) (d : Configuration) → RankedCommit p c i d ↔ ((i < interactions p) × (may_commit p c i ≡ true) × (d ≡ after p c i))
  done_exactly i = ranked_commit_exactly p k.plan c k.sound i

  done : (i : ℕ) → Allowed p c i → RankedCommit p c i (after p c i)
  done i a = (done_exactly i (after p c i)).1 (a.number<, (allowed_exactly p c i a.number<).1 a, refl)

  done-allowed : (i : ℕ) (d : Configuration) → RankedCommit p c i d → Allowed p c i
  done-allowed i d r = let (l, m, _) = (done_exactly i d).0 r in (allowed_exactly p c i l).0 m

  lowest-done : (i : ℕ) → LowestSafe p c i → LowestDone p c i
  lowest-done i s = record { done = (after p c i, done i s.allowed); none_lower = λ j d l r. s.lowest j l (done-allowed j d r) }

  done-lowest : (i : ℕ) → LowestDone p c i → LowestSafe p c i
  done-lowest i s =
      let (d, r) = s.done in record { allowed = done-allowed i d r; lowest = λ j l a. s.none_lower j (after p c j) l (done j a) }

  is_state : Q p c.state
  is_state = state_of_lem p k.plan c k.sound

  stepping : (i : ℕ) → i < interactions p → enabled p c.state i ≡ true ↔ ((q' : State) × Composite p c.state i q')
  stepping i l = enabled_exactly p k.plan c.state is_state i l

  commits-safe : (i : ℕ) → i < interactions p → (d : Configuration) → CommitStep p c i d ↔ ((safe p c i ≡ true) × (d ≡ after p c i))
  commits-safe i l = commit_exactly p k.plan c k.sound i l

  stuck_exactly : Stuck p c ↔ ((i : ℕ) × (q' : State) × Composite p c.state i q') × ((i : ℕ) (d : Configuration) → CommitStep p c i d → ⊥)
  stuck_exactly = (
    (λ s.
        let (i, l, e) = s.some-enabled in
        let (q', m) = (stepping i l).0 e in (
          (i, q', m),
          λ j d n.
              let h = monitored_low chosen-moves n in
              let y = ((commits-safe j h d).0 n).0 in
              absurd_bool (safe-good p c j y) (s.all_bad j h (safe-enabled p c j y)),
        )),
    (λ ((i, q', m), none).
        record {
          some-enabled = (i, composite_low m, (stepping i (composite_low m)).1 (q', m));
          all_bad = λ j l e. bool_cases (good p (after p c j)) (λ g. absurd (none j (after p c j) ((commits-safe j l (after p c j)).1 (safe-from p c j e g, refl)))) (λ g. g);
        }),
  )

  undone_exactly : (i : ℕ) → i < interactions p → CancelStep p c i c ↔ ((enabled p c.state i ≡ true) × (good p (after p c i) ≡ false) × (c ≡ c))
  undone_exactly i l = cancel_exactly p k.plan c k.sound i l c

pub settle_is : (p : Plan) (b : Image) → ¬ Refused (called p b settle).answer → SettleIs p b
unfolding call_rules bytes_after
settle_is p b f =
    let c : Configuration = configuration_of b in
    let kept : Kept (call_rules p b settle) = (unrefused_exactly p (calling b settle)).0 f in
    let k : Known p b = known p b kept in
    record {
      commits_exactly = λ i. ((λ e. lowest-done p b k i ((settled_exactly p b i).0 e).1), (λ d. (settled_exactly p b i).1 (kept, done-lowest p b k i d)));
      leads = λ i e.
          let s = ((settled_exactly p b i).0 e).1 in
          let a = s.allowed in
          subst (RankedCommit p c i) (sym (ap configuration_of (leaves p b settle e) ∙ after-held p k.plan c k.sound i a.number< a.is_enabled))
          (done p b k i a);
      stalls_exactly = (
        (λ e i q' m. absurd_bool ((stepping p b k i (composite_low m)).1 (q', m)) (((stalled_exactly p b).0 e).1 i (composite_low m))),
        (λ none. (stalled_exactly p b).1 (
          kept,
          λ i l. bool_cases (enabled p c.state i) (λ e. let (q', m) = (stepping p b k i l).0 e in absurd (none i q' m)) (λ e. e),
        )),
      );
      pens_exactly = Iff.trans (penned_exactly p b f) (stuck_exactly p b k);
      marks_exactly = λ e i.
          let s : Stuck p c = (penned_exactly p b f).0 e in
          let bits = (penned-bytes p b e).marks i in (
            (λ t. let (n, on) = bits.0 t in (undone_exactly p b k i n).1 (on, s.all_bad i n on, refl)),
            (λ m. let n = monitored_low chosen-moves m in bits.1 (n, ((undone_exactly p b k i n).0 m).0)),
          );
      restores_whole = λ r. elim r [
        | inl e ↦ ap configuration_of (leaves p b settle e)
        | inr e ↦ ap configuration_of (leaves p b settle e) ∙ marked_same b (mask (interactions p) (enabled p c.state)) k.long
      ];
    }
