-- A try in the papers' terms, on any image that is not refused: a commit is rule 2 of 002 definition 16 under the priority rule over commits, a cancelled move
-- rule 3.
use mathlib.Core.Path.{◌≡◌, refl, sym, ap, ◌∙◌, subst}
use mathlib.Core.Logic.{◌↔◌, ◌⊎◌, inl, inr}
use Prim.Native.Nat.{ℕ, ◌<◌}
use mathlib.Core.Bool.{true, false}
use mathlib.Core.List.{◌++◌}
use Rattle.semantics.specs.Bytes.{with_bit}
use Rattle.semantics.specs.Plan.{Plan, interactions}
use Rattle.semantics.specs.Rules.{plan_rules}
use Rattle.semantics.specs.Move.{Configuration, enabled, after, good, may_commit}
use Rattle.semantics.specs.Image.{Image, marks_of, configuration_of, image_rules}
use Rattle.semantics.specs.Calls.{committed, cancelled, clerk_rules, try, call_rules, called}
use Rattle.semantics.proofs.Basics.{bool_cases, ltb-true}
use Rattle.semantics.proofs.RuleLists.{Kept, kept_append}
use Rattle.semantics.proofs.RefusedUnchanged.{Refused}
use Rattle.semantics.proofs.RefusalConditions.{calling}
use Rattle.semantics.proofs.Ranking.{commit_good}
use Rattle.semantics.proofs.ImagesRead.{marked_same}
use Rattle.semantics.proofs.ExactAnswers.{unrefused_exactly, committed_exactly, cancelled_exactly, allowed_exactly, tried_above, tried-allowed, bytes_after}
use Rattle.bip.specs.Monitor.{CancelStep, RankedCommit, NoneAbove}
use Rattle.bip.proofs.KnownImage.{Known, known, after-held, leaves}
use Rattle.bip.proofs.MonitorRules.{cancel_exactly, commit_premise, ranked_commit_exactly}

-- what a try of i on the image b is, of the system and its monitor
pub record TryIs (p : Plan) (b : Image) (i : ℕ) : Type 0 where
  -- it commits or it cancels
  pub one_of_two : ((called p b (try i)).answer ≡ committed i) ⊎ ((called p b (try i)).answer ≡ cancelled i)
  -- it commits exactly where rule 2 lets the interaction be done, and none above it
  pub commits_exactly : (called p b (try i)).answer ≡ committed i ↔ ((d : Configuration) × RankedCommit p (configuration_of b) i d)
  -- it cancels exactly where rule 3 takes the interaction back
  pub cancels_exactly : (called p b (try i)).answer ≡ cancelled i ↔ ((d : Configuration) × CancelStep p (configuration_of b) i d)
  -- a commit leaves the configuration that rule 2 leads to
  pub leads : (called p b (try i)).answer ≡ committed i → RankedCommit p (configuration_of b) i (configuration_of (called p b (try i)).image)
  -- a cancelled try is a step of rule 3
  pub takes_back_lem : (called p b (try i)).answer ≡ cancelled i → CancelStep p (configuration_of b) i (configuration_of (called p b (try i)).image)
  -- above which nothing commits
  pub none_above : (called p b (try i)).answer ≡ cancelled i → NoneAbove p (configuration_of b) i
  -- and leaves the configuration as it was
  pub restores_whole : (called p b (try i)).answer ≡ cancelled i → configuration_of (called p b (try i)).image ≡ configuration_of b

-- what a try of i that is not refused knows
record Unrefused (p : Plan) (b : Image) (i : ℕ) : Type 0 where
  kept : Kept (call_rules p b (try i))
  image : Known p b
  number< : i < interactions p
  is_enabled : enabled p (configuration_of b).state i ≡ true

unrefused : (p : Plan) (b : Image) (i : ℕ) → ¬ Refused (called p b (try i)).answer → Unrefused p b i
unfolding call_rules clerk_rules
unrefused p b i f =
    let h = (unrefused_exactly p (calling b (try i))).0 f in
    let (first, (number, (on, _))) = (kept_append (plan_rules p ++ image_rules p b) (clerk_rules p b i)).0 h in
    record { kept = h; image = known p b first; number< = ltb-true _ _ number; is_enabled = on }

module _ (p : Plan) (b : Image) (i : ℕ) (u : Unrefused p b i) where
  abbrev c : Configuration
  c = configuration_of b

  done_exactly : (d : Configuration) → RankedCommit p c i d ↔ ((i < interactions p) × (may_commit p c i ≡ true) × (d ≡ after p c i))
  done_exactly = ranked_commit_exactly p u.image.plan c u.image.sound i

  undone_exactly : (d : Configuration) → CancelStep p c i d ↔ ((enabled p c.state i ≡ true) × (good p (after p c i) ≡ false) × (d ≡ c))
  undone_exactly = cancel_exactly p u.image.plan c u.image.sound i u.number<

  done : (called p b (try i)).answer ≡ committed i → RankedCommit p c i (after p c i)
  done e = (done_exactly (after p c i)).1 (u.number<, (allowed_exactly p c i u.number<).1 (tried-allowed p b i e), refl)

  undone : (called p b (try i)).answer ≡ cancelled i → CancelStep p c i c
  undone e = (undone_exactly c).1 (u.is_enabled, ((cancelled_exactly p b i).0 e).1, refl)

  moved : (called p b (try i)).answer ≡ committed i → configuration_of (called p b (try i)).image ≡ after p c i
  unfolding bytes_after
  moved e =
      ap configuration_of (leaves p b (try i) e)
      ∙ after-held p u.image.plan c u.image.sound i u.number< u.is_enabled

  whole : (called p b (try i)).answer ≡ cancelled i → configuration_of (called p b (try i)).image ≡ c
  unfolding bytes_after
  whole e = ap configuration_of (leaves p b (try i) e) ∙ marked_same b (with_bit (marks_of b) i) u.image.long

  tried_is : TryIs p b i
  tried_is =
      record {
        one_of_two = bool_cases (good p (after p c i)) (λ g. inl ((committed_exactly p b i).1 (u.kept, g))) (λ g. inr ((cancelled_exactly p b i).1 (u.kept, g)));
        commits_exactly = (
          (λ e. (after p c i, done e)),
          (λ (d, m). (committed_exactly p b i).1 (u.kept, commit_good p c i ((done_exactly d).0 m).1)),
        );
        cancels_exactly = (
          (λ e. (c, undone e)),
          (λ (d, m). (cancelled_exactly p b i).1 (u.kept, ((undone_exactly d).0 m).1)),
        );
        leads = λ e. subst (RankedCommit p c i) (sym (moved e)) (done e);
        takes_back_lem = λ e. subst (CancelStep p c i) (sym (whole e)) (undone e);
        none_above = λ e. (commit_premise p u.image.plan c u.image.sound i).1 (tried_above p b i u.kept);
        restores_whole = whole;
      }

-- 002 definition 16: a try that is not refused, on any image, is a step of the composition
pub try_is : (p : Plan) (b : Image) (i : ℕ) → ¬ Refused (called p b (try i)).answer → TryIs p b i
try_is p b i f = tried_is p b i (unrefused p b i f)
