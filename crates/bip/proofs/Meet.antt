-- The oracles of an accepted plan denote the meet of their properties (02, job 1): where no verdict is 1 a safety property, which is 1-step tolerant (002 section 4,
-- definitions 11 and 14, proposition 2).
use mathlib.Core.Path.{◌≡◌, subst}
use mathlib.Core.Logic.Iff
use mathlib.Core.Logic.{◌↔◌, inr}
use Prim.Native.Nat.{ℕ, ◌<◌}
use mathlib.Core.Bool.{true}
use mathlib.Core.List.{List, ◌∷◌}
use lib.ListN.{get_or}
use Rattle.semantics.specs.Plan.{Plan, oracles, start_states, verdict}
use Rattle.semantics.specs.Rules.{plan_refusal}
use Rattle.semantics.specs.Move.{oracles_in_range}
use Rattle.bip.specs.Steps.{Path}
use Rattle.bip.specs.Property.{Meet, Safety, Throughout, Tolerant}
use Rattle.bip.specs.Monitor.{Letter, AllowsAlone, DenotesAlone, Reads, Verdict, Forbids, Denotes}
use Rattle.semantics.proofs.AcceptedPlan.{accepted_plan}
use Rattle.semantics.proofs.Oracles.{start_in_range}
use Rattle.bip.proofs.SafetyProperty.{safety_tolerant, throughout_same, same_safety, same_evaluates, meet_safety, meet_always, meet_never, Judges}
use Rattle.bip.proofs.OracleTables.{reads_once_alone, NeverOne, denotes_alone_safety, verdict_is_alone}
use Rattle.bip.proofs.OracleRules.{reads_once, all_allow, not_both, path_in_range, oracles_read, path_alone, each_allows, each_true}

module _ (p : Plan) (accepted : plan_refusal p ≡ 0) where
  start_low : oracles_in_range p (start_states p) ≡ true
  start_low = start_in_range p (accepted_plan p accepted)

  -- 02, job 1: several oracles denote the meet of their properties.
  pub denotes_meet : (σ : List (Letter p)) → Denotes p σ ↔ Meet (oracles p) (DenotesAlone p) σ
  denotes_meet σ = (
    (λ (θ, r, a) n l. (get_or θ n 0, path_alone p accepted n l r, each_allows p accepted θ (path_in_range p accepted r start_low) n l a)),
    (λ each.
        let (θ, r, _) = oracles_read p accepted (start_states p) start_low σ in
        (θ, r, all_allow p θ (λ n l. let (t, q, a) = each n l in subst (AllowsAlone p n) (reads_once_alone q (path_alone p accepted n l r)) a))),
  )

  meet_denotes : (σ : List (Letter p)) → Meet (oracles p) (DenotesAlone p) σ ↔ Denotes p σ
  meet_denotes σ = Iff.symm (denotes_meet σ)

  module _ (no_1 : (n : ℕ) → n < oracles p → NeverOne p n) where
    -- 002 section 4: so the property that oracles without verdict 1 denote is a safety property.
    pub denotes_safety : Safety (Denotes p)
    denotes_safety = same_safety meet_denotes (meet_safety (oracles p) (DenotesAlone p) (λ n l. denotes_alone_safety p accepted n l (no_1 n l)))

    -- 002 proposition 2, of that property.
    pub denotes_tolerant : Tolerant 1 (Denotes p)
    denotes_tolerant = safety_tolerant (Denotes p) denotes_safety

    -- What is in it throughout, which is what single moves enforce, is then what is in it.
    pub denotes_throughout : (e : Letter p) (σ : List (Letter p)) → Throughout (Denotes p) (e ∷ σ) ↔ Denotes p (e ∷ σ)
    denotes_throughout = throughout_same (Denotes p) denotes_safety

  -- 002 section 4 and definition 14, for the state that the oracles reach on σ.
  pub verdict_is : (σ : List (Letter p)) (θ : List ℕ) → Path (Reads p) (start_states p) σ θ → Judges (Denotes p) σ (Verdict p θ)
  verdict_is σ θ r =
      record {
        on_3 = λ v. same_evaluates meet_denotes
            (meet_always (oracles p) (DenotesAlone p) (λ n l. (alone n l).on_3 (each_true p accepted θ (path_in_range p accepted r start_low) n l v)));
        on_0 = λ v. let (n, l, e) = v.reached in same_evaluates meet_denotes (meet_never (oracles p) (DenotesAlone p) n l ((alone n l).on_0 e));
        on_2 = λ v. (θ, r, inr v);
        on_1 = λ v (t, q, a). not_both p t a (subst (Forbids p) (reads_once r q) (inr v));
      }
    where
      alone : (n : ℕ) → n < oracles p → Judges (DenotesAlone p n) σ (λ v. verdict p n (get_or θ n 0) ≡ v)
      alone n l = verdict_is_alone p accepted n l σ (get_or θ n 0) (path_alone p accepted n l r)
