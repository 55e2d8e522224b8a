-- The ranks of an accepted plan are a strict order on its interactions, as BIP's priorities are.
use mathlib.Core.Path.{◌≡◌}
use Prim.Native.Nat.{ℕ, ◌<◌}
use mathlib.Core.Bool.{true, false, ◌&&◌}
use lib.Dec.{ltb}
use Rattle.semantics.specs.Bytes.{implies, every}
use Rattle.semantics.specs.Plan.{Plan, max_interactions, interactions, below}
use Rattle.semantics.specs.Rules.{rank_ok, plan_refusal}
use Rattle.semantics.proofs.Basics.{not_yes, both_and, implies-at, each, every-at, ltb-true}
use Rattle.semantics.proofs.AcceptedPlan.{Accepted, accepted_plan}

pub record Order (p : Plan) : Type 0 where
  -- what lies above an interaction is one of the plan's
  pub bounded : (i j : ℕ) → i < interactions p → j < max_interactions → below p i j ≡ true → j < interactions p
  pub irreflexive : (i : ℕ) → i < interactions p → below p i i ≡ false
  pub transitive : (i j k : ℕ) → i < interactions p → j < interactions p → k < interactions p → below p i j ≡ true → below p j k ≡ true → below p i k ≡ true

pub rank_order : (p : Plan) → plan_refusal p ≡ 0 → Order p
unfolding rank_ok
rank_order p e =
    let a : Accepted p = accepted_plan p e in
    record {
      bounded =
          λ i j h l b.
          let (low, _) = each _ (a.rank i h) in ltb-true _ _ (implies-at (below p i j) (ltb j (interactions p)) (every-at max_interactions _ low j l) b);
      irreflexive = λ i h. let (_, (own, _)) = each _ (a.rank i h) in not_yes (below p i i) own;
      transitive =
          λ i j k h l m b d.
          let (_, (_, (on, _))) = each _ (a.rank i h) in
          implies-at (below p i j && below p j k) (below p i k)
          (every-at (interactions p) (λ x. implies (below p i j && below p j x) (below p i x))
          (every-at (interactions p) (λ y. every (interactions p) (λ x. implies (below p i y && below p y x) (below p i x))) on j l) k m)
          (both_and b d);
    }
