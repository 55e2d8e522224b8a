-- What stands in a mask: outranked by a row of the ranks, and what is on offer.
use mathlib.Core.Path.{◌≡◌, refl, ap₂, ◌∙◌}
use Prim.Native.Nat.{ℕ, ◌≤◌, ◌<◌}
use native.Mathlib.Omega.{arith}
use mathlib.Core.Bool.{Bool, true, false, not, ◌&&◌, and-false}
use mathlib.Core.List.{[], ◌∷◌}
use lib.Dec.{ltb}
use Rattle.semantics.specs.Bytes.{all_of, implies, some_below, bit, mask}
use Rattle.semantics.specs.Plan.{Plan, interactions, rank_row, below}
use Rattle.semantics.specs.Code.{State}
use Rattle.semantics.specs.Rules.{rank_ok, plan_refusal}
use Rattle.semantics.specs.Move.{enabled, outranked, eligible}
use Rattle.semantics.proofs.Basics.{bool_cases, and_both, implies-at, each, ltb-true, every-at, some_wider}
use Rattle.semantics.proofs.Masks.{mask_same}
use Rattle.semantics.proofs.Ranking.{outranked_in}
use Rattle.semantics.proofs.AcceptedPlan.{accepted_plan}
use Rattle.layout.proofs.Sections.{laid_accepted}
use Rattle.ranks.specs.Standing.{stands, standing}

-- ---- outranked, by a row of the ranks

-- what lies above an interaction is one: of the 64 bits of a row of the ranks, those of interactions alone are set
pub above_inside : (p : Plan) (i k : ℕ) → plan_refusal p ≡ 0 → i < interactions p → k < 64 → below p i k ≡ true → k < interactions p
unfolding rank_ok
above_inside p i k h l n e =
    let r = every-at 64 (λ j. implies (below p i j) (ltb j (interactions p))) (each _ ((accepted_plan p h).rank i l)).0 k n in
    ltb-true _ _ (implies-at (below p i k) (ltb k (interactions p)) r e)

pub row_outranks : (p : Plan) (m i : ℕ) → plan_refusal p ≡ 0 → i < interactions p
    → some_below 64 (λ j. bit (rank_row p i) j && bit m j) ≡ some_below (interactions p) (λ j. below p i j && bit m j)
unfolding below
row_outranks p m i h l =
    some_wider (interactions p) 64 (λ j. below p i j && bit m j) (λ j. bit (rank_row p i) j && bit m j) (laid_accepted p h).interactions≤ (λ k q. refl)
    (λ k q n. bool_cases (bit (rank_row p i) k && bit m k) (λ e. absurd (high k q n (and_both (bit (rank_row p i) k) (bit m k) e).0)) (λ e. e))
  where
    high : (k : ℕ) → interactions p ≤ k → k < 64 → below p i k ≡ true → ⊥
    high k q n e = let w = above_inside p i k h l n e in omega arith

-- ---- what stands

pub stands_in : (p : Plan) (m j : ℕ) → stands p m j ≡ true → bit m j ≡ true
unfolding stands
stands_in p m j e = (each _ e).0

pub stands-yes : (p : Plan) (m i : ℕ) → bit m i ≡ true → some_below (interactions p) (λ j. below p i j && bit m j) ≡ false → stands p m i ≡ true
unfolding stands all_of
stands-yes p m i b e = rw (b, e) refl

pub stands_no : (p : Plan) (m i : ℕ) → some_below (interactions p) (λ j. below p i j && bit m j) ≡ true → stands p m i ≡ false
unfolding stands all_of
stands_no p m i e = rw e (and-false (bit m i))

-- ---- the meaning: what stands in the mask of the enabled, unmarked interactions is on offer

pub standing_offered : (p : Plan) (s : State) (marked : ℕ → Bool) (m : ℕ) → ((j : ℕ) → j < interactions p → bit m j ≡ (enabled p s j && not (marked j)))
    → standing p m ≡ mask (interactions p) (λ i. all_of (eligible p s marked i ∷ not (marked i) ∷ []))
unfolding standing stands eligible all_of
standing_offered p s marked m e =
    mask_same (interactions p) (λ i. all_of (eligible p s marked i ∷ not (marked i) ∷ [])) (stands p m)
    (λ k l. ap₂ (λ (x y : Bool). all_of (x ∷ not y ∷ [])) (e k l) (outranked_in p s marked k m e) ∙ swap (enabled p s k) (not (marked k)) (outranked p s marked k))
  where
    swap : (a b o : Bool) → all_of ((a && b) ∷ not o ∷ []) ≡ all_of (all_of (a ∷ not o ∷ []) ∷ b ∷ [])
    swap true true true = refl
    swap true true false = refl
    swap true false true = refl
    swap true false false = refl
    swap false b o = refl
