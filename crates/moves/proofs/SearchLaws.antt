-- Whether a configuration is good, by its oracles. A move that lies below one that
-- leads to a verdict, by the mask of the enabled ones above it.
use mathlib.Core.Path.{◌≡◌, refl, sym, ap, ◌∙◌}
use Prim.Native.Nat.{ℕ, ◌≤◌, ◌<◌}
use native.Mathlib.Nat.{le_trans}
use mathlib.Core.Bool.{Bool, true, false, not, ◌&&◌}
use Rattle.semantics.specs.Bytes.{implies, every, bit, mask}
use Rattle.semantics.specs.Plan.{Plan, interactions, rank_row, below}
use Rattle.semantics.specs.Move.{Configuration, enabled, after, reaches, good, leads_above}
use Rattle.semantics.proofs.Basics.{bool_cases, absurd_bool, same_test, not_yes, and_both, both_and, implies-yes, every_all, every_fails}
use Rattle.semantics.proofs.Masks.{bit-zero, bit_mask, mask-holds}
use Rattle.semantics.proofs.Ranking.{leads_above_exactly}

-- a configuration is good by the states of its oracles
pub ends_good : (p : Plan) (c d : Configuration) → c ≡ d → reaches p 2 c.oracles ≡ good p d
unfolding good
ends_good p c d e = ap (λ (x : Configuration). reaches p 2 x.oracles) e

-- a move does not lead to the verdict
abbrev pub falls_short : Plan → ℕ → Configuration → ℕ → Bool
falls_short p v c j = not (reaches p v (after p c j).oracles)

-- the row of the ranks is 0: no move that leads to a verdict lies above
pub none_above : (p : Plan) (v : ℕ) (c : Configuration) (i : ℕ) → rank_row p i ≡ 0 → false ≡ leads_above p v c i
unfolding below
none_above p v c i e =
    bool_cases (leads_above p v c i) (λ t. let (j, _, b, _, _) = (leads_above_exactly p v c i).0 t in absurd_bool b (ap (λ (x : ℕ). bit x j) e ∙ bit-zero j)) sym

-- the enabled ones above a move, as a mask: one of them leads to the verdict when not each of them does not
module _ (p : Plan) (v : ℕ) (c : Configuration) (i m : ℕ) (is : m ≡ mask (interactions p) (λ j. below p i j && enabled p c.state j)) where
  -- a bit of the mask is such a move
  pub above_held : (j : ℕ) → bit m j ≡ true → (j < interactions p) × (below p i j ≡ true) × (enabled p c.state j ≡ true)
  above_held j e =
      let (l, t) = mask-holds (interactions p) (λ k. below p i k && enabled p c.state k) j (ap (λ (x : ℕ). bit x j) (sym is) ∙ e) in
      let (b, on) = and_both (below p i j) (enabled p c.state j) t in
      (l, b, on)

  pub above_leads : interactions p ≤ 64 → not (every 64 (λ j. implies (bit m j) (not (reaches p v (after p c j).oracles)))) ≡ leads_above p v c i
  above_leads few =
      same_test _ _
      (λ q. bool_cases (leads_above p v c i) (λ d. d) (λ d. absurd_bool (every_all 64 _ (λ j l. implies-yes (bit m j) _ (short d j))) (not_yes _ q)))
      (λ d. let (j, l, b, on, r) = (leads_above_exactly p v c i).0 d in ap not (every_fails 64 _ j (le_trans l few) (fails j l b on r)))
    where
      short : leads_above p v c i ≡ false → (j : ℕ) → bit m j ≡ true → not (reaches p v (after p c j).oracles) ≡ true
      short d j e =
          let (l, b, on) = above_held j e in
          bool_cases (reaches p v (after p c j).oracles) (λ r. absurd_bool ((leads_above_exactly p v c i).1 (j, l, b, on, r)) d) (ap not)

      held : (j : ℕ) → j < interactions p → below p i j ≡ true → enabled p c.state j ≡ true → bit m j ≡ true
      held j l b on = ap (λ (x : ℕ). bit x j) is ∙ bit_mask (interactions p) (λ k. below p i k && enabled p c.state k) j l ∙ both_and b on

      fails : (j : ℕ) → j < interactions p → below p i j ≡ true → enabled p c.state j ≡ true → reaches p v (after p c j).oracles ≡ true
          → implies (bit m j) (not (reaches p v (after p c j).oracles)) ≡ false
      fails j l b on r = unfold implies in (rw (held j l b on, r) refl)
