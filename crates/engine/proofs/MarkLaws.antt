-- Marks: each on an enabled interaction that ends bad, with no open one above, open being enabled and not marked. The code tests that all lie on enabled ones,
-- then that none open lies above one of them, and then that each ends bad.
use mathlib.Core.Path.{◌≡◌, sym, ap, ◌∙◌}
use Prim.Native.Nat.{ℕ, ◌^◌, ◌≤◌, ◌<◌}
use native.Mathlib.Nat.{lt_of_le_of_lt}
use mathlib.Core.Bool.{Bool, true, false, not, ◌&&◌}
use lib.Dec.{ltb}
use Rattle.semantics.specs.Bytes.{implies, every, some_below, bit, mask}
use Rattle.semantics.specs.Plan.{Plan, max_interactions, interactions, below}
use Rattle.semantics.specs.Code.{State}
use Rattle.semantics.specs.Move.{Configuration, enabled, outranked, after, good}
use Rattle.semantics.specs.Image.{marks_ok}
use Rattle.semantics.proofs.Basics.{bool_cases, absurd_bool, same_test, not_yes, implies-yes, implies-at, ltb-true, ltb-false, every-at, every_all}
use Rattle.semantics.proofs.Masks.{bit_mask, bit-zero, mask_lt, mask-holds}
use Rattle.semantics.proofs.LawfulImage.{marks_kept, marks_ok_lem}
use Rattle.semantics.proofs.Ranking.{above_marked, unoutranked, outranked_in}
use Rattle.words.proofs.BitLaws.{bit_above, mask_is}

-- a number of a 64-bit mask is below 64
pub bit_below : (m j : ℕ) → m < 2 ^ 64 → bit m j ≡ true → j < max_interactions
bit_below m j h t = bool_cases (ltb j 64) (λ l. ltb-true j 64 l) (λ l. absurd_bool t (bit_above 64 m j h (ltb-false j 64 l)))

-- the enabled interactions without the marked ones
pub open_masked : (p : Plan) (s : State) (m e o : ℕ) → e ≡ mask (interactions p) (enabled p s) → ((j : ℕ) → bit o j ≡ (bit e j && not (bit m j))) → o ≤ e
    → o ≡ mask (interactions p) (λ j. enabled p s j && not (bit m j))
open_masked p s m e o q bits small =
    mask_is (interactions p) o (λ j. enabled p s j && not (bit m j)) (lt_of_le_of_lt small (rw q (mask_lt (interactions p) (enabled p s))))
    (λ j l. bits j ∙ ap (λ (x : Bool). x && not (bit m j)) (ap (λ (x : ℕ). bit x j) q ∙ bit_mask (interactions p) (enabled p s) j l))

-- where there are no marks, all are kept
pub no_marks : (p : Plan) (c : Configuration) (m : ℕ) → m ≡ 0 → marks_ok p c m ≡ true
no_marks p c m e = marks_ok_lem p c m (λ i l b. absurd_bool b (ap (λ (n : ℕ). bit n i) e ∙ bit-zero i))

-- the marks m against e, the mask of the enabled interactions, and o, of those that are not marked
module _ (p : Plan) (c : Configuration) (m e o : ℕ) (q : e ≡ mask (interactions p) (enabled p c.state))
    (w : o ≡ mask (interactions p) (λ j. enabled p c.state j && not (bit m j))) where
  -- not all of m is in e
  pub marks_outside : every max_interactions (λ j. implies (bit m j) (bit e j)) ≡ false → marks_ok p c m ≡ false
  marks_outside h =
      bool_cases (marks_ok p c m)
      (λ k. absurd_bool (every_all max_interactions (λ j. implies (bit m j) (bit e j)) (λ j l.
      implies-yes (bit m j) (bit e j) (λ s.
      let a = marks_kept p c m k j l s in
      ap (λ (x : ℕ). bit x j) q ∙ bit_mask (interactions p) (enabled p c.state) j a.number< ∙ a.is_enabled))) h)
      (λ k. k)

  -- what lies open above i
  over : (i : ℕ) → some_below (interactions p) (λ j. below p i j && bit o j) ≡ outranked p c.state (bit m) i
  over i =
      outranked_in p c.state (bit m) i o
      (λ j l. ap (λ (x : ℕ). bit x j) w ∙ bit_mask (interactions p) (λ j. enabled p c.state j && not (bit m j)) j l)

  -- above a mark one lies open
  pub marks_outranked : every max_interactions (λ i. implies (bit m i) (not (some_below (interactions p) (λ j. below p i j && bit o j)))) ≡ false → marks_ok p c m ≡ false
  marks_outranked h =
      bool_cases (marks_ok p c m)
      (λ k. absurd_bool (every_all max_interactions (λ i. implies (bit m i) (not (some_below (interactions p) (λ j. below p i j && bit o j)))) (λ i l.
      implies-yes (bit m i) _ (λ s.
      let a = marks_kept p c m k i l s in ap not (over i ∙ unoutranked p c.state (bit m) i a.above)))) h)
      (λ k. k)

  -- all of m is in e: each mark is on an enabled interaction
  module _ (h : every max_interactions (λ j. implies (bit m j) (bit e j)) ≡ true) where
    pub marked-enabled : (j : ℕ) → j < max_interactions → bit m j ≡ true → (j < interactions p) × (enabled p c.state j ≡ true)
    marked-enabled j l s =
        mask-holds (interactions p) (enabled p c.state) j
        (ap (λ (x : ℕ). bit x j) (sym q) ∙ implies-at (bit m j) (bit e j) (every-at max_interactions (λ k. implies (bit m k) (bit e k)) h j l) s)

    -- and none lies open above one: what is left is that each ends bad
    pub marks_judged : every max_interactions (λ i. implies (bit m i) (not (some_below (interactions p) (λ j. below p i j && bit o j)))) ≡ true
        → every max_interactions (λ j. implies (bit m j) (not (good p (after p c j)))) ≡ marks_ok p c m
    marks_judged above =
        same_test (every max_interactions (λ j. implies (bit m j) (not (good p (after p c j))))) (marks_ok p c m)
        (λ t. marks_ok_lem p c m (λ i l b.
        let (n, on) = marked-enabled i l b in
        let top = implies-at (bit m i) _ (every-at max_interactions (λ i. implies (bit m i) (not (some_below (interactions p) (λ j. below p i j && bit o j)))) above i l) b in
        record {
          number< = n;
          is_enabled = on;
          above = above_marked p c.state (bit m) i (sym (over i) ∙ not_yes _ top);
          ends_bad = not_yes _ (implies-at (bit m i) _ (every-at max_interactions (λ j. implies (bit m j) (not (good p (after p c j)))) t i l) b);
        }))
        (λ t. every_all max_interactions (λ j. implies (bit m j) (not (good p (after p c j)))) (λ i l.
        implies-yes (bit m i) _ (λ b. ap not (marks_kept p c m t i l b).ends_bad)))
