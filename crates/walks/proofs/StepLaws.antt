-- One step of a walk: an entry of a list, and the mask of one move.
use mathlib.Core.Path.{◌≡◌, refl, sym, ap, ◌∙◌, subst}
use Prim.Native.Nat.{ℕ, suc, ◌<◌}
use mathlib.Core.Bool.{Bool, true, false, not, ◌&&◌}
use mathlib.Core.List.{List, [], ◌∷◌}
use lib.Dec.{ltb, eqb}
use Rattle.semantics.specs.Bytes.{all_of, bit, mask, with_bit}
use Rattle.semantics.specs.Plan.{Plan, interactions}
use Rattle.semantics.specs.Code.{State}
use Rattle.semantics.specs.Refusal.{rule, unless, refusal}
use Rattle.semantics.specs.Move.{Configuration, enabled, after, reaches, leads, leads_above}
use Rattle.semantics.specs.Load.{passable, blocked, entry_allowed}
use Rattle.semantics.specs.Log.{cause_rules, cause_from, passes}
use Rattle.semantics.proofs.Basics.{eqb-true, eqb_same}
use Rattle.semantics.proofs.LogWalk.{caused_stops, uncaused_passes}
use Rattle.semantics.proofs.Masks.{bit_mask}
use Rattle.choices.specs.Choices.{ChosenIn}
use Rattle.moves.proofs.SeekLaws.{one_bit}

module _ (p : Plan) (c : Configuration) (i : ℕ) where
  -- an entry of a list passes from a tolerable verdict on
  pub allowed-passes : entry_allowed p c i ≡ passes p 1 c i
  unfolding entry_allowed passable blocked leads passes cause_from cause_rules
  allowed-passes = in_order (ltb i (interactions p)) (enabled p c.state i) (reaches p 1 (after p c i).oracles) (not (leads_above p 1 c i))
    where
      in_order : (a e r n : Bool) → all_of (a ∷ all_of (e ∷ r ∷ []) ∷ n ∷ []) ≡ all_of (eqb (refusal (rule 16 a ∷ rule 17 e ∷ rule 18 n ∷ [])) 0 ∷ r ∷ [])
      in_order false e r n = unfold all_of refusal unless in refl
      in_order true false r n = unfold all_of refusal unless in refl
      in_order true true true true = unfold all_of refusal unless in refl
      in_order true true false true = unfold all_of refusal unless in refl
      in_order true true true false = unfold all_of refusal unless in refl
      in_order true true false false = unfold all_of refusal unless in refl

-- ---- what a step says, from the cause

module _ (p : Plan) (v : ℕ) (c : Configuration) (i : ℕ) where
  pub not_made : (n : ℕ) → cause_from p v c i ≡ suc n → (false ≡ passes p v c i) × (suc n ≡ cause_from p v c i)
  not_made n e = (sym (caused_stops p v c i n e), sym e)

  pub made_as : (b : Bool) (o : List ℕ) → cause_from p v c i ≡ 0 → b ≡ reaches p v o → o ≡ (after p c i).oracles
      → (b ≡ passes p v c i) × (0 ≡ cause_from p v c i)
  made_as b o e r q = (r ∙ ap (reaches p v) q ∙ sym (uncaused_passes p v c i e), sym e)

-- ---- the mask of one move

-- the mask of move i alone has it alone, so a table that serves i serves the mask
pub own_alone : (p : Plan) (s : State) (chosen : List ℕ) (i : ℕ) → i < 64 → i < interactions p → ChosenIn p s chosen i → (m : ℕ) → m ≡ with_bit 0 i
    → (j : ℕ) → bit m j ≡ true → (j < interactions p) × ChosenIn p s chosen j
own_alone p s chosen i h l t m e j b =
    let same : i ≡ j = sym (eqb-true j i (sym (ap (λ (x : ℕ). bit x j) e ∙ one_bit i j h) ∙ b)) in
    subst (λ (x : ℕ). (x < interactions p) × ChosenIn p s chosen x) same (l, t)

-- the mask of move i alone, as far as it is enabled: its bit says whether it is
pub own_enabled : (n i : ℕ) (f : ℕ → Bool) → i < n → i < 64 → (m : ℕ) → m ≡ mask n (λ j. bit (with_bit 0 i) j && f j) → bit m i ≡ f i
own_enabled n i f l h m e =
    ap (λ (x : ℕ). bit x i) e ∙ bit_mask n (λ j. bit (with_bit 0 i) j && f j) i l ∙ ap (◌&& f i) (one_bit i i h ∙ eqb_same i)
