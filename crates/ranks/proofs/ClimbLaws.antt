-- The ranks inside a mask: the climb from one of its interactions to one that lies above it, until none of the mask lies above; and what of the mask is lower than a number and does not lie below it.
use mathlib.Core.Path.{◌≡◌, refl, sym, ap, ◌∙◌, subst}
use Prim.Native.Nat.{ℕ, ◌^◌, ◌≤◌, ◌<◌}
use native.Mathlib.Nat.{lt_of_le_of_lt}
use native.Mathlib.Omega.{arith}
use mathlib.Core.Bool.{Bool, true, false, not, ◌&&◌}
use mathlib.Core.List.{[], ◌∷◌}
use mathlib.Core.Logic.{◌⊎◌, inl, inr, ⊎_elim}
use lib.Bits.{bit_and, and_le_r}
use lib.Dec.{ltb}
use Rattle.semantics.specs.Bytes.{all_of, some_below, bit, mask, with_bit}
use Rattle.semantics.specs.Plan.{Plan, interactions, rank_row, below}
use Rattle.semantics.specs.Rules.{plan_refusal}
use Rattle.semantics.proofs.Basics.{bool_cases, absurd_bool, not_yes, and_both, both_and, each, all_of_lem, ltb-true, ltb-false, some_found}
use Rattle.semantics.proofs.Masks.{bit-zero, bit_mask, bit_mask_over, mask_lt}
use Rattle.semantics.proofs.RankOrder.{rank_order}
use Rattle.words.proofs.BitLaws.{bit_and_lem}
use Rattle.words.proofs.SubsetLaws.{bits_le, bits_lt}
use Rattle.ranks.specs.Standing.{stands}
use Rattle.words.proofs.Gather.{held_inside, with_held}
use Rattle.ranks.proofs.StandingLaws.{stands-yes}

-- ---- the climb

-- A step of a climb from i in the mask m: a number of the mask that lies above i.
abbrev pub Step : Plan → ℕ → ℕ → ℕ → Type 0
Step p m i j = (bit m j ≡ true) × (below p i j ≡ true)

-- What the climb from i in the mask m knows at number n: it is in the mask, it is i or lies above i, what of the mask lies above it, and that what joined the path
-- are steps.
pub record Climb (p : Plan) (m path i n steps above : ℕ) : Type 0 where
  pub held : bit m n ≡ true
  pub reached : (n ≡ i) ⊎ (below p i n ≡ true)
  pub small : above ≤ m
  pub over : (j : ℕ) → bit above j ≡ (below p n j && bit m j)
  pub stepped : (j : ℕ) → bit steps j ≡ true → (bit path j ≡ true) ⊎ Step p m i j

-- what of the mask lies above n, by the row of n
row_over : (p : Plan) (m n j : ℕ) → bit (bit_and (rank_row p n) m) j ≡ (below p n j && bit m j)
unfolding below
row_over p m n j = bit_and_lem (rank_row p n) m j

pub climb_start : (p : Plan) (m path i : ℕ) → bit m i ≡ true → Climb p m path i i path (bit_and (rank_row p i) m)
climb_start p m path i e = record { held = e; reached = inl refl; small = and_le_r (rank_row p i) m; over = row_over p m i; stepped = λ j. inl }

-- nothing of the mask lies above: n stands
pub climb_top : (p : Plan) (m path i n steps above : ℕ) → Climb p m path i n steps above → above ≡ 0 → stands p m n ≡ true
climb_top p m path i n steps above c z =
    stands-yes p m n c.held
    (bool_cases (some_below (interactions p) f)
    (λ s. let r = some_found (interactions p) f s in absurd_bool r.2 (none r.0)) (λ s. s))
  where
    f : ℕ → Bool
    f j = below p n j && bit m j

    none : (j : ℕ) → f j ≡ false
    none j = sym (c.over j) ∙ ap (λ (x : ℕ). bit x j) z ∙ bit-zero j

-- from n to number k of what lies above it
module _ (p : Plan) (h : plan_refusal p ≡ 0) (m : ℕ) (l : m < 2 ^ interactions p) (path i n steps above k : ℕ) (c : Climb p m path i n steps above) (b : bit above k ≡ true) where
  pub climb_held : bit m k ≡ true
  climb_held = (and_both (below p n k) (bit m k) (sym (c.over k) ∙ b)).1

  rises : below p n k ≡ true
  rises = (and_both (below p n k) (bit m k) (sym (c.over k) ∙ b)).0

  -- what of the mask lies above what lies above
  higher : (x y z : ℕ) → bit m x ≡ true → bit m y ≡ true → bit m z ≡ true → below p x y ≡ true → below p y z ≡ true → below p x z ≡ true
  higher x y z e f g = (rank_order p h).transitive x y z (held_inside _ m x l e) (held_inside _ m y l f) (held_inside _ m z l g)

  -- so k is a step from i
  step : bit m i ≡ true → Step p m i k
  step e = (climb_held, ⊎_elim (λ q. ap (λ (x : ℕ). below p x k) (sym q) ∙ rises) (λ q. higher i n k e c.held climb_held q rises) c.reached)

  pub climb_next : bit m i ≡ true → Climb p m path i k (with_bit steps k) (bit_and (rank_row p k) m)
  climb_next e =
      record {
        held = climb_held;
        reached = inr (step e).1;
        small = and_le_r (rank_row p k) m;
        over = row_over p m k;
        stepped = λ j t. ⊎_elim (c.stepped j) (λ q. inr (subst (Step p m i) (sym q) (step e))) (with_held steps k j t);
      }

  -- less lies above k: not k itself, and nothing that does not lie above n
  pub climb_less : m < 2 ^ 64 → bit_and (rank_row p k) m < above
  climb_less w = bits_lt 64 (bit_and (rank_row p k) m) above k (lt_of_le_of_lt (and_le_r (rank_row p k) m) w) kept lost b
    where
      kept : (j : ℕ) → bit (bit_and (rank_row p k) m) j ≡ true → bit above j ≡ true
      kept j e =
          let both = and_both (below p k j) (bit m j) (sym (row_over p m k j) ∙ e) in
          c.over j ∙ both_and (higher n k j c.held climb_held both.1 rises both.0) both.1

      lost : bit (bit_and (rank_row p k) m) k ≡ false
      lost = row_over p m k k ∙ ap (λ (x : Bool). x && bit m k) ((rank_order p h).irreflexive k (held_inside _ m k l climb_held))

-- ---- the numbers of a mask that are lower than n and do not lie below it

abbrev pub beside : Plan → ℕ → ℕ → ℕ → Bool
beside p m n j = all_of (bit m j ∷ ltb j n ∷ not (below p j n) ∷ [])

module _ (p : Plan) (m n : ℕ) where
  pub beside_in : (j : ℕ) → beside p m n j ≡ true → (bit m j && ltb j n) ≡ true
  beside_in j e = let (a, (b, _)) = each _ e in both_and a b

  pub beside_yes : (j : ℕ) → (bit m j && ltb j n) ≡ true → below p j n ≡ false → beside p m n j ≡ true
  beside_yes j e f = let (a, b) = and_both (bit m j) (ltb j n) e in all_of_lem _ (a, (b, (ap not f, tt)))

  pub beside_no : (j : ℕ) → below p j n ≡ true → beside p m n j ≡ false
  beside_no j e = bool_cases (beside p m n j) (λ y. let (_, (_, (f, _))) = each _ y in absurd_bool e (not_yes _ f)) (λ y. y)

  -- the mask of those has no other bits, and is not greater than the mask m
  pub beside_bit : (k : ℕ) → n < k → (j : ℕ) → bit (mask k (beside p m n)) j ≡ beside p m n j
  beside_bit k l j =
      bool_cases (ltb j k) (λ e. bit_mask k (beside p m n) j (ltb-true j k e))
      (λ e. bit_mask_over k (beside p m n) j (ltb-false j k e) ∙ sym (high (ltb-false j k e)))
    where
      high : k ≤ j → beside p m n j ≡ false
      high q =
          bool_cases (beside p m n j)
          (λ y. let (_, (f, _)) = each _ y in let r : j < n = ltb-true j n f in absurd (omega arith)) (λ y. y)

  pub beside_le : (k : ℕ) → n < k → mask k (beside p m n) ≤ m
  beside_le k l =
      bits_le k (mask k (beside p m n)) m (mask_lt k (beside p m n))
      (λ j e. (and_both (bit m j) (ltb j n) (beside_in j (sym (beside_bit k l j) ∙ e))).0)
