-- In each set of interactions that is not empty there is one above which none of the set lies: ranks are a strict order on finitely many.
-- So where some enabled move ends good, some move may be committed.
use mathlib.Core.Path.{◌≡◌, refl}
use Prim.Native.Nat.{ℕ, zero, suc, ◌<◌, suc-le-suc}
use native.Mathlib.Nat.{not-suc-le-zero}
use native.Mathlib.Omega.{arith}
use mathlib.Core.Bool.{Bool, true, false, ◌&&◌}
use lib.ListN.{length}
use lib.Dec.{ltb}
use Rattle.semantics.specs.Bytes.{some_below, satisfying}
use Rattle.semantics.specs.Plan.{Plan, interactions, below}
use Rattle.semantics.specs.Move.{Configuration, enabled, after, good, safe, safe_move}
use Rattle.semantics.proofs.Basics.{bool_cases, absurd_bool, and_both, both_and, some_found, some-none}
use Rattle.semantics.proofs.Counting.{count_le, fewer}
use Rattle.semantics.proofs.RankOrder.{Order}
use Rattle.semantics.proofs.Ranking.{safe-enabled, safe-good, unsafe_bad, commit_from, safe-none}

module _ (p : Plan) (o : Order p) (f : ℕ → Bool) where
  -- those of the set f that lie above i
  abbrev over : ℕ → ℕ → Bool
  over i j = below p i j && f j

  -- fewer of the set lie above j than above i, where j is one of those above i
  pub fewer_above : (i j : ℕ) → i < interactions p → j < interactions p → below p i j ≡ true → f j ≡ true
      → length (satisfying (interactions p) (λ k. below p j k && f k)) < length (satisfying (interactions p) (λ k. below p i k && f k))
  fewer_above i j h l b y =
      fewer (over j) (over i) (interactions p)
      (λ k m e. let (up, z) = and_both (below p j k) (f k) e in both_and (o.transitive i j k h l m b up) z) j l
      (rw (o.irreflexive j l) refl) (both_and b y)

  -- one of the set above which none of the set lies
  pub record Top : Type 0 where
    pub top : ℕ
    pub number< : top < interactions p
    pub holds : f top ≡ true
    pub none_above : (j : ℕ) → j < interactions p → below p top j ≡ true → f j ≡ false

  climbed : (n i : ℕ) → i < interactions p → f i ≡ true → length (satisfying (interactions p) (over i)) < n → Top
  climbed zero i h y m = absurd (not-suc-le-zero m)
  climbed (suc n) i h y m =
      bool_cases (some_below (interactions p) (over i))
      (λ e.
      let (j, l, t) = some_found (interactions p) (over i) e in
      let (b, z) = and_both (below p i j) (f j) t in
      climbed n j l z (less (fewer_above i j h l b z) m))
      (λ e.
      record {
        top = i;
        number< = h;
        holds = y;
        none_above = λ j l b. bool_cases (f j) (λ z. absurd_bool (both_and b z) (some-none (interactions p) (over i) e j l)) (λ z. z);
      })
    where
      less : {a b : ℕ} → a < b → b < suc n → a < n
      less x z = omega arith

  pub has_top : (i : ℕ) → i < interactions p → f i ≡ true → Top
  has_top i h y = climbed (suc (interactions p)) i h y (suc-le-suc (count_le (interactions p) (over i)))

-- Where no move may be committed, each enabled one ends bad.
pub none-good : (p : Plan) → Order p → (c : Configuration) → ltb (safe_move p c) (interactions p) ≡ false
    → (i : ℕ) → i < interactions p → enabled p c.state i ≡ true → good p (after p c i) ≡ false
none-good p o c none i l on = unsafe_bad p c i on (bool_cases (safe p c i) (λ s. absurd (committed (has_top p o (safe p c) i l s))) (λ s. s))
  where
    committed : Top p o (safe p c) → ⊥
    committed t =
        absurd_bool
        (commit_from p c t.top (safe-enabled p c t.top t.holds) (safe-good p c t.top t.holds)
        (λ j h b e. unsafe_bad p c j e (t.none_above j h b)))
        (safe-none p c none t.top t.number<)
