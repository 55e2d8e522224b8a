-- A walk over a mask, lowest number first: what is left of the mask m, and that the test f holds at each number of m that the walk has passed.
use mathlib.Core.Path.{◌≡◌, refl, sym, ap, ◌∙◌}
use Prim.Native.Nat.{ℕ, ◌≤◌, ◌<◌, ◌^◌}
use native.Mathlib.Nat.{le_refl, le_trans, le_of_lt, lt_of_le_of_lt}
use mathlib.Core.Bool.{Bool, true, false, not, ◌&&◌, false≢true}
use lib.Dec.{eqb}
use Rattle.semantics.specs.Bytes.{implies, every, lowest, bit}
use Rattle.semantics.proofs.Basics.{bool_cases, absurd_bool, and_both, implies-yes, implies-at, eqb-true, every-at, every_all}
use Rattle.semantics.proofs.Masks.{bit-zero}
use Rattle.words.proofs.BitLaws.{lowest_lt, lowest_set}

pub record Walk (m : ℕ) (f : ℕ → Bool) (left : ℕ) : Type 0 where
  pub small : left ≤ m
  pub within : (j : ℕ) → bit left j ≡ true → bit m j ≡ true
  pub passed : (j : ℕ) → bit left j ≡ false → implies (bit m j) (f j) ≡ true

pub walk_start : (m : ℕ) (f : ℕ → Bool) → Walk m f m
walk_start m f =
    record { small = le_refl m; within = λ j e. e; passed = λ j e. implies-yes (bit m j) (f j) (λ s. absurd_bool s e) }

-- the lowest number that is left is in the mask
pub walk_at : (n m : ℕ) (f : ℕ → Bool) (left : ℕ) → m < 2 ^ n → Walk m f left → 0 < left → bit m (lowest n (bit left)) ≡ true
walk_at n m f left h w l = w.within (lowest n (bit left)) (lowest_set n left l (lt_of_le_of_lt w.small h))

-- f holds there: the walk goes on without it
pub walk_next : (n m : ℕ) (f : ℕ → Bool) (left next : ℕ) → Walk m f left → f (lowest n (bit left)) ≡ true
    → ((j : ℕ) → bit next j ≡ (bit left j && not (eqb j (lowest n (bit left))))) → next < left → Walk m f next
walk_next n m f left next w e b l =
    record {
      small = le_trans (le_of_lt l) w.small;
      within = λ j s. w.within j (and_both (bit left j) (not (eqb j (lowest n (bit left)))) (sym (b j) ∙ s)).0;
      passed =
          λ j s.
          bool_cases (bit left j)
          (λ q. implies-yes (bit m j) (f j) (λ t. ap f (eqb-true j (lowest n (bit left)) (same j q (sym (b j) ∙ s))) ∙ e)) (w.passed j);
    }
  where
    last : (a c : Bool) → a ≡ true → (a && not c) ≡ false → c ≡ true
    last true true q s = refl
    last true false q s = sym s
    last false c q s = absurd (false≢true q)

    same : (j : ℕ) → bit left j ≡ true → (bit left j && not (eqb j (lowest n (bit left)))) ≡ false → eqb j (lowest n (bit left)) ≡ true
    same j q s = last (bit left j) (eqb j (lowest n (bit left))) q s

-- it fails there: it does not hold at each number of the mask
pub walk_fails : (n m : ℕ) (f : ℕ → Bool) (left : ℕ) → m < 2 ^ n → Walk m f left → 0 < left → f (lowest n (bit left)) ≡ false
    → every n (λ j. implies (bit m j) (f j)) ≡ false
walk_fails n m f left h w l e =
    bool_cases (every n (λ j. implies (bit m j) (f j)))
    (λ s.
    absurd_bool
    (implies-at (bit m (lowest n (bit left))) (f (lowest n (bit left)))
    (every-at n (λ j. implies (bit m j) (f j)) s (lowest n (bit left)) (lowest_lt n left l (lt_of_le_of_lt w.small h))) (walk_at n m f left h w l))
    e)
    (λ s. s)

-- nothing is left: it holds at each number of the mask
pub walk_done : (n m : ℕ) (f : ℕ → Bool) (left : ℕ) → Walk m f left → left ≡ 0 → every n (λ j. implies (bit m j) (f j)) ≡ true
walk_done n m f left w z =
    every_all n (λ j. implies (bit m j) (f j)) (λ j l. w.passed j (ap (λ (x : ℕ). bit x j) z ∙ bit-zero j))
