-- Comparisons of numbers as tests: what a test that holds or fails says, and which test a fact makes.
use mathlib.Core.Path.{◌≡◌, refl, subst}
use mathlib.Core.Logic.{inl, inr}
use Prim.Native.Nat.{ℕ, suc, ◌≤◌, ◌<◌, suc-le-suc}
use native.Mathlib.Nat.{le_of_suc-le-suc, le_trans, eq-or-lt_of_le, lt_irrefl}
use mathlib.Core.Bool.{Bool, true, false, not, true≢false, false≢true}
use lib.Dec.{T, leb, ltb, eqb, leb→le, le→leb, nleb→lt, eqb→eq, eqb_refl}
use Rattle.semantics.proofs.Booleans.{bool_cases, absurd_bool}

yes-T : (b : Bool) → b ≡ true → T b
yes-T true e = tt
yes-T false e = absurd (false≢true e)

T-yes : (b : Bool) → T b → b ≡ true
T-yes true t = refl
T-yes false t = absurd t

T-no : (b : Bool) → b ≡ false → T (not b)
T-no true e = absurd (true≢false e)
T-no false e = tt

pub leb-true : (a b : ℕ) → leb a b ≡ true → a ≤ b
leb-true a b e = leb→le a b (yes-T (leb a b) e)

pub le_leb : (a b : ℕ) → a ≤ b → leb a b ≡ true
le_leb a b h = T-yes (leb a b) (le→leb a b h)

pub leb-false : (a b : ℕ) → leb a b ≡ false → b < a
leb-false a b e = nleb→lt a b (T-no (leb a b) e)

pub lt_leb : (a b : ℕ) → b < a → leb a b ≡ false
lt_leb a b h = bool_cases (leb a b) (λ e. absurd (lt_irrefl b (le_trans h (leb-true a b e)))) (λ e. e)

pub ltb-true : (a b : ℕ) → ltb a b ≡ true → a < b
ltb-true a b e = leb-true (suc a) b e

pub lt-ltb : (a b : ℕ) → a < b → ltb a b ≡ true
lt-ltb a b h = le_leb (suc a) b h

pub ltb-false : (a b : ℕ) → ltb a b ≡ false → b ≤ a
ltb-false a b e = le_of_suc-le-suc (leb-false (suc a) b e)

pub le-ltb : (a b : ℕ) → b ≤ a → ltb a b ≡ false
le-ltb a b h = lt_leb (suc a) b (suc-le-suc h)

pub eqb-true : (a b : ℕ) → eqb a b ≡ true → a ≡ b
eqb-true a b e = eqb→eq a b (yes-T (eqb a b) e)

pub eqb_same : (a : ℕ) → eqb a a ≡ true
eqb_same a = T-yes (eqb a a) (eqb_refl a)

pub eq-eqb : (a b : ℕ) → a ≡ b → eqb a b ≡ true
eq-eqb a b e = subst (λ (x : ℕ). eqb a x ≡ true) e (eqb_same a)

pub ne_eqb : (a b : ℕ) → (a ≡ b → ⊥) → eqb a b ≡ false
ne_eqb a b f = bool_cases (eqb a b) (λ e. absurd (f (eqb-true a b e))) (λ e. e)

pub eqb-false : (a b : ℕ) → eqb a b ≡ false → a ≡ b → ⊥
eqb-false a b e h = absurd_bool (eq-eqb a b h) e

-- a number below suc n is below n or is n
pub below_suc {ℓ} : {X : Type ℓ} {k n : ℕ} → k < suc n → (k < n → X) → (k ≡ n → X) → X
below_suc {k} {n} h f g = elim (eq-or-lt_of_le (le_of_suc-le-suc h)) [ inl e ↦ g e | inr l ↦ f l ]
