-- Laws of the Booleans and of a list of tests. The laws of && and || alone (and-true, or-false, or-assoc, ..) are the library's, mathlib.Core.Bool.
use mathlib.Core.Path.{◌≡◌, refl, sym, ap₂, ◌∙◌}
use mathlib.Core.Bool.{Bool, true, false, not, ◌&&◌, ◌||◌, true≢false, false≢true}
use mathlib.Core.List.{List, [], ◌∷◌}
use Rattle.semantics.specs.Bytes.{all_of, implies}

pub bool_cases {ℓ} : {X : Type ℓ} (b : Bool) → (b ≡ true → X) → (b ≡ false → X) → X
bool_cases true f g = f refl
bool_cases false f g = g refl

pub absurd_bool {ℓ} : {X : Type ℓ} {b : Bool} → b ≡ true → b ≡ false → X
absurd_bool e f = absurd (true≢false (sym e ∙ f))

-- two tests that follow from one another are the same
pub same_test : (a b : Bool) → (a ≡ true → b ≡ true) → (b ≡ true → a ≡ true) → a ≡ b
same_test true true f g = refl
same_test true false f g = absurd (false≢true (f refl))
same_test false true f g = absurd (false≢true (g refl))
same_test false false f g = refl

pub not_yes : (b : Bool) → not b ≡ true → b ≡ false
not_yes true e = absurd (false≢true e)
not_yes false e = refl

pub not_no : (b : Bool) → not b ≡ false → b ≡ true
not_no true e = refl
not_no false e = absurd (true≢false e)

pub and_both : (a b : Bool) → (a && b) ≡ true → (a ≡ true) × (b ≡ true)
and_both true b e = (refl, e)
and_both false b e = absurd (false≢true e)

pub both_and : {a b : Bool} → a ≡ true → b ≡ true → (a && b) ≡ true
both_and e f = ap₂ ◌&&◌ e f

pub or_cases {ℓ} : {X : Type ℓ} (a b : Bool) → (a || b) ≡ true → (a ≡ true → X) → (b ≡ true → X) → X
or_cases true b e f g = f refl
or_cases false b e f g = g e

pub or_left : (a b : Bool) → a ≡ true → (a || b) ≡ true
or_left true b e = refl
or_left false b e = absurd (false≢true e)

pub or_right : (a b : Bool) → b ≡ true → (a || b) ≡ true
or_right true b e = refl
or_right false b e = e

pub or_no : (a b : Bool) → b ≡ false → (a || b) ≡ a
or_no true b e = refl
or_no false b e = e

pub neither : (a b : Bool) → (a || b) ≡ false → (a ≡ false) × (b ≡ false)
neither true b e = absurd (true≢false e)
neither false b e = (refl, e)

pub implies-yes : (a b : Bool) → (a ≡ true → b ≡ true) → implies a b ≡ true
unfolding implies
implies-yes true b f = f refl
implies-yes false b f = refl

pub implies-at : (a b : Bool) → implies a b ≡ true → a ≡ true → b ≡ true
unfolding implies
implies-at true b e h = e
implies-at false b e h = absurd (false≢true h)

-- an implication as the code tests it
pub implies_or : (a b : Bool) → implies a b ≡ (not a || b)
unfolding implies
implies_or true b = refl
implies_or false b = refl

-- ---- a list of tests

abbrev pub Each : List Bool → Type 0
Each [] = Unit {0}
Each (b ∷ bs) = (b ≡ true) × Each bs

pub each : (bs : List Bool) → all_of bs ≡ true → Each bs
unfolding all_of
each [] e = tt
each (b ∷ bs) e = let (h, hs) = and_both b (all_of bs) e in (h, each bs hs)

pub all_of_lem : (bs : List Bool) → Each bs → all_of bs ≡ true
unfolding all_of
all_of_lem [] _ = refl
all_of_lem (b ∷ bs) (h, hs) = both_and h (all_of_lem bs hs)
