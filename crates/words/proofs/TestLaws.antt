-- The list of tests that a rule asks for, as the code makes them: joined by `&`, or one before the others.
use mathlib.Core.Path.{◌≡◌, refl, sym, ap, ◌∙◌}
use mathlib.Core.Bool.{Bool, true, false, ◌&&◌}
use mathlib.Core.List.{List, [], ◌∷◌, ◌++◌}
use Rattle.semantics.specs.Bytes.{all_of}

-- a & b & c .., from the left
abbrev pub joined : Bool → List Bool → Bool
joined a [] = a
joined a (b ∷ bs) = joined (a && b) bs

pub tests : (a : Bool) (bs : List Bool) → all_of (a ∷ bs) ≡ joined a bs
unfolding all_of
tests true [] = refl
tests false [] = refl
tests true (b ∷ bs) = tests b bs
tests false (b ∷ bs) = tests false bs

pub both_hold : (a b : Bool) → (a && b) ≡ all_of (a ∷ b ∷ [])
both_hold a b = sym (tests a (b ∷ []))

-- a list of tests and one test more
pub one_more : (bs : List Bool) (b : Bool) → all_of (bs ++ (b ∷ [])) ≡ (all_of bs && b)
unfolding all_of
one_more [] true = refl
one_more [] false = refl
one_more (true ∷ bs) b = one_more bs b
one_more (false ∷ bs) b = refl

-- a test that failed before the others were made
pub first_fails : (a : Bool) (bs : List Bool) → a ≡ false → all_of (a ∷ bs) ≡ false
unfolding all_of
first_fails a bs e = ap (λ (b : Bool). b && all_of bs) e

-- a test that was passed before the others were made
pub first_passed : (a : Bool) (bs : List Bool) → a ≡ true → all_of (a ∷ bs) ≡ all_of bs
unfolding all_of
first_passed a bs e = ap (λ (b : Bool). b && all_of bs) e

-- the last of two tests, where the first was passed
pub second_says : (a b : Bool) → a ≡ true → all_of (a ∷ b ∷ []) ≡ b
second_says a b e = first_passed a (b ∷ []) e ∙ tests b []

-- the second fails, where the first was passed
pub second_fails : {a b : Bool} (bs : List Bool) → a ≡ true → b ≡ false → false ≡ all_of (a ∷ b ∷ bs)
second_fails {a} {b} bs e f = sym (first_passed a (b ∷ bs) e ∙ first_fails b bs f)

-- the third decides, where the first two were passed
pub third_decides : {a b c d : Bool} → a ≡ true → b ≡ true → d ≡ c → d ≡ all_of (a ∷ b ∷ c ∷ [])
third_decides {a} {b} {c} e f g = g ∙ sym (first_passed a (b ∷ c ∷ []) e ∙ second_says b c f)

-- the last two decide, where the first was passed
pub rest_decides : {a c d : Bool} (b : Bool) → a ≡ true → d ≡ c → (b && d) ≡ all_of (a ∷ b ∷ c ∷ [])
rest_decides {a} {c} b e g = ap (λ (x : Bool). b && x) g ∙ both_hold b c ∙ sym (first_passed a (b ∷ c ∷ []) e)
