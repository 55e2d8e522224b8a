-- Add, subtract and kind 1 at the ends of signed 32 bits, one inside and one past, in both directions (02, job 2): one table, one proof.
use mathlib.Core.Path.{◌≡◌, refl}
use mathlib.Core.Bool.{true}
use mathlib.Core.List.{List, [], ◌∷◌}
use lib.IntN.{ℤ, pos, negsuc}
use Rattle.semantics.specs.Signed.{add, subtract, extend}
use Rattle.semantics.specs.Cases.{Case, all_agree}
use Rattle.semantics.proofs.Meaning.{in_cases, in_signed}

-- What an operation gives, and what it is by hand.
abbrev gives : ℤ → ℤ → Case
gives z said = record { gives = z ∷ []; says = said ∷ [] }

unfoldable pub ends : List Case
ends =
    -- add: 2147483646 and 2147483647 are reached, 2147483648 is held; so are -2147483647 and -2147483648, and -2147483649 is held
    gives (add (pos 2147483645) (pos 1)) (pos 2147483646)
    ∷ gives (add (pos 2147483646) (pos 1)) (pos 2147483647)
    ∷ gives (add (pos 2147483647) (pos 1)) (pos 2147483647)
    ∷ gives (add (negsuc 2147483645) (negsuc 0)) (negsuc 2147483646)
    ∷ gives (add (negsuc 2147483646) (negsuc 0)) (negsuc 2147483647)
    ∷ gives (add (negsuc 2147483647) (negsuc 0)) (negsuc 2147483647)
    -- the farthest sums, 4294967294 and -4294967296
    ∷ gives (add (pos 2147483647) (pos 2147483647)) (pos 2147483647)
    ∷ gives (add (negsuc 2147483647) (negsuc 2147483647)) (negsuc 2147483647)
    -- subtract
    ∷ gives (subtract (pos 2147483645) (negsuc 0)) (pos 2147483646)
    ∷ gives (subtract (pos 2147483646) (negsuc 0)) (pos 2147483647)
    ∷ gives (subtract (pos 2147483647) (negsuc 0)) (pos 2147483647)
    ∷ gives (subtract (negsuc 2147483645) (pos 1)) (negsuc 2147483646)
    ∷ gives (subtract (negsuc 2147483646) (pos 1)) (negsuc 2147483647)
    ∷ gives (subtract (negsuc 2147483647) (pos 1)) (negsuc 2147483647)
    -- the farthest differences, 4294967295 and -4294967295; and 0 less -2147483648, one past the end
    ∷ gives (subtract (pos 2147483647) (negsuc 2147483647)) (pos 2147483647)
    ∷ gives (subtract (negsuc 2147483647) (pos 2147483647)) (negsuc 2147483647)
    ∷ gives (subtract (pos 0) (negsuc 2147483647)) (pos 2147483647)
    -- kind 1: 524287 * 4096 + 4095 is 2147483647, 524288 * 4096 is one past it
    ∷ gives (extend (pos 524287) 4094) (pos 2147483646)
    ∷ gives (extend (pos 524287) 4095) (pos 2147483647)
    ∷ gives (extend (pos 524288) 0) (pos 2147483647)
    -- -524288 * 4096 is -2147483648, -524289 * 4096 + 4095 is one past it: the product alone is further past, and is not held before the sum
    ∷ gives (extend (negsuc 524287) 1) (negsuc 2147483646)
    ∷ gives (extend (negsuc 524287) 0) (negsuc 2147483647)
    ∷ gives (extend (negsuc 524288) 4095) (negsuc 2147483647)
    -- the farthest extensions
    ∷ gives (extend (pos 2147483647) 4095) (pos 2147483647)
    ∷ gives (extend (negsuc 2147483647) 0) (negsuc 2147483647)
    ∷ []

pub ends_hold : all_agree ends ≡ true
unfolding in_cases in_signed ends
ends_hold = refl
