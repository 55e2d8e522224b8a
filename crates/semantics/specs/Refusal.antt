-- Refusals in order, 01 "Who causes which number": "The order is by number." The definition goes by the order of the list.
use Rattle.std.specs.Prelude.{ℕ, Bool, cond, List, [], ◌∷◌}

-- A rule and the number of the refusal that comes where it is broken.
pub record Rule : Type 0 where
  pub number : ℕ
  pub kept : Bool

abbrev pub rule : ℕ → Bool → Rule
rule n b = record { number = n; kept = b }

-- Where the rule is kept, what the later ones say; else its own number.
unfoldable pub unless : Bool → ℕ → ℕ → ℕ
unless b n later = cond b later n

-- The number of the first broken rule; 0 where all are kept.
unfoldable pub refusal : List Rule → ℕ
refusal [] = 0
refusal (r ∷ rs) = unless r.kept r.number (refusal rs)
