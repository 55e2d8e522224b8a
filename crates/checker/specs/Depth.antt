-- The depth that the rules of a span count, as the checker holds it.
use Rattle.std.specs.Prelude.{ℕ, Bool, Option, Some, None}
use Rattle.std.proofs.Math.Option as counted
use Rattle.semantics.specs.Code.{Role}

-- None where a rule is broken.
abbrev pub held : counted.Option ℕ → Option ℕ
held counted.none = None
held (counted.some d) = Some d

-- A role by its two answers.
abbrev pub role_of : Bool → Bool → Role
role_of stores looks = record { stores = stores; looks = looks }
