-- Laws of the refusals' numbers.
use mathlib.Core.Path.{◌≡◌}
use native.Mathlib.Omega.{arith}
use Rattle.plan.specs.declared.refusal.Refusal.{Refusal}
use Rattle.plan.specs.Numbers.{number}

-- no refusal has the number 0
pub above_0 : (r : Refusal) → number r ≡ 0 → ⊥
above_0 r e = grind arith
