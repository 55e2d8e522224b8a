-- One move, part by part: what the table of choices has the components of an interaction do, component 0 first.
use Rattle.std.specs.Prelude.{◌≡◌, ℕ, zero, suc, ◌<◌, Bool, true, cond, List, set}
use Rattle.semantics.specs.Plan.{Plan, max_components, transitions, action_of, takes_part}
use Rattle.semantics.specs.Code.{State, acted}
use Rattle.choices.specs.Choices.{chosen_by}

-- The table has a transition for each component that takes part in interaction i.
pub record AllChosen (p : Plan) (chosen : List ℕ) (i : ℕ) : Type 0 where
  pub known : (c : ℕ) → c < max_components → takes_part p i c ≡ true → chosen_by p chosen i c < transitions p

-- The state when component c has acted, where it takes part.
unfoldable pub act_part : Plan → List ℕ → ℕ → ℕ → State → State
act_part p chosen i c s = cond (takes_part p i c) (acted p s (action_of p (chosen_by p chosen i c))) s

-- The state when the components below n have acted.
unfoldable pub acts_below : Plan → List ℕ → ℕ → ℕ → State → State
acts_below p chosen i zero s = s
acts_below p chosen i (suc n) s = act_part p chosen i n (acts_below p chosen i n s)

-- The list l with x at place k, where the test holds.
unfoldable pub set_where : Bool → List ℕ → ℕ → ℕ → List ℕ
set_where b l k x = cond b (set l k x) l

-- The list l with g k at each place k below n at which f holds.
unfoldable pub set_below : (ℕ → Bool) → (ℕ → ℕ) → List ℕ → ℕ → List ℕ
set_below f g l zero = l
set_below f g l (suc n) = set_where (f n) (set_below f g l n) n (g n)
