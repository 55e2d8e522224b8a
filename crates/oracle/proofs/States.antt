-- The states of an accepted plan's oracles.
use mathlib.Core.Path.{◌≡◌}
use mathlib.Core.Bool.{true, ◌||◌}
use mathlib.Core.List.{List}
use Prim.Native.Nat.{ℕ, ◌<◌}
use native.Mathlib.Nat.{lt_of_lt_of_le}
use native.Mathlib.Omega.{arith}
use lib.ListN.{get_or}
use lib.Dec.{ltb, eqb}
use Rattle.semantics.specs.Plan.{Plan, max_oracles, oracles, oracle_states, letters}
use Rattle.semantics.specs.Rules.{plan_refusal}
use Rattle.semantics.specs.Move.{state_in_range, oracles_in_range, next_states}
use Rattle.semantics.proofs.AcceptedPlan.{accepted_plan, counts_of_lem}
use Rattle.semantics.proofs.Oracles.{range_at, range_lt, in_range_by_count, used_in_range, next_states_in_range}

-- an oracle has the state that is held for it
pub used_state : (p : Plan) → plan_refusal p ≡ 0 → (qs : List ℕ) → oracles_in_range p qs ≡ true → (n : ℕ) → n < oracles p → get_or qs n 0 < oracle_states p n
used_state p e qs r n h =
    range_lt p n (get_or qs n 0) h (range_at p qs r n (lt_of_lt_of_le h (counts_of_lem p (accepted_plan p e).counts).oracles≤))

-- and the one that follows it
pub next_known : (p : Plan) → plan_refusal p ≡ 0 → (qs : List ℕ) (a : ℕ) → oracles_in_range p qs ≡ true → a < letters p → oracles_in_range p (next_states p qs a) ≡ true
next_known p e qs a r h = next_states_in_range p (accepted_plan p e) qs a r h

-- whether oracle n has state q
pub known_by_count : (p : Plan) → plan_refusal p ≡ 0 → (n : ℕ) → n < max_oracles → (q : ℕ) → state_in_range p n q ≡ (ltb q (oracle_states p n) || eqb q 0)
known_by_count p e n h q = in_range_by_count p n q ((counts_of_lem p (accepted_plan p e).counts).state_count n h)

-- whether the first one has
pub first_known : (p : Plan) (q : ℕ) → state_in_range p 0 q ≡ ltb q (oracle_states p 0)
first_known p q = used_in_range p 0 q (omega arith)
