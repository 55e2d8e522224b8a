-- The transition that each component uses through each of its ports, for all of them in one table; and what is enabled, read from it.
use Rattle.std.specs.Prelude.{◌≡◌, ℕ, ◌+◌, ◌*◌, ◌/◌, ◌%◌, ◌<◌, Bool, true, cond, ◌&&◌, List, get_or, set, ltb, eqb}
use Rattle.semantics.specs.Bytes.{implies, lowest, table}
use Rattle.semantics.specs.Plan.{Plan, components, transitions, component_of, source, port_of, guard_of, port_in, takes_part}
use Rattle.semantics.specs.Code.{State, guard_holds}
use Rattle.semantics.specs.Move.{ready, chosen, chosen_in}

-- Entry 16 * c + q is the transition that component c uses through port q; the number of transitions where there is none.
unfoldable pub chosen_table : Plan → State → List ℕ
chosen_table p s = table 256 (λ k. chosen p s (k / 16) (k % 16))

-- Where a transition stands in the table when it is chosen.
abbrev pub slot_of : Plan → ℕ → ℕ
slot_of p t = 16 * component_of p t + port_of p t

-- Transition t leaves its component's location, and its guard holds.
unfoldable pub ripe : Plan → State → ℕ → Bool
ripe p s t = eqb (source p t) (get_or s.locations (component_of p t) 0) && guard_holds p s (guard_of p t)

-- The table when transition t was considered: it takes its slot where that is still open and the transition is ripe.
unfoldable pub noted : Plan → State → ℕ → List ℕ → List ℕ
noted p s t out = cond (eqb (get_or out (slot_of p t) 0) (transitions p) && ripe p s t) (set out (slot_of p t) t) out

-- The lowest number below n at which f holds; the number none where there is none.
unfoldable pub lowest_or : ℕ → ℕ → (ℕ → Bool) → ℕ
lowest_or none n f = let k = lowest n f in cond (ltb k n) k none

-- The table when the transitions below n were considered.
unfoldable pub chosen_below : Plan → State → ℕ → List ℕ
chosen_below p s n = table 256 (λ k. lowest_or (transitions p) n (ready p s (k / 16) (k % 16)))

-- The transition that the table has for component c in interaction i.
abbrev pub chosen_by : Plan → List ℕ → ℕ → ℕ → ℕ
chosen_by p chosen i c = get_or chosen (16 * c + port_in p i c) 0

-- For each component that takes part in interaction i the table has the transition that it uses.
pub record ChosenIn (p : Plan) (s : State) (chosen : List ℕ) (i : ℕ) : Type 0 where
  pub used : (c : ℕ) → c < components p → takes_part p i c ≡ true → chosen_by p chosen i c ≡ chosen_in p s i c

-- Component c takes no part in interaction i, or the table has a transition for its port.
unfoldable pub port_ready : Plan → List ℕ → ℕ → ℕ → Bool
port_ready p chosen i c = implies (takes_part p i c) (ltb (chosen_by p chosen i c) (transitions p))
