-- 01's sentences on one move, as laws of the configuration after it. They hold of every plan and every configuration.
use mathlib.Core.Path.{◌≡◌, refl, sym, ap, ◌∙◌}
use Prim.Native.Nat.{ℕ, zero, suc, ◌<◌}
use mathlib.Core.Bool.{true, false, cond}
use mathlib.Core.List.{List, [], ◌∷◌, ◌++◌}
use lib.ListN.{get_or}
use lib.Dec.{ltb}
use Rattle.semantics.specs.Bytes.{implies}
use Rattle.semantics.specs.Plan.{Plan, Span, components, transitions, start_states, destination, port_in, takes_part, guard_of, component_of, source, port_of, action_of, transfer_of}
use Rattle.semantics.specs.Code.{State, guard_holds, acted}
use Rattle.semantics.specs.Move.{Configuration, ready, chosen, chosen_in, enabled, acted_below, fired, letter, next_states, judged, after, initial}
use Rattle.semantics.proofs.Basics.{bool_cases, implies-at, each, ltb-true, eqb-true, every-at, lowest_is, get_or-table}

-- "All guards read the old state": where an interaction is enabled, each component taking part uses a transition of its own that leaves its old
-- location through its port, and whose guard holds in the old state
pub record Uses (p : Plan) (s : State) (i c : ℕ) : Type 0 where
  pub known : chosen_in p s i c < transitions p
  pub own : component_of p (chosen_in p s i c) ≡ c
  pub leaves : source p (chosen_in p s i c) ≡ get_or s.locations c 0
  pub through : port_of p (chosen_in p s i c) ≡ port_in p i c
  pub guarded : guard_holds p s (guard_of p (chosen_in p s i c)) ≡ true

pub uses : (p : Plan) (s : State) (i c : ℕ) → enabled p s i ≡ true → c < components p → takes_part p i c ≡ true → Uses p s i c
unfolding enabled chosen_in chosen ready
uses p s i c e l t =
    let h : chosen_in p s i c < transitions p
    = ltb-true _ _ (implies-at (takes_part p i c) _ (every-at (components p) (λ k. implies (takes_part p i k) (ltb (chosen_in p s i k) (transitions p))) (each _ e).1.0 c l) t) in
    let r = each _ ((lowest_is (transitions p) (ready p s c (port_in p i c))).hit h) in
    record { known = h; own = eqb-true _ _ r.0; leaves = eqb-true _ _ r.1.0; through = eqb-true _ _ r.1.1.0; guarded = r.1.1.1.0 }

-- "The lowest-numbered such transition is used": none below it is ready
pub uses_lowest : (p : Plan) (s : State) (i c t : ℕ) → t < chosen_in p s i c → ready p s c (port_in p i c) t ≡ false
unfolding chosen_in chosen
uses_lowest p s i c t l = (lowest_is (transitions p) (ready p s c (port_in p i c))).missed t l

-- spans of code one after the other
unfoldable pub in_turn : Plan → State → List Span → State
in_turn p s [] = s
in_turn p s (g ∷ gs) = in_turn p (acted p s g) gs

-- the actions of the components below n that take part, of the transitions that they use in the state s
unfoldable pub actions_below : Plan → State → ℕ → ℕ → List Span
actions_below p s i zero = []
actions_below p s i (suc n) = actions_below p s i n ++ cond (takes_part p i n) (action_of p (chosen_in p s i n) ∷ []) []

in_turn_append : (p : Plan) (s : State) (gs hs : List Span) → in_turn p s (gs ++ hs) ≡ in_turn p (in_turn p s gs) hs
unfolding in_turn
in_turn_append p s [] hs = refl
in_turn_append p s (g ∷ gs) hs = in_turn_append p (acted p s g) gs hs

module _ (p : Plan) (c : Configuration) (i : ℕ) where
  -- "All guards read the old state. Then come the transfer, each action": the values are what the transfer makes of the old ones, and then, in turn,
  -- the actions of the transitions that the old state chose
  pub values_after : (after p c i).state.values ≡ (in_turn p c.state (transfer_of p i ∷ actions_below p c.state i (components p))).values
  unfolding after judged fired in_turn
  values_after = ap (λ (s : State). s.values) (so_far (components p))
    where
      transferred : State
      transferred = acted p c.state (transfer_of p i)

      step : (n : ℕ) → acted_below p c.state i n ≡ in_turn p transferred (actions_below p c.state i n)
          → acted_below p c.state i (suc n) ≡ in_turn p transferred (actions_below p c.state i (suc n))
      step n e =
          unfold acted_below actions_below in_turn in
          (let g = action_of p (chosen_in p c.state i n) in
          let before = actions_below p c.state i n in
          bool_cases (takes_part p i n) (λ t. rw t (ap (λ (r : State). acted p r g) e ∙ sym (in_turn_append p transferred before (g ∷ []))))
          (λ t. rw t (e ∙ sym (in_turn_append p transferred before []))))

      so_far : (n : ℕ) → acted_below p c.state i n ≡ in_turn p transferred (actions_below p c.state i n)
      so_far zero = unfold acted_below actions_below in_turn in refl
      so_far (suc n) = step n (so_far n)

  -- "the destinations and the last ports": a component taking part is at the destination of the transition that the old state chose, and its
  -- last port is its port in the interaction
  pub part-moves : (k : ℕ) → k < 16 → takes_part p i k ≡ true
      → (get_or (after p c i).state.locations k 0 ≡ destination p (chosen_in p c.state i k)) × (get_or (after p c i).state.last_ports k 0 ≡ port_in p i k)
  unfolding after judged fired
  part-moves k l t = (
    get_or-table 16 (λ n. cond (takes_part p i n) (destination p (chosen_in p c.state i n)) (get_or c.state.locations n 0)) 0 k l ∙ rw t refl,
    get_or-table 16 (λ n. cond (takes_part p i n) (port_in p i n) (get_or c.state.last_ports n 0)) 0 k l ∙ rw t refl,
  )

  -- "A component that takes no part keeps its last port", and its location
  pub other_stays : (k : ℕ) → k < 16 → takes_part p i k ≡ false
      → (get_or (after p c i).state.locations k 0 ≡ get_or c.state.locations k 0) × (get_or (after p c i).state.last_ports k 0 ≡ get_or c.state.last_ports k 0)
  unfolding after judged fired
  other_stays k l t = (
    get_or-table 16 (λ n. cond (takes_part p i n) (destination p (chosen_in p c.state i n)) (get_or c.state.locations n 0)) 0 k l ∙ rw t refl,
    get_or-table 16 (λ n. cond (takes_part p i n) (port_in p i n) (get_or c.state.last_ports n 0)) 0 k l ∙ rw t refl,
  )

  -- "The event's letter is .. of the new state": every oracle reads the whole state after the move, last ports included
  pub new_state_judged : (after p c i).oracles ≡ next_states p c.oracles (letter p (after p c i).state)
  unfolding after judged
  new_state_judged = refl

-- "The oracle also reads the starting state's event"
pub start-judged : (p : Plan) → (initial p).oracles ≡ next_states p (start_states p) (letter p (initial p).state)
unfolding initial judged
start-judged p = refl
