-- BIP's steps as the papers print them: of an atomic component (001 and 002, definition 3), of a composite one (definition 7), under priorities
-- (definition 8, over any steps), and runs (001, definition 12). Of the engine's meaning they cite the fields of a plan and the evaluator of code alone.
use Rattle.std.specs.Prelude.{◌≡◌, ◌⊎◌, ℕ, ◌≤◌, ◌<◌, Bool, true, false, cond, ◌&&◌, ltb, eqb, List, [], ◌∷◌, length, get_or, ℤ, pos}
use Rattle.std.specs.Int.Signed.{mag}
use Rattle.semantics.specs.Bytes.{table}
use Rattle.semantics.specs.Plan.{Plan, max_components, max_variables, no_port, components, variables, transitions, interactions, locations, ports, start_location, owner, start_value, component_of, source, port_of, destination, guard_of, action_of, port_in, takes_part, interaction_guard, transfer_of, below}
use Rattle.semantics.specs.Code.{State, valued, guard_holds, acted}

-- ---- atomic components: 001 and 002, definitions 2 and 3

-- 002 definition 3: a state of a component is ⟨l, v, p⟩ ∈ L × [X → Data] × (P ∪ {null}). The valuation v has a place for each variable of the
-- plan, with 0 in those that are not the component's; null is `no_port`.
pub record Local : Type 0 where
  pub location : ℕ
  pub valuation : List ℤ
  pub last_port : ℕ

-- The valuation v restricted to a set of variables: 0 in the others' places.
unfoldable pub restricted_to : (ℕ → Bool) → List ℤ → List ℤ
restricted_to names v = table max_variables (λ x. cond (names x) (get_or v x (pos 0)) (pos 0))

-- Definition 2, X of component c: the variables that it owns.
unfoldable pub variable_of : Plan → ℕ → ℕ → Bool
variable_of p c v = ltb v (variables p) && eqb (owner p v) c

-- The valuation v restricted to the variables of component c.
abbrev pub restricted : Plan → ℕ → List ℤ → List ℤ
restricted p c v = restricted_to (variable_of p c) v

-- Definition 3, the condition on the transition: there is τ = ⟨l, port, l'⟩ of component c with g_τ(v).
pub record Able (p : Plan) (c port t : ℕ) (q : Local) : Type 0 where
  pub known : t < transitions p
  pub own : component_of p t ≡ c
  pub leaves : source p t ≡ q.location
  pub through : port_of p t ≡ port
  pub guarded : guard_holds p (valued q.valuation) (guard_of p t) ≡ true

-- Definition 3 for the transition t: ⟨l, v, p⟩ becomes ⟨l', v', port⟩ with v' = f_τ(v / v_port); `received` is v / v_port.
pub record Takes (p : Plan) (c port t : ℕ) (q : Local) (received : List ℤ) (q' : Local) : Type 0 where
  pub able : Able p c port t q
  pub reaches : q'.location ≡ destination p t
  pub computes : q'.valuation ≡ (acted p (valued received) (action_of p t)).values
  pub remembers : q'.last_port ≡ port

-- Definition 3, T₀: some transition takes the component from q to q'.
pub data Atomic (p : Plan) (c port : ℕ) (q : Local) (received : List ℤ) (q' : Local) : Type 0 where
  atomic : (t : ℕ) → Takes p c port t q received q' → Atomic p c port q received q'

-- ---- composite components: 001 and 002, definition 7

-- A state is an n-tuple ⟨q_1, .., q_n⟩, held as the lists of a `State`: this is its q_c.
unfoldable pub component : Plan → State → ℕ → Local
component p s c = record { location = get_or s.locations c 0; valuation = restricted p c s.values; last_port = get_or s.last_ports c 0 }

-- Q = B_1.Q × .. × B_n.Q, with Data the signed 32-bit numbers: `mag` is n both for n and for -(n + 1). Places of the lists that belong to no component
-- or variable hold 0, and 255 for a last port, as an image has them.
pub record Q (p : Plan) (s : State) : Type 0 where
  pub locations_long : length s.locations ≡ max_components
  pub ports_long : length s.last_ports ≡ max_components
  pub values_long : length s.values ≡ max_variables
  pub location : (c : ℕ) → c < components p → get_or s.locations c 0 < locations p c
  pub port : (c : ℕ) → c < components p → (get_or s.last_ports c 0 ≡ no_port) ⊎ (get_or s.last_ports c 0 < ports p c)
  pub value : (v : ℕ) → v < variables p → mag (get_or s.values v (pos 0)) < 2147483648
  pub no_location : (c : ℕ) → components p ≤ c → c < max_components → get_or s.locations c 0 ≡ 0
  pub no_port_lem : (c : ℕ) → components p ≤ c → c < max_components → get_or s.last_ports c 0 ≡ no_port
  pub no_value : (v : ℕ) → variables p ≤ v → get_or s.values v (pos 0) ≡ pos 0

-- X of interaction i: "the set of variables attached to the ports of a", all variables of the components taking part.
unfoldable pub variable_in : Plan → ℕ → ℕ → Bool
variable_in p i v = ltb v (variables p) && takes_part p i (owner p v)

-- v(X): the global valuation restricted to X. It is all that the guard and the transfer of interaction i are run on.
unfoldable pub attached : Plan → State → ℕ → State
attached p q i = valued (restricted_to (variable_in p i) q.values)

-- v / v_i with v_i = F_{a_i}(v(X)): what component c, taking part, holds of the old valuation after the transfer of interaction i.
unfoldable pub received : Plan → State → ℕ → ℕ → List ℤ
received p q i c = restricted p c (acted p (attached p q i) (transfer_of p i)).values

-- Definition 7, the rule: G_a(v(X)) holds of the old valuation; each component of the interaction takes a step of its own with the transferred
-- values; each other component stays as it is.
pub data Composite (p : Plan) (q : State) (i : ℕ) (q' : State) : Type 0 where
  fire : i < interactions p → guard_holds p (attached p q i) (interaction_guard p i) ≡ true
      → ((c : ℕ) → c < components p → takes_part p i c ≡ true → Atomic p c (port_in p i c) (component p q c) (received p q i c) (component p q' c))
      → ((c : ℕ) → c < components p → takes_part p i c ≡ false → component p q' c ≡ component p q c)
      → Q p q' → Composite p q i q'

-- ---- priorities: 001 and 002, definition 8

-- a ≺ a': interaction i lies below j.
abbrev pub Below : Plan → ℕ → ℕ → Type 0
Below p i j = below p i j ≡ true

-- The rule, over the steps of a system: a step q →a q', and no a' above a has a step. The papers print it over the steps of definition 7; 02, job 3, has it
-- over the monitor's commits (`RankedCommit`), and for a try over what the disabler leaves (`RankedUnder`).
pub data Ranked (p : Plan) {S : Type 0} (step : S → ℕ → S → Type 0) (q : S) (i : ℕ) (q' : S) : Type 0 where
  ranked : step q i q' → ((j : ℕ) (q'' : S) → Below p i j → step q j q'' → ⊥) → Ranked p step q i q'

-- ---- 01's choice

-- 01: "The lowest-numbered such transition is used (001 would allow any)."
pub record ByLowest (p : Plan) (q : State) (i : ℕ) (q' : State) (c : ℕ) : Type 0 where
  pub transition : ℕ
  pub takes : Takes p c (port_in p i c) transition (component p q c) (received p q i c) (component p q' c)
  pub lowest : (t : ℕ) → t < transition → Able p c (port_in p i c) t (component p q c) → ⊥

-- A step of definition 7 in which each component uses its lowest transition: the system that the engine runs.
pub record Chosen (p : Plan) (q : State) (i : ℕ) (q' : State) : Type 0 where
  pub step : Composite p q i q'
  pub picks : (c : ℕ) → c < components p → takes_part p i c ≡ true → ByLowest p q i q' c

-- ---- systems and runs: 001 definitions 9 and 12

-- Definition 9, Init: each component at its starting location and with its starting values, no port executed yet.
pub record Init (p : Plan) (q : State) : Type 0 where
  pub state : Q p q
  pub starts : (c : ℕ) → c < components p → get_or q.locations c 0 ≡ start_location p c
  pub silent : (c : ℕ) → c < components p → get_or q.last_ports c 0 ≡ no_port
  pub holds : (v : ℕ) → v < variables p → get_or q.values v (pos 0) ≡ start_value p v

-- A path of a labelled transition system.
pub data Path {S L : Type 0} (step : S → L → S → Type 0) : S → List L → S → Type 0 where
  here : {s : S} → Path step s [] s
  further : {s t u : S} {l : L} {ls : List L} → step s l t → Path step t ls u → Path step s (l ∷ ls) u

-- A trace of a labelled transition system from s: each label with the state that it leads to.
pub data Trace {S L : Type 0} (step : S → L → S → Type 0) : S → List (L × S) → Type 0 where
  still : {s : S} → Trace step s []
  onward : {s t : S} {l : L} {σ : List (L × S)} → step s l t → Trace step t σ → Trace step s ((l, t) ∷ σ)

-- The state in which a trace from s ends.
unfoldable pub end_of : {S L : Type 0} → S → List (L × S) → S
end_of s [] = s
end_of s (m ∷ σ) = end_of m.1 σ

-- Definition 12: a run of length m is q^0 = Init and m steps; `is` are its interactions, q its last state. Definition 12 has the steps under the priorities; here
-- these are ranked over the monitor's commits (`EngineRun`).
pub record CompositeRun (p : Plan) (is : List ℕ) (q : State) : Type 0 where
  pub first : State
  pub begins : Init p first
  pub steps : Path (Composite p) first is q
