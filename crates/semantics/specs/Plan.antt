-- The fields of a plan, 01 "A plan's bytes": each definition is the place of one field. A plan is its bytes.
use Rattle.std.specs.Prelude.{ℕ, zero, suc, ◌+◌, ◌*◌, ◌^◌, Bool, not, List, [], ◌∷◌, get_or, eqb, ℤ}
use Rattle.semantics.specs.Bytes.{byte, u16, u32, u64, bit}
use Rattle.semantics.specs.Signed.{signed}

abbrev pub Plan : Type 0
Plan = List ℕ

-- The most components, variables and interactions that a plan may have; an image has room for as many.
abbrev pub max_components : ℕ
max_components = 16

abbrev pub max_variables : ℕ
max_variables = 64

abbrev pub max_interactions : ℕ
max_interactions = 64

-- 02, job 1: "A plan may carry up to three more oracles". The first one has number 0.
abbrev pub max_oracles : ℕ
max_oracles = 4

-- A port byte of a component that takes no part; a last port where there is none yet.
abbrev pub no_port : ℕ
no_port = 255

-- "4–7 the plan number": its byte k.
abbrev pub number_byte : Plan → ℕ → ℕ
number_byte p k = byte p (4 + k)

-- Bytes 46 and 47, which are zero: byte k of them.
abbrev pub reserved_byte : Plan → ℕ → ℕ
reserved_byte p k = byte p (46 + k)

-- The header: "Then 16-bit fields: 8 total length; 10 components C; ..".
abbrev pub total_length : Plan → ℕ
total_length p = u16 p 8

abbrev pub components : Plan → ℕ
components p = u16 p 10

abbrev pub variables : Plan → ℕ
variables p = u16 p 12

abbrev pub transitions : Plan → ℕ
transitions p = u16 p 14

abbrev pub interactions : Plan → ℕ
interactions p = u16 p 16

abbrev pub propositions : Plan → ℕ
propositions p = u16 p 18

abbrev pub first_oracle : Plan → ℕ
first_oracle p = u16 p 22

abbrev pub code_words : Plan → ℕ
code_words p = u16 p 24

-- 02, job 1: "Byte 42 gives how many (0–3)": the oracles beside the first one.
abbrev pub added_oracles : Plan → ℕ
added_oracles p = byte p 42

-- All oracles of the plan.
abbrev pub oracles : Plan → ℕ
oracles p = suc (added_oracles p)

-- "20 oracle states S", of the first oracle; "and bytes 43–45 their state counts", of the added ones.
unfoldable pub oracle_states : Plan → ℕ → ℕ
oracle_states p zero = u16 p 20
oracle_states p (suc k) = byte p (43 + k)

-- The state in which each oracle begins: "22 first oracle state", and of the added ones "Each begins at its state 0".
abbrev pub start_states : Plan → List ℕ
start_states p = first_oracle p ∷ 0 ∷ 0 ∷ 0 ∷ []

-- "Their tables follow the first oracle's section": how many oracle states stand before those of oracle n.
unfoldable pub states_before : Plan → ℕ → ℕ
states_before p zero = 0
states_before p (suc n) = states_before p n + oracle_states p n

-- How many letters there are: a letter is a set of propositions.
abbrev pub letters : Plan → ℕ
letters p = 2 ^ propositions p

-- "26 to 40 the offsets of the eight sections", in the order of the bullets below them.
abbrev pub section : Plan → ℕ → ℕ
section p n = u16 p (26 + 2 * n)

-- The size in bytes of section n, by its bullet.
unfoldable pub section_size : Plan → ℕ → ℕ
section_size p n =
    get_or ((4 * components p) ∷ (8 * variables p) ∷ (12 * transitions p) ∷ (24 * interactions p) ∷ (8 * interactions p)
    ∷ (4 * propositions p) ∷ ((1 + letters p) * states_before p max_oracles) ∷ (2 * code_words p) ∷ []) n 0

-- "The first section begins at 48, each next one where the last ended."
unfoldable pub section_start : Plan → ℕ → ℕ
section_start p zero = 48
section_start p (suc n) = section_start p n + section_size p n

-- "Component, 4 bytes: locations (1–16), starting location, ports (1–16), zero."
abbrev pub component_at : Plan → ℕ → ℕ
component_at p c = section p 0 + 4 * c

abbrev pub locations : Plan → ℕ → ℕ
locations p c = byte p (component_at p c)

abbrev pub start_location : Plan → ℕ → ℕ
start_location p c = byte p (component_at p c + 1)

abbrev pub ports : Plan → ℕ → ℕ
ports p c = byte p (component_at p c + 2)

-- "Variable, 8: owner, three zeros, starting value."
abbrev pub variable_at : Plan → ℕ → ℕ
variable_at p v = section p 1 + 8 * v

abbrev pub owner : Plan → ℕ → ℕ
owner p v = byte p (variable_at p v)

abbrev pub start_value : Plan → ℕ → ℤ
start_value p v = signed (u32 p (variable_at p v + 4))

-- A span of code: "16-bit start and length .., in code words".
pub record Span : Type 0 where
  pub start : ℕ
  pub size : ℕ

abbrev pub span_at : Plan → ℕ → Span
span_at p i = record { start = u16 p i; size = u16 p (i + 2) }

-- "Transition, 12: component, source, port, destination, then .. guard and .. action".
abbrev pub transition_at : Plan → ℕ → ℕ
transition_at p t = section p 2 + 12 * t

abbrev pub component_of : Plan → ℕ → ℕ
component_of p t = byte p (transition_at p t)

abbrev pub source : Plan → ℕ → ℕ
source p t = byte p (transition_at p t + 1)

abbrev pub port_of : Plan → ℕ → ℕ
port_of p t = byte p (transition_at p t + 2)

abbrev pub destination : Plan → ℕ → ℕ
destination p t = byte p (transition_at p t + 3)

abbrev pub guard_of : Plan → ℕ → Span
guard_of p t = span_at p (transition_at p t + 4)

abbrev pub action_of : Plan → ℕ → Span
action_of p t = span_at p (transition_at p t + 8)

-- "Interaction, 24: sixteen port bytes, 255 for a component that takes no part ..; then start and length of guard and of transfer."
abbrev pub interaction_at : Plan → ℕ → ℕ
interaction_at p i = section p 3 + 24 * i

abbrev pub port_in : Plan → ℕ → ℕ → ℕ
port_in p i c = byte p (interaction_at p i + c)

-- "A component with a port in it takes part."
unfoldable pub takes_part : Plan → ℕ → ℕ → Bool
takes_part p i c = not (eqb (port_in p i c) no_port)

abbrev pub interaction_guard : Plan → ℕ → Span
interaction_guard p i = span_at p (interaction_at p i + 16)

abbrev pub transfer_of : Plan → ℕ → Span
transfer_of p i = span_at p (interaction_at p i + 20)

-- "Rank row, 8, one an interaction: bit j of row i is set when i lies below j." The rank is BIP's priority: j has priority over i.
abbrev pub rank_at : Plan → ℕ → ℕ
rank_at p i = section p 4 + 8 * i

abbrev pub rank_row : Plan → ℕ → ℕ
rank_row p i = u64 p (rank_at p i)

unfoldable pub below : Plan → ℕ → ℕ → Bool
below p i j = bit (rank_row p i) j

-- "Proposition, 4: start and length."
abbrev pub proposition_at : Plan → ℕ → ℕ
proposition_at p k = section p 5 + 4 * k

abbrev pub proposition_of : Plan → ℕ → Span
proposition_of p k = span_at p (proposition_at p k)

-- "Oracle state, 1 + 2^K: verdict, then the next state for each letter": row r of the section, and that of state q of oracle n.
abbrev pub row_at : Plan → ℕ → ℕ
row_at p r = section p 6 + (1 + letters p) * r

abbrev pub oracle_at : Plan → ℕ → ℕ → ℕ
oracle_at p n q = row_at p (states_before p n + q)

unfoldable pub verdict : Plan → ℕ → ℕ → ℕ
verdict p n q = byte p (oracle_at p n q)

unfoldable pub next : Plan → ℕ → ℕ → ℕ → ℕ
next p n q a = byte p (oracle_at p n q + (1 + a))

-- "Code: W words of 16 bits."
abbrev pub word : Plan → ℕ → ℕ
word p k = u16 p (section p 7 + 2 * k)
