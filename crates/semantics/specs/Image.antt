-- The image, 01 "The image, 312 bytes": written, read back, and the keeper's refusals 11 to 14.
use Rattle.std.specs.Prelude.{ℕ, ◌+◌, ◌*◌, Bool, not, cond, ◌||◌, List, [], ◌∷◌, ◌++◌, length, get_or, take, drop, leb, ltb, eqb, ℤ, pos}
use Rattle.semantics.specs.Bytes.{byte, u32, u64, le_bytes, all_of, implies, every, table, bit}
use Rattle.semantics.specs.Signed.{signed, residue, equal_z}
use Rattle.semantics.specs.Plan.{Plan, max_components, max_variables, max_interactions, max_oracles, no_port, number_byte, components, variables, interactions, locations, ports}
use Rattle.semantics.specs.Code.{State}
use Rattle.semantics.specs.Refusal.{Rule, rule}
use Rattle.semantics.specs.Move.{Configuration, eligible, after, oracles_in_range, good}

abbrev pub Image : Type 0
Image = List ℕ

-- The length of an image.
abbrev pub image_length : ℕ
image_length = 312

-- Where an image keeps what: the oracles' states, the marks, the locations, the last ports, the values.
abbrev pub oracles_place : ℕ
oracles_place = 8

abbrev pub marks_place : ℕ
marks_place = 16

abbrev pub locations_place : ℕ
locations_place = 24

abbrev pub last_ports_place : ℕ
last_ports_place = 40

abbrev pub value_place : ℕ → ℕ
value_place v = 56 + 4 * v

-- "0–3 the letters YARD; 4 form, 1; 5 C; 6 V; 7 I; 8 oracle state; .. 12–15 plan number". 02, job 1: "Image bytes 9–11 hold the added oracles' states".
unfoldable pub head : Plan → List ℕ → List ℕ
head p qs =
    89 ∷ 65 ∷ 82 ∷ 68 ∷ 1 ∷ components p ∷ variables p ∷ interactions p ∷ get_or qs 0 0 ∷ get_or qs 1 0 ∷ get_or qs 2 0 ∷ get_or qs 3 0
    ∷ number_byte p 0 ∷ number_byte p 1 ∷ number_byte p 2 ∷ number_byte p 3 ∷ []

unfoldable pub value_bytes : List ℤ → List ℕ
value_bytes [] = []
value_bytes (v ∷ vs) = le_bytes 4 (residue v) ++ value_bytes vs

-- ".. 16–23 marks; 24–39 locations; 40–55 last ports (255 none yet); 56–311 values." The marks (002's disabler) are a number with
-- bit i for interaction i.
unfoldable pub image : Plan → Configuration → ℕ → Image
image p c m = head p c.oracles ++ le_bytes 8 m ++ c.state.locations ++ c.state.last_ports ++ value_bytes c.state.values

-- "Its mark is set and no other byte differs": the image with other marks.
unfoldable pub with_marks : Image → ℕ → Image
with_marks b m = take marks_place b ++ le_bytes 8 m ++ drop locations_place b

-- What an image holds.
unfoldable pub marks_of : Image → ℕ
marks_of b = u64 b marks_place

unfoldable pub configuration_of : Image → Configuration
configuration_of b =
    record {
      state =
          record {
            locations = take max_components (drop locations_place b);
            last_ports = take max_components (drop last_ports_place b);
            values = table max_variables (λ v. signed (u32 b (value_place v)));
          };
      oracles = take max_oracles (drop oracles_place b);
    }

-- Bytes 8 to 11: 02, job 1: "checked under 13 and no longer under 12".
unfoldable pub oracle_byte : ℕ → Bool
oracle_byte k = all_of (leb oracles_place k ∷ ltb k (oracles_place + max_oracles) ∷ [])

-- 12: "bytes 0–7 or 9–15 do not match form 1 and the plan", of which 02, job 1, leaves 0 to 7 and 12 to 15.
unfoldable pub head_matches : Plan → Image → Bool
head_matches p b = every 16 (λ k. oracle_byte k || eqb (byte b k) (byte (head p []) k))

-- 13: "a location or last port out of range, an unused entry filled".
unfoldable pub location_ok : Plan → State → ℕ → Bool
location_ok p s c = cond (ltb c (components p)) (ltb (get_or s.locations c 0) (locations p c)) (eqb (get_or s.locations c 0) 0)

unfoldable pub last_port_ok : Plan → State → ℕ → Bool
last_port_ok p s c =
    cond (ltb c (components p)) (eqb (get_or s.last_ports c 0) no_port || ltb (get_or s.last_ports c 0) (ports p c)) (eqb (get_or s.last_ports c 0) no_port)

unfoldable pub value_ok : Plan → State → ℕ → Bool
value_ok p s v = ltb v (variables p) || equal_z (get_or s.values v (pos 0)) (pos 0)

-- 13: "oracle state at or above S or bad" too, and 02, job 1: of the added oracles, "zero where unused".
unfoldable pub configuration_ok : Plan → Configuration → Bool
configuration_ok p c =
    all_of (oracles_in_range p c.oracles ∷ good p c ∷ every max_components (location_ok p c.state) ∷ every max_components (last_port_ok p c.state)
    ∷ every max_variables (value_ok p c.state) ∷ [])

-- 14: "a mark at or above I, or on an interaction that is not enabled, is outranked, or would end in a good state". 02, job 3: "each enabled one above it is
-- marked too", which is that it is not outranked.
unfoldable pub mark_ok : Plan → Configuration → (ℕ → Bool) → ℕ → Bool
mark_ok p c marked i = all_of (ltb i (interactions p) ∷ eligible p c.state marked i ∷ not (good p (after p c i)) ∷ [])

unfoldable pub marks_ok : Plan → Configuration → ℕ → Bool
marks_ok p c m = every max_interactions (λ i. implies (bit m i) (mark_ok p c (bit m) i))

-- 11: "the image slice is not 312 bytes".
unfoldable pub length_rule : Image → Rule
length_rule b = rule 11 (eqb (length b) image_length)

-- 01, "The caller's programmer" and "The keeper of the image": 11 to 14, in order.
unfoldable pub image_rules : Plan → Image → List Rule
image_rules p b =
    length_rule b ∷ rule 12 (head_matches p b) ∷ rule 13 (configuration_ok p (configuration_of b)) ∷ rule 14 (marks_ok p (configuration_of b) (marks_of b)) ∷ []
