-- The sample lane, 01 "The sample lane", and the changed lanes of its cases and of 02's. A lane is given by its tables; `written` lays them out as a plan.
use Rattle.std.specs.Prelude.{ℕ, zero, suc, ◌+◌, List, [], ◌∷◌, ◌++◌, map, length, replicate, take, drop}
use Rattle.semantics.specs.Bytes.{le_bytes}
use Rattle.semantics.specs.Plan.{Plan}

-- A plan's sections, each a list of records, and the numbers of the header that the sections do not give.
pub record Tables : Type 0 where
  pub number : ℕ
  pub first_oracle : ℕ
  pub components : List (List ℕ)
  pub variables : List (List ℕ)
  pub transitions : List (List ℕ)
  pub interactions : List (List ℕ)
  pub ranks : List (List ℕ)
  pub propositions : List (List ℕ)
  pub oracle : List (List ℕ)
  pub code : List ℕ

abbrev pub half : ℕ → List ℕ
half n = le_bytes 2 n

unfoldable pub joined : List (List ℕ) → List ℕ
joined [] = []
joined (r ∷ rs) = r ++ joined rs

-- The places where the sections begin, from the first one's on; last, where the last one ends.
unfoldable pub places : ℕ → List (List ℕ) → List ℕ
places k [] = k ∷ []
places k (s ∷ ss) = k ∷ places (k + length s) ss

unfoldable pub sections : Tables → List (List ℕ)
sections t =
    joined t.components ∷ joined t.variables ∷ joined t.transitions ∷ joined t.interactions ∷ joined t.ranks ∷ joined t.propositions
    ∷ joined t.oracle ∷ joined (map half t.code) ∷ []

unfoldable pub counts : Tables → List ℕ
counts t =
    length t.components ∷ length t.variables ∷ length t.transitions ∷ length t.interactions ∷ length t.propositions ∷ length t.oracle
    ∷ t.first_oracle ∷ length t.code ∷ []

-- The eight offsets: all places but the last.
unfoldable pub offsets : List ℕ → List ℕ
offsets [] = []
offsets (k ∷ []) = []
offsets (k ∷ l ∷ ks) = k ∷ offsets (l ∷ ks)

-- The plan's bytes.
unfoldable pub written : Tables → Plan
written t =
    let body = joined (sections t) in
    (80 ∷ 76 ∷ 65 ∷ 78 ∷ []) ++ le_bytes 4 t.number ++ half (48 + length body) ++ joined (map half (counts t))
    ++ joined (map half (offsets (places 48 (sections t)))) ++ replicate 6 0 ++ body

-- An empty span that starts at 0, and the span of so many words from a start.
abbrev pub span : ℕ → ℕ → List ℕ
span start size = half start ++ half size

abbrev pub empty_span : List ℕ
empty_span = span 0 0

-- Transition of the scale, component 0: source, port, destination, guard, action.
abbrev pub transition : ℕ → ℕ → ℕ → List ℕ → List ℕ → List ℕ
transition from port to guard action = (0 ∷ from ∷ port ∷ to ∷ []) ++ guard ++ action

-- Interaction through one port of the scale, guard and transfer empty.
abbrev pub interaction : ℕ → List ℕ
interaction port = port ∷ replicate 15 255 ++ empty_span ++ empty_span

-- "The scale has locations 0 empty, 1 tared, 2 weighed, starts at 0, and has ports 0 tare, 1 gross, 2 leave. Variable 0, the tare, starts at 0. .."
-- with what the cases change: the starting location, the guard of transition 0, whether there are transitions, the rank rows and the code past word 9.
unfoldable pub scale : ℕ → List (List ℕ) → List ℕ → List ℕ → Tables
scale start_location transitions rank1 more =
    record {
      number = 7;
      first_oracle = 0;
      components = (3 ∷ start_location ∷ 3 ∷ 0 ∷ []) ∷ [];
      variables = (0 ∷ 0 ∷ 0 ∷ 0 ∷ le_bytes 4 0) ∷ [];
      transitions = transitions;
      interactions = interaction 1 ∷ interaction 0 ∷ interaction 2 ∷ [];
      ranks = le_bytes 8 0 ∷ rank1 ∷ le_bytes 8 0 ∷ [];
      propositions = span 5 5 ∷ [];
      oracle = (2 ∷ 0 ∷ 1 ∷ []) ∷ (0 ∷ 1 ∷ 1 ∷ []) ∷ [];
      code = 0x0002 ∷ 0x1328 ∷ 0x3000 ∷ 0x0000 ∷ 0x3000 ∷ 0x4002 ∷ 0x2000 ∷ 0x0000 ∷ 0x6002 ∷ 0x6004 ∷ more;
    }

-- "Transitions (source, port, destination): 0 (0, 1, 2); 1 (0, 0, 1), action words 0–2; 2 (1, 1, 2); 3 (2, 2, 0), action words 3–4."
abbrev pub moves : List ℕ → List (List ℕ)
moves guard0 = transition 0 1 2 guard0 empty_span ∷ transition 0 0 1 empty_span (span 0 3) ∷ transition 1 1 2 empty_span empty_span ∷ transition 2 2 0 empty_span (span 3 2) ∷ []

unfoldable pub sample : Plan
sample = written (scale 0 (moves empty_span) (le_bytes 8 0) [])

-- Case 9: "With interaction 1 below 0".
unfoldable pub ranked : Plan
ranked = written (scale 0 (moves empty_span) (le_bytes 8 1) [])

-- Case 10: "With starting location 2".
unfoldable pub weighed_at_start : Plan
weighed_at_start = written (scale 2 (moves empty_span) (le_bytes 8 0) [])

-- Case 11: "With T 0, no transition records, and offsets and length to match".
unfoldable pub still : Plan
still = written (scale 0 [] (le_bytes 8 0) [])

-- Case 14: "A guard of the one word 6000": word 10, the guard of transition 0.
unfoldable pub underflow : Plan
underflow = written (scale 0 (moves (span 10 1)) (le_bytes 8 0) (0x6000 ∷ []))

-- ---- the lanes of 02's cases

-- Bytes 42 to 47 (02, job 1): how many oracles are added, the state counts of three, zero where unused, and two zeros.
unfoldable pub added_counts : List (List (List ℕ)) → List ℕ
added_counts added = length added ∷ take 3 (map length added ++ replicate 3 0) ++ replicate 2 0

-- The same lane with this table of the first oracle. Those of the added ones may follow it.
unfoldable pub with_oracle : List (List ℕ) → Tables → Tables
with_oracle oracle t =
    record {
      number = t.number;
      first_oracle = t.first_oracle;
      components = t.components;
      variables = t.variables;
      transitions = t.transitions;
      interactions = t.interactions;
      ranks = t.ranks;
      propositions = t.propositions;
      oracle = oracle;
      code = t.code;
    }

-- The plan of the same lane with these tables of the first oracle and of the added ones: bytes 20 and 21 count the states of the first.
unfoldable pub judged_by : List (List ℕ) → List (List (List ℕ)) → Tables → Plan
judged_by oracle added t =
    let p = written (with_oracle (oracle ++ map joined added) t) in
    take 20 p ++ half (length oracle) ++ take 20 (drop 22 p) ++ added_counts added ++ drop 48 p

-- Job 1: the sample with one oracle more, by which no state after the starting one is good.
unfoldable pub one_oracle_more : Plan
one_oracle_more =
    let t = scale 0 (moves empty_span) (le_bytes 8 0) [] in
    judged_by t.oracle (((2 ∷ 1 ∷ 1 ∷ []) ∷ (2 ∷ 2 ∷ 2 ∷ []) ∷ (0 ∷ 2 ∷ 2 ∷ []) ∷ []) ∷ []) t

-- Job 1: an added table in which a bad state has a follower that is not bad.
unfoldable pub added_broken : Plan
added_broken =
    let t = scale 0 (moves empty_span) (le_bytes 8 0) [] in
    judged_by t.oracle (((2 ∷ 0 ∷ 1 ∷ []) ∷ (0 ∷ 0 ∷ 1 ∷ []) ∷ []) ∷ []) t

-- Job 2: the sample with a guard of these words, from word 10 on, at transition 0.
unfoldable pub guarded : List ℕ → Plan
guarded words = written (scale 0 (moves (span 10 (length words))) (le_bytes 8 0) words)

-- Job 4: case 9's lane, where a tare is bad and a gross, which lies above it, good.
unfoldable pub tare_bad : Plan
tare_bad =
    let t = scale 0 (moves empty_span) (le_bytes 8 1) [] in
    judged_by ((2 ∷ 1 ∷ 1 ∷ []) ∷ (2 ∷ 2 ∷ 1 ∷ []) ∷ (0 ∷ 2 ∷ 2 ∷ []) ∷ []) [] t

-- Job 6: the sample, where a gross with no tare is "wrong only until" the scale is left, verdict 1, and a second one is bad.
unfoldable pub in_several : Plan
in_several =
    let t = scale 0 (moves empty_span) (le_bytes 8 0) [] in
    judged_by ((2 ∷ 0 ∷ 1 ∷ []) ∷ (1 ∷ 2 ∷ 1 ∷ []) ∷ (2 ∷ 2 ∷ 3 ∷ []) ∷ (0 ∷ 3 ∷ 3 ∷ []) ∷ []) [] t
