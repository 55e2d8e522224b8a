-- A turn, 02, job 7: from the plan's bytes, the roster and the buffer of all images to the answer, the roster and the buffer afterwards.
use Rattle.std.specs.Prelude.{ℕ, zero, suc, ◌+◌, ◌*◌, Bool, cond, List, [], ◌∷◌, ◌++◌, map, leb, ltb, eqb, length, take, drop}
use Rattle.semantics.specs.Bytes.{all_of, every}
use Rattle.semantics.specs.Plan.{Plan}
use Rattle.semantics.specs.Refusal.{Rule, rule, refusal}
use Rattle.semantics.specs.Rules.{plan_rules}
use Rattle.semantics.specs.Image.{Image, image_length}
use Rattle.semantics.specs.Calls.{Answer, refused, packed, Outcome, Call.settle, called}
use Rattle.roster.specs.declared.record.Lane.{Lane}
use Rattle.roster.specs.Roster.{max_lanes, lane_at, chosen, waited}

-- "their images end to end in one buffer": the image of lane i, and the buffer with another in its place.
unfoldable pub part : List ℕ → ℕ → Image
part b i = take image_length (drop (image_length * i) b)

unfoldable pub with_part : List ℕ → ℕ → Image → List ℕ
with_part b i c = take (image_length * i) b ++ (c ++ drop (image_length * i + image_length) b)

-- "23 when there are no lanes or more than eight, lane numbers do not run from 0, or the buffer is not 312 bytes a lane", of a buffer of k bytes.
unfoldable pub roster_ok : List Lane → ℕ → Bool
roster_ok l k =
    all_of (ltb 0 (length l) ∷ leb (length l) max_lanes ∷ every (length l) (λ i. eqb (lane_at l i).number i) ∷ eqb k (image_length * length l) ∷ [])

-- "it is tested after the plan's numbers and stands in for 11".
unfoldable pub turn_rules : Plan → List Lane → ℕ → List Rule
turn_rules p l k = plan_rules p ++ rule 23 (roster_ok l k) ∷ []

-- "the answer names lane and outcome": the lane that was served and what its settling answered; idle; or refused "for the plan or under 23".
pub data TurnAnswer : Type 0 where
  turned_away : ℕ → TurnAnswer
  idle : TurnAnswer
  served : ℕ → Answer → TurnAnswer

-- As one number: lane times 16777216 plus the outcome's; idle is kind 7.
unfoldable pub packed_turn : TurnAnswer → ℕ
packed_turn (turned_away n) = packed (refused n)
packed_turn idle = 7 * 65536
packed_turn (served i a) = i * 16777216 + packed a

-- What a turn answers and leaves.
pub record Dispatched : Type 0 where
  pub answer : TurnAnswer
  pub roster : List Lane
  pub images : List ℕ

abbrev pub unchanged : TurnAnswer → List Lane → List ℕ → Dispatched
unchanged a l b = record { answer = a; roster = l; images = b }

-- "It is settled": lane i's image.
unfoldable pub settled_part : Plan → List ℕ → ℕ → Outcome
settled_part p b i = called p (part b i) settle

-- A turn of lane i. "A lane's refusal uses up its turn": it is the outcome of a settling like any other.
unfoldable pub given : Plan → List Lane → List ℕ → ℕ → Dispatched
given p l b i =
    record { answer = served i (settled_part p b i).answer; roster = map (waited i) l; images = with_part b i (settled_part p b i).image }

-- "A turn refused for the plan or under 23 changes neither roster nor buffer."
unfoldable pub unless_turned_away : ℕ → List Lane → List ℕ → Dispatched → Dispatched
unless_turned_away zero l b d = d
unless_turned_away (suc n) l b d = unchanged (turned_away (suc n)) l b

-- The turn. "With all held the answer is idle and nothing changes."
unfoldable pub dispatch : Plan → List Lane → List ℕ → Dispatched
dispatch p l b =
    unless_turned_away (refusal (turn_rules p l (length b))) l b (cond (ltb (chosen l) (length l)) (given p l b (chosen l)) (unchanged idle l b))
