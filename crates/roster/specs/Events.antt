-- Demand 3 for each lane of a box: turns and calls on single images in any order, and what each lane sees of them.
use Rattle.std.specs.Prelude.{ℕ, Bool, true, not, cond, ◌&&◌, List, [], ◌∷◌, ◌++◌, ltb, eqb, length}
use Rattle.semantics.specs.Bytes.{all_of}
use Rattle.semantics.specs.Plan.{Plan}
use Rattle.semantics.specs.Refusal.{refusal}
use Rattle.semantics.specs.Image.{Image}
use Rattle.semantics.specs.Calls as calls
use Rattle.semantics.specs.Calls.{Outcome, outcome, Call, Call.settle, called}
use Rattle.roster.specs.declared.record.Lane.{Lane}
use Rattle.roster.specs.Roster.{chosen}
use Rattle.roster.specs.Turn.{part, with_part, turn_rules, TurnAnswer, turned_away, idle, served, dispatch}

-- What happens to a box's buffer under one plan: a turn, with the roster that the host then lends, a call on lane j's image, or a start of it.
pub data Event : Type 0 where
  turn : List Lane → Event
  call : ℕ → Call → Event
  start : ℕ → Event

-- The answer, with the lane that it is of, and the buffer afterwards.
unfoldable pub answered : Plan → List ℕ → Event → TurnAnswer
answered p b (turn l) = (dispatch p l b).answer
answered p b (call j k) = served j (called p (part b j) k).answer
answered p b (start j) = served j (calls.start p (part b j)).answer

unfoldable pub buffer_after : Plan → List ℕ → Event → List ℕ
buffer_after p b (turn l) = (dispatch p l b).images
buffer_after p b (call j k) = with_part b j (called p (part b j) k).image
buffer_after p b (start j) = with_part b j (calls.start p (part b j)).image

-- What lane i sees of an answer that is its own: the answer and its image then. Of another it sees nothing.
unfoldable pub seen_of : ℕ → TurnAnswer → Image → List Outcome
seen_of i (turned_away n) c = []
seen_of i idle c = []
seen_of i (served j a) c = cond (eqb j i) (outcome a c ∷ []) []

-- The outcomes on lane i's bytes, over a sequence that begins with the buffer b.
unfoldable pub seen : Plan → List ℕ → ℕ → List Event → List Outcome
seen p b i [] = []
seen p b i (e ∷ es) = seen_of i (answered p b e) (part (buffer_after p b e) i) ++ seen p (buffer_after p b e) i es

-- A turn goes to lane i: told from the plan, the roster and how many bytes the buffer has.
unfoldable pub goes_to : Plan → List Lane → ℕ → ℕ → Bool
goes_to p l n i = all_of (eqb (refusal (turn_rules p l n)) 0 ∷ ltb (chosen l) (length l) ∷ eqb (chosen l) i ∷ [])

-- The calls that an event, and a sequence of them, make on lane i's image: a turn of the lane is a settling.
unfoldable pub calls_on : Plan → ℕ → ℕ → Event → List Call
calls_on p n i (turn l) = cond (goes_to p l n i) (settle ∷ []) []
calls_on p n i (call j k) = cond (eqb j i) (k ∷ []) []
calls_on p n i (start j) = []

unfoldable pub calls_of : Plan → ℕ → ℕ → List Event → List Call
calls_of p n i [] = []
calls_of p n i (e ∷ es) = calls_on p n i e ++ calls_of p n i es

-- No event of the sequence starts lane i.
unfoldable pub starts_not : ℕ → Event → Bool
starts_not i (turn l) = true
starts_not i (call j k) = true
starts_not i (start j) = not (eqb j i)

unfoldable pub unstarted : ℕ → List Event → Bool
unstarted i [] = true
unstarted i (e ∷ es) = starts_not i e && unstarted i es
