-- How the code takes a turn: one reading of the roster, the turn of the lane found, and the waits after it. Choice and Dispatch show that this is the paper's turn.
use Rattle.std.specs.Prelude.{ℕ, zero, suc, ◌*◌, Bool, true, not, cond, ◌&&◌, ◌||◌, List, ltb, eqb, length, Option, Some, None}
use Rattle.semantics.specs.Plan.{Plan}
use Rattle.semantics.specs.Rules.{plan_refusal}
use Rattle.semantics.specs.Image.{image_length}
use Rattle.roster.specs.declared.record.Lane.{Lane}
use Rattle.roster.specs.declared.record.Scan.{Scan}
use Rattle.roster.specs.Roster.{max_lanes, lane_at, waited}
use Rattle.roster.specs.Turn.{with_part, TurnAnswer, turned_away, idle, served, settled_part}

abbrev pub none : Scan
none = record { counted = true; longest = None }

-- A free lane is found where none was, or where it waited longer.
abbrev pub waits_less : Option Lane → ℕ → Bool
waits_less None w = true
waits_less (Some b) w = ltb b.wait w

abbrev pub better : Option Lane → Lane → Bool
better o a = eqb a.held 0 && waits_less o a.wait

unfoldable pub scan_step : Scan → ℕ → Lane → Scan
scan_step s i a = record { counted = s.counted && eqb a.number i; longest = cond (better s.longest a) (Some a) s.longest }

-- The first i records read.
unfoldable pub scan_to : ℕ → List Lane → Scan
scan_to zero l = none
scan_to (suc i) l = scan_step (scan_to i l) i (lane_at l i)

abbrev pub scanned : List Lane → Scan
scanned l = scan_to (length l) l

-- A record after a turn: of lane n, or of none.
unfoldable pub moved_on : Option ℕ → Lane → Lane
moved_on None a = a
moved_on (Some n) a = waited n a

-- 23, from a reading of n records and a buffer of k bytes.
unfoldable pub bad_roster : ℕ → Scan → ℕ → Bool
bad_roster k s n = eqb n 0 || ltb max_lanes n || not s.counted || not (eqb k (image_length * n))

-- The turn of the lane found, of n: its answer, and the buffer's bytes.
unfoldable pub found_answer : Plan → List ℕ → ℕ → Option Lane → TurnAnswer
found_answer p b n None = idle
found_answer p b n (Some a) = cond (ltb a.number n) (served a.number (settled_part p b a.number).answer) idle

unfoldable pub found_bytes : Plan → List ℕ → ℕ → Option Lane → List ℕ
found_bytes p b n None = b
found_bytes p b n (Some a) = cond (ltb a.number n) (with_part b a.number (settled_part p b a.number).image) b

-- The turn, from a reading of n records: the plan's numbers and 23 come before it.
unfoldable pub served_answer : Plan → List ℕ → Scan → ℕ → TurnAnswer
served_answer p b s n =
    cond (not (eqb (plan_refusal p) 0)) (turned_away (plan_refusal p)) (cond (bad_roster (length b) s n) (turned_away 23) (found_answer p b n s.longest))

unfoldable pub served_bytes : Plan → List ℕ → Scan → ℕ → List ℕ
served_bytes p b s n = cond (not (eqb (plan_refusal p) 0)) b (cond (bad_roster (length b) s n) b (found_bytes p b n s.longest))
