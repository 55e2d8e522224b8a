-- The roster, 02, job 7: "a lent list of lane records, each with its lane number, 16-bit turns waited and a held flag"; whose turn it is, and the waits after it.
use Rattle.std.specs.Prelude.{ℕ, ◌+◌, Bool, cond, List, [], ◌∷◌, leb, ltb, eqb, length, get_or}
use Rattle.semantics.specs.Bytes.{all_of, implies, every, lowest}
use Rattle.roster.specs.declared.record.Lane.{Lane}

-- "One box serves up to eight lanes".
abbrev pub max_lanes : ℕ
max_lanes = 8

-- The record at place i; past the end one that is never read.
abbrev pub no_lane : Lane
no_lane = record { number = 0; held = 0; wait = 0 }

abbrev pub lane_at : List Lane → ℕ → Lane
lane_at l i = get_or l i no_lane

-- The lane is not held: its flag is 0.
abbrev pub free : List Lane → ℕ → Bool
free l i = eqb (lane_at l i).held 0

abbrev pub wait_of : List Lane → ℕ → ℕ
wait_of l i = (lane_at l i).wait

-- "the unheld lane that waited longest".
unfoldable pub longest : List Lane → ℕ → Bool
longest l i = all_of (free l i ∷ every (length l) (λ j. implies (free l j) (leb (wait_of l j) (wait_of l i))) ∷ [])

-- "A turn goes to the unheld lane that waited longest, the lowest number on a tie"; the number of lanes where all are held.
unfoldable pub chosen : List Lane → ℕ
chosen l = lowest (length l) (longest l)

-- A wait that "grows by one, stopping at 65535".
unfoldable pub longer : ℕ → ℕ
longer w = cond (ltb w 65535) (w + 1) w

-- "its wait becomes 0 and every other wait grows by one": a record after a turn of lane i.
unfoldable pub waited : ℕ → Lane → Lane
waited i a = record { number = a.number; held = a.held; wait = cond (eqb a.number i) 0 (longer a.wait) }
