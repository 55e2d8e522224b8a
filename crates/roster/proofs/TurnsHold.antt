-- Worked cases of 02, job 7, on the sample lane's plan: what a turn gives, and what 02 says. One table, one proof. The last row is the limit of eight lanes.
use mathlib.Core.Path.{◌≡◌, refl}
use Prim.Native.Nat.{ℕ, ◌+◌, ◌*◌}
use mathlib.Core.Bool.{true, cond}
use mathlib.Core.List.{List, [], ◌∷◌, ◌++◌, map}
use lib.ListN.{replicate}
use Rattle.semantics.specs.Image.{image_length}
use Rattle.semantics.specs.Sample.{sample}
use Rattle.semantics.specs.Cases.{Case, case, all_agree, start_image, tared_image}
use Rattle.semantics.proofs.Meaning.{in_bytes, in_calls, in_cases, in_code, in_image, in_move, in_plan, in_refusal, in_rules, in_sample, in_signed}
use Rattle.roster.specs.declared.record.Lane.{Lane}
use Rattle.roster.specs.Roster.{max_lanes, longest, chosen, longer, waited}
use Rattle.roster.specs.Turn.{part, with_part, roster_ok, turn_rules, packed_turn, Dispatched, settled_part, given, unless_turned_away, dispatch}
use Rattle.roster.specs.Turns.{fresh}

-- A lane that is free, and one that is held, with its wait.
abbrev unheld : ℕ → ℕ → Lane
unheld n w = record { number = n; held = 0; wait = w }

abbrev kept : ℕ → ℕ → Lane
kept n w = record { number = n; held = 1; wait = w }

-- A roster's waits.
abbrev waits : List Lane → List ℕ
waits l = map (λ a. a.wait) l

-- The turn's one number, the waits and the buffer after it.
abbrev shown : Dispatched → List ℕ
shown d = packed_turn d.answer ∷ waits d.roster ++ d.images

-- An image that is refused: 12.
abbrev blank : List ℕ
blank = replicate image_length 0

unfoldable pub turns : List Case
turns =
    -- Served: lane 2 waited longest of the unheld. It commits 1 as in case 7, its wait becomes 0, the others grow by one; no other lane's bytes change.
    case (shown (dispatch sample (kept 0 9 ∷ unheld 1 2 ∷ unheld 2 3 ∷ []) (start_image ++ start_image ++ start_image)))
    ((2 * 16777216 + 1 * 65536 + 1) ∷ 10 ∷ 3 ∷ 0 ∷ start_image ++ start_image ++ tared_image)
    -- Tied: the lowest number; a wait of 65535 stops there.
    ∷ case (shown (dispatch sample (kept 0 65535 ∷ unheld 1 2 ∷ unheld 2 2 ∷ []) (start_image ++ start_image ++ start_image)))
    ((1 * 16777216 + 1 * 65536 + 1) ∷ 65535 ∷ 0 ∷ 3 ∷ start_image ++ tared_image ++ start_image)
    -- The lane's own refusal uses up its turn.
    ∷ case (shown (dispatch sample (unheld 0 0 ∷ unheld 1 1 ∷ []) (start_image ++ blank))) ((1 * 16777216 + 5 * 65536 + 12) ∷ 1 ∷ 0 ∷ start_image ++ blank)
    -- Idle: all are held, and nothing changes.
    ∷ case (shown (dispatch sample (kept 0 1 ∷ kept 1 2 ∷ []) (start_image ++ start_image))) ((7 * 65536) ∷ 1 ∷ 2 ∷ start_image ++ start_image)
    -- 23: no lanes; numbers that do not run from 0; a buffer of another length.
    ∷ case (shown (dispatch sample [] [])) ((5 * 65536 + 23) ∷ [])
    ∷ case (shown (dispatch sample (unheld 1 0 ∷ []) start_image)) ((5 * 65536 + 23) ∷ 0 ∷ start_image)
    ∷ case (shown (dispatch sample (unheld 0 0 ∷ []) [])) ((5 * 65536 + 23) ∷ 0 ∷ [])
    -- "One box serves up to eight lanes": none, one, eight, nine.
    ∷ case (max_lanes ∷ map (λ n. cond (roster_ok (fresh n) (312 * n)) 1 0) (0 ∷ 1 ∷ 8 ∷ 9 ∷ [])) (8 ∷ 0 ∷ 1 ∷ 1 ∷ 0 ∷ [])
    ∷ []

pub turns_hold : all_agree turns ≡ true
unfolding in_bytes in_calls in_cases in_code in_image in_move in_plan in_refusal in_rules in_sample in_signed
    longest chosen longer waited part with_part roster_ok turn_rules packed_turn settled_part given unless_turned_away dispatch fresh turns
turns_hold = refl
