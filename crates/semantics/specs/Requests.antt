-- Worked cases of 02, job by job, as one table beside 01's fourteen: what the definitions give, and what 02 says. Those of job 7 stand in crate `roster`, which has the
-- turns; job 5 changed no answer.
use Rattle.std.specs.Prelude.{ℕ, ◌+◌, Bool, cond, List, [], ◌∷◌, ◌++◌, replicate, take, drop}
use Rattle.semantics.specs.Plan.{Plan}
use Rattle.semantics.specs.Rules.{transition_code}
use Rattle.semantics.specs.Move.{enabled}
use Rattle.semantics.specs.Image.{Image, configuration_of}
use Rattle.semantics.specs.Calls.{Outcome, check, called, offered, try, settle, list}
use Rattle.semantics.specs.Book.{blank, book_image, kept}
use Rattle.semantics.specs.Run.{is_run}
use Rattle.semantics.specs.Log.{Log, log_of, check_log, log_index}
use Rattle.semantics.specs.Sample.{ranked, one_oracle_more, added_broken, guarded, tare_bad, in_several}
use Rattle.semantics.specs.Cases.{Case, case, answered, start_image, tared_image, marked}

-- An answer's kind and number, and the image after it.
abbrev pub shown : Outcome → List ℕ
shown o = answered o ++ o.image

-- The answer to a log: kind, number and index.
abbrev pub logged : Plan → Log → List ℕ
logged p l = (check_log p l).kind ∷ (check_log p l).number ∷ log_index p l ∷ []

-- 1 where a test holds.
abbrev pub yes : Bool → ℕ
yes b = cond b 1 0

-- The image with byte i set to n.
abbrev pub with_byte : Image → ℕ → ℕ → Image
with_byte b i n = take i b ++ (n ∷ drop (1 + i) b)

-- The starting image with interaction 0 marked.
abbrev pub marked_image : Image
marked_image = marked start_image 1

-- The list of these moves, handed in on that image.
abbrev pub handed : Plan → List ℕ → List ℕ
handed p is = shown (called p marked_image (list (log_of is)))

unfoldable pub requests : List Case
requests =
    -- Job 1. Trying 1, which the common oracle lets pass (case 7), is cancelled by the added one, whose state byte 9 holds; no byte but the mark differs.
    case (shown (called one_oracle_more (with_byte start_image 9 1) (try 1))) (2 ∷ 1 ∷ marked (with_byte start_image 9 1) 2)
    -- Settling, which commits it in case 7, is penned.
    ∷ case (shown (called one_oracle_more (with_byte start_image 9 1) settle)) (4 ∷ 0 ∷ marked (with_byte start_image 9 1) 3)
    -- An added table breaks the rule of 9: 20.
    ∷ case ((check added_broken).kind ∷ (check added_broken).number ∷ []) (5 ∷ 20 ∷ [])
    -- Job 2. A guard is lawful, and its move enabled, that asks whether 2147483647 add 1 is 2147483647 and −2147483647 less 2 is −2147483647 less 1.
    ∷ case (yes (transition_code (guarded ends) 0) ∷ yes (enabled (guarded ends) (configuration_of marked_image).state 0) ∷ []) (1 ∷ 1 ∷ [])
    -- Job 3. In case 9 once 0 is cancelled: marked, it holds 1 down no longer. Offered is 2, trying 1 and settling commit 1.
    ∷ case ((called ranked marked_image offered).answer.bits ∷ shown (called ranked marked_image (try 1)) ++ shown (called ranked marked_image settle))
    ((2 ∷ 1 ∷ 1 ∷ tared_image) ++ 1 ∷ 1 ∷ tared_image)
    -- 1 is a run there, since 0 above it is not good.
    ∷ case (yes (is_run ranked (configuration_of marked_image) (1 ∷ [])) ∷ []) (1 ∷ [])
    -- Job 4. The moves that yard-run writes for the sample are accepted there too, and so is the empty log.
    ∷ case (logged ranked (log_of (1 ∷ 0 ∷ 2 ∷ 1 ∷ 0 ∷ 2 ∷ [])) ++ logged ranked []) (0 ∷ 0 ∷ 0 ∷ 0 ∷ 0 ∷ 0 ∷ [])
    -- Wrong by 16 at index 1; by 17 at 1; by 18 at 0, since 0 above is good, though 1 ends bad; bad, which has number 0, at 3. Odd in bytes: 21.
    ∷ case (logged ranked (log_of (1 ∷ 3 ∷ []))) (6 ∷ 16 ∷ 1 ∷ [])
    ∷ case (logged ranked (log_of (1 ∷ 1 ∷ []))) (6 ∷ 17 ∷ 1 ∷ [])
    ∷ case (logged tare_bad (log_of (1 ∷ []))) (6 ∷ 18 ∷ 0 ∷ [])
    ∷ case (logged ranked (log_of (1 ∷ 0 ∷ 2 ∷ 0 ∷ []))) (6 ∷ 0 ∷ 3 ∷ [])
    ∷ case (logged ranked (1 ∷ [])) (5 ∷ 21 ∷ 0 ∷ [])
    -- Job 6. The list 0, 2 is committed whole through verdict 1, and the mark is cleared.
    ∷ case (handed in_several (0 ∷ 2 ∷ [])) (1 ∷ 2 ∷ left_image)
    -- The book, told to try 0, which is cancelled, and of that list, has the same image.
    ∷ case (book_image in_several (kept in_several blank (try 0 ∷ list (log_of (0 ∷ 2 ∷ [])) ∷ []))) left_image
    -- Cancelled at an entry, and the mark stays: at 2, of verdict 0; at 1, not enabled; at 0, no interaction.
    ∷ case (handed in_several (0 ∷ 2 ∷ 0 ∷ 2 ∷ [])) (2 ∷ 2 ∷ marked_image)
    ∷ case (handed in_several (1 ∷ 1 ∷ [])) (2 ∷ 1 ∷ marked_image)
    ∷ case (handed in_several (3 ∷ [])) (2 ∷ 0 ∷ marked_image)
    -- Cancelled at its end: the number of entries.
    ∷ case (handed in_several (0 ∷ [])) (2 ∷ 1 ∷ marked_image)
    -- 22: empty, odd in bytes, nine moves.
    ∷ case (handed in_several []) (5 ∷ 22 ∷ marked_image)
    ∷ case (answered (called in_several marked_image (list (0 ∷ []))) ++ answered (called in_several marked_image (list (replicate 18 0)))) (5 ∷ 22 ∷ 5 ∷ 22 ∷ [])
    ∷ []
  where
    -- After the list 0, 2: oracle state 2, location 0, last port 2.
    left_image : Image
    left_image = with_byte (with_byte start_image 8 2) 40 2

    -- The words of 2147483647, and of its negative less n.
    upper : List ℕ
    upper = 0x007f ∷ 0x1fff ∷ 0x1fff ∷ []

    lower : ℕ → List ℕ
    lower n = 0x0000 ∷ upper ++ 0x6001 ∷ n ∷ 0x6001 ∷ []

    -- "upper add 1 is upper, and lower 2 is lower 1".
    ends : List ℕ
    ends = upper ++ 0x0001 ∷ 0x6000 ∷ upper ++ 0x6002 ∷ lower 2 ++ lower 1 ++ 0x6002 ∷ 0x6004 ∷ []
