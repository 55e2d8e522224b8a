-- Answers by their numbers, and in words.
use Rattle.std.specs.Prelude.{ℕ, ◌*◌, ◌/◌, ◌%◌, ◌==◌, ◌++◌, List, if◌then◌else◌, codes, decimal}
use Rattle.yard_text.specs.declared.answer.Answer.{Answer}
use Rattle.yard_text.specs.declared.answer.Answer.TheVariants.{Accepted, Committed, Cancelled, Stalled, Penned, Refused, Wrong, Idle, Unknown}

-- The answer that a number stands for: its kind is above the lowest sixteen bits, and what goes with the kind is in these.
abbrev pub answer_of : ℕ → Answer
answer_of n =
    if n == 0 then Accepted else
    if n / 65536 == 1 then Committed (n % 65536) else
    if n / 65536 == 2 then Cancelled (n % 65536) else
    if n == 3 * 65536 then Stalled else
    if n == 4 * 65536 then Penned else
    if n / 65536 == 5 then Refused (n % 65536) else
    if n / 65536 == 6 then Wrong (n % 65536) else
    if n == 7 * 65536 then Idle else Unknown n

-- An answer in words.
abbrev pub words_of : Answer → List ℕ
words_of Accepted = codes "accepted"
words_of (Committed i) = codes "committed " ++ decimal i
words_of (Cancelled i) = codes "cancelled " ++ decimal i
words_of Stalled = codes "stalled"
words_of Penned = codes "penned"
words_of (Refused n) = codes "refused " ++ decimal n
words_of (Wrong n) = codes "wrong " ++ decimal n
words_of Idle = codes "idle"
words_of (Unknown n) = codes "unknown " ++ decimal n
