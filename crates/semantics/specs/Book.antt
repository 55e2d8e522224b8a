-- The book, 01 "The book of demand 3": what each call has to answer and leave, told from the plan and the calls alone. It is fed no
-- answers and no image, and uses none of the definitions of the calls: it shares with them what a move and a list of moves mean (Move, Load).
use Rattle.std.specs.Prelude.{ℕ, zero, suc, Bool, false, not, cond, ◌||◌, List, [], ◌∷◌, ◌++◌, length, ltb, eqb}
use Rattle.semantics.specs.Bytes.{entries, all_of, some_below, mask}
use Rattle.semantics.specs.Plan.{Plan, interactions}
use Rattle.semantics.specs.Refusal.{rule, refusal}
use Rattle.semantics.specs.Move.{Configuration, enabled, outranked, eligible, after, good, safe_move, replay, initial}
use Rattle.semantics.specs.Load.{list_rules, stops_at, completes}
use Rattle.semantics.specs.Image.{Image, image}
use Rattle.semantics.specs.Calls.{Answer, accepted, offers, committed, cancelled, stalled, penned, refused, Outcome, outcome, Call, offered, try, settle, list}

-- "It holds a list of moves done and a set of moves crossed off".
pub record Book : Type 0 where
  pub done : List ℕ
  pub crossed : ℕ → Bool

-- "both empty after start".
abbrev pub blank : Book
blank = record { done = []; crossed = λ i. false }

-- "Its lane, oracle state included, is the starting state, its event read, after the listed moves in turn."
unfoldable pub lane : Plan → Book → Configuration
lane p k = replay p (initial p) k.done

-- "Its image is its lane with the set as marks".
unfoldable pub book_image : Plan → Book → Image
book_image p k = image p (lane p k) (mask (interactions p) k.crossed)

-- Moves are listed and the set emptied.
abbrev pub listed : Book → List ℕ → Book
listed k is = record { done = k.done ++ is; crossed = λ j. false }

-- The moves of a set are crossed off.
abbrev pub crossed_off : Book → (ℕ → Bool) → Book
crossed_off k set = record { done = k.done; crossed = λ j. k.crossed j || set j }

-- What the book answers, and the book afterwards.
pub record Entry : Type 0 where
  pub answer : Answer
  pub book : Book

abbrev pub entry : Answer → Book → Entry
entry a k = record { answer = a; book = k }

-- "Offered changes nothing."
unfoldable pub book_offered : Plan → Book → Entry
book_offered p k = entry (offers (mask (interactions p) (λ i. all_of (eligible p (lane p k).state k.crossed i ∷ not (k.crossed i) ∷ [])))) k

-- The first of 16, 17, 18 and 19 that applies to a try, 0 where none does: "crossed off stands for marked".
unfoldable pub book_refusal : Plan → Book → ℕ → ℕ
book_refusal p k i =
    refusal (rule 16 (ltb i (interactions p)) ∷ rule 17 (enabled p (lane p k).state i) ∷ rule 18 (not (outranked p (lane p k).state k.crossed i))
    ∷ rule 19 (not (k.crossed i)) ∷ [])

-- "A try to which 16, 17, 18 or 19 applies changes nothing. Else a good move is listed and the set emptied, and any other is crossed off."
unfoldable pub book_tried : Plan → Book → ℕ → Entry
book_tried p k i = cond (good p (after p (lane p k) i)) (entry (committed i) (listed k (i ∷ []))) (entry (cancelled i) (crossed_off k (λ j. eqb j i)))

unfoldable pub unless_wrong : ℕ → Book → Entry → Entry
unless_wrong zero k e = e
unless_wrong (suc n) k e = entry (refused (suc n)) k

-- "A settling that commits lists its move and empties the set. Stalled changes nothing." Penned crosses off every enabled move; 02, job 3: it "leaves every enabled
-- interaction marked".
unfoldable pub book_settled : Plan → Book → Entry
book_settled p k =
    let i = safe_move p (lane p k) in
    cond (ltb i (interactions p)) (entry (committed i) (listed k (i ∷ [])))
    (cond (some_below (interactions p) (enabled p (lane p k).state)) (entry penned (crossed_off k (enabled p (lane p k).state))) (entry stalled k))

-- 02, job 6: "A committed list adds all its entries, in order, to the book's moves done and empties the set; any other changes nothing."
unfoldable pub book_listed : Plan → Book → List ℕ → Entry
book_listed p k is =
    cond (completes p (lane p k) is) (entry (committed (length is)) (listed k is)) (entry (cancelled (stops_at p (lane p k) is)) k)

-- The book's answer to one call. "The book is fed a list's bytes too and answers it on its own lane by the rules here, 22 included."
unfoldable pub turn : Plan → Book → Call → Entry
turn p k offered = book_offered p k
turn p k (try i) = unless_wrong (book_refusal p k i) k (book_tried p k i)
turn p k settle = book_settled p k
turn p k (list l) = unless_wrong (refusal (list_rules l)) k (book_listed p k (entries l))

-- What the book says of a sequence of calls: each answer, and its image then.
unfoldable pub told : Plan → Book → List Call → List Outcome
told p k [] = []
told p k (c ∷ cs) = outcome (turn p k c).answer (book_image p (turn p k c).book) ∷ told p (turn p k c).book cs

-- The book after a sequence of calls.
unfoldable pub kept : Plan → Book → List Call → Book
kept p k [] = k
kept p k (c ∷ cs) = kept p (turn p k c).book cs

-- The same after an accepted start, with the start's own answer and image first.
unfoldable pub book_session : Plan → List Call → List Outcome
book_session p cs = outcome accepted (book_image p blank) ∷ told p blank cs
