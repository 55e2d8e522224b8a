-- Demand 3, first corollary: after any calls from an accepted start on, the bytes of the image but the marks are those that the last start,
-- committed move or committed list left.
use mathlib.Core.Path.{◌≡◌, refl}
use Prim.Native.Nat.{ℕ}
use mathlib.Core.Bool.{Bool, cond}
use mathlib.Core.List.{List, [], ◌∷◌}
use Rattle.semantics.specs.Bytes.{le_bytes}
use Rattle.semantics.specs.Plan.{Plan}
use Rattle.semantics.specs.Rules.{plan_refusal}
use Rattle.semantics.specs.Image.{Image, head, image}
use Rattle.semantics.specs.Calls.{start, Call, called_all}
use Rattle.semantics.specs.Book.{Book, blank, lane, book_image, crossed_off, Entry, turn, told}
use Rattle.semantics.specs.Run.{commits, left_by, last_committed}
pub use Rattle.semantics.proofs.OneCall.{SameButMarks}
use Rattle.semantics.proofs.BookStep.{Lawful, turn_lawful}
use Rattle.semantics.proofs.BookTurns.{Turned, commits-move, commits-list, crosses_off, changes_nothing, turned}
use Rattle.semantics.proofs.Demand3.{Starts, start_plan, start_is, blank_lawful, calls-told}

-- the image of a book with moves crossed off is that of the book but for the marks
crossed_image : (p : Plan) (k : Book) (f : ℕ → Bool) (b : Image) → SameButMarks (book_image p k) b → SameButMarks (book_image p (crossed_off k f)) b
unfolding book_image lane image head le_bytes
crossed_image p k f b s = record { before = s.before; behind = s.behind }

module _ (p : Plan) (e : plan_refusal p ≡ 0) where
  one_turn : (k : Book) (c : Call) (n : Entry) (b : Image) → Turned p k c n → SameButMarks (book_image p k) b
      → SameButMarks (book_image p n.book) (cond (commits n.answer) (book_image p n.book) b)
  one_turn k c n b (commits-move i q l m) s = record { before = refl; behind = refl }
  one_turn k c n b (commits-list is q m) s = record { before = refl; behind = refl }
  one_turn k c n b (crosses_off a f d x) s = rw d (crossed_image p k f b s)
  one_turn k c n b (changes_nothing a d x) s = rw d s

  all_turns : (k : Book) → Lawful p k → (b : Image) → SameButMarks (book_image p k) b → (cs : List Call)
      → SameButMarks (left_by (book_image p k) (told p k cs)) (last_committed b (told p k cs))
  unfolding left_by last_committed told
  all_turns k h b s [] = s
  all_turns k h b s (c ∷ cs) =
      all_turns (turn p k c).book (turn_lawful p e k h c) (cond (commits (turn p k c).answer) (book_image p (turn p k c).book) b)
      (one_turn k c (turn p k c) b (turned p e k h c) s) cs

pub bytes_but_marks : (p : Plan) (b : Image) → Starts p b → (cs : List Call)
    → SameButMarks (left_by (start p b).image (called_all p (start p b).image cs)) (last_committed (start p b).image (called_all p (start p b).image cs))
bytes_but_marks p b e cs =
    rw (calls-told p b e cs, start_is p b e)
    (all_turns p (start_plan p b e) blank (blank_lawful p b e) (book_image p blank) (record { before = refl; behind = refl }) cs)
