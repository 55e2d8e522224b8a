-- What a turn of the book can be: it lists a move that may be committed, or a list that completes, or it crosses moves off, or it changes nothing.
use mathlib.Core.Path.{◌≡◌, refl}
use Prim.Native.Nat.{ℕ, zero, suc, ◌<◌}
use mathlib.Core.Bool.{Bool, true, false}
use mathlib.Core.List.{List, [], ◌∷◌}
use lib.ListN.{length}
use lib.Dec.{ltb, eqb}
use Rattle.semantics.specs.Bytes.{entries, some_below}
use Rattle.semantics.specs.Plan.{Plan, interactions}
use Rattle.semantics.specs.Refusal.{refusal}
use Rattle.semantics.specs.Rules.{plan_refusal}
use Rattle.semantics.specs.Move.{enabled, after, good, may_commit, safe_move}
use Rattle.semantics.specs.Calls.{Answer, committed, cancelled, stalled, penned, refused, Call, offered, try, settle, list}
use Rattle.semantics.specs.Load.{list_rules, completes}
use Rattle.semantics.specs.Book.{Book, lane, book_image, listed, crossed_off, Entry, entry, book_offered, book_refusal, book_tried, unless_wrong, book_settled, book_listed, turn, told, kept}
use Rattle.semantics.specs.Run.{commits, single, whole, commit_of, crosses, left_by}
use Rattle.semantics.proofs.Basics.{bool_cases, ltb-true}
use Rattle.semantics.proofs.Ranking.{safe-commits}
use Rattle.semantics.proofs.BookStep.{Lawful, allowed_try, allowed-commits, turn_lawful}

pub data Turned (p : Plan) (k : Book) (c : Call) : Entry → Type 0 where
  commits-move : (i : ℕ) → commit_of c (committed i) ≡ single i → i < interactions p → may_commit p (lane p k) i ≡ true → Turned p k c (entry (committed i) (listed k (i ∷ [])))
  commits-list : (is : List ℕ) → commit_of c (committed (length is)) ≡ whole is → completes p (lane p k) is ≡ true
      → Turned p k c (entry (committed (length is)) (listed k is))
  crosses_off : (a : Answer) (f : ℕ → Bool) → commits a ≡ false → ((j : ℕ) → crosses p (lane p k) j c a ≡ f j) → Turned p k c (entry a (crossed_off k f))
  changes_nothing : (a : Answer) → commits a ≡ false → ((j : ℕ) → crosses p (lane p k) j c a ≡ false) → Turned p k c (entry a k)

module _ (p : Plan) (e : plan_refusal p ≡ 0) (k : Book) (h : Lawful p k) where
  turned_try : (i n : ℕ) → book_refusal p k i ≡ n → Turned p k (try i) (unless_wrong n k (book_tried p k i))
  unfolding unless_wrong book_tried crosses commit_of
  turned_try i zero r =
      let a = allowed_try p e k h i r in
      bool_cases (good p (after p (lane p k) i)) (λ t. rw t (commits-move i refl a.number< (allowed-commits p e k h i a t)))
      (λ t. rw t (crosses_off (cancelled i) (λ j. eqb j i) refl (λ j. refl)))
  turned_try i (suc n) r = changes_nothing (refused (suc n)) refl (λ j. refl)

  turned_settle : Turned p k settle (book_settled p k)
  unfolding book_settled crosses commit_of
  turned_settle =
      bool_cases (ltb (safe_move p (lane p k)) (interactions p))
      (λ t. let l = ltb-true _ _ t in rw t (commits-move (safe_move p (lane p k)) refl l (safe-commits p (lane p k) l)))
      (λ t. bool_cases (some_below (interactions p) (enabled p (lane p k).state))
      (λ u. rw (t, u) (crosses_off penned (enabled p (lane p k).state) refl (λ j. refl)))
      (λ u. rw (t, u) (changes_nothing stalled refl (λ j. refl))))

  turned_list : (l : List ℕ) (n : ℕ) → Turned p k (list l) (unless_wrong n k (book_listed p k (entries l)))
  unfolding unless_wrong book_listed crosses commit_of
  turned_list l zero =
      bool_cases (completes p (lane p k) (entries l)) (λ t. rw t (commits-list (entries l) refl t)) (λ t. rw t (changes_nothing _ refl (λ j. refl)))
  turned_list l (suc n) = changes_nothing (refused (suc n)) refl (λ j. refl)

  pub turned : (c : Call) → Turned p k c (turn p k c)
  unfolding turn book_offered crosses
  turned offered = changes_nothing (book_offered p k).answer refl (λ j. refl)
  turned (try i) = turned_try i (book_refusal p k i) refl
  turned settle = turned_settle
  turned (list l) = turned_list l (refusal (list_rules l))

-- the image that the calls leave is the image of the book that they leave
pub left_told : (p : Plan) (k : Book) (cs : List Call) → left_by (book_image p k) (told p k cs) ≡ book_image p (kept p k cs)
unfolding left_by told kept
left_told p k [] = refl
left_told p k (c ∷ cs) = left_told p (turn p k c).book cs

pub kept_lawful : (p : Plan) → plan_refusal p ≡ 0 → (k : Book) → Lawful p k → (cs : List Call) → Lawful p (kept p k cs)
unfolding kept
kept_lawful p e k h [] = h
kept_lawful p e k h (c ∷ cs) = kept_lawful p e (turn p k c).book (turn_lawful p e k h c) cs
