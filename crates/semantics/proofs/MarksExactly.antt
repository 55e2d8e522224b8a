-- Demand 3, second corollary: after any calls from an accepted start on, the marks are exactly the moves crossed off since the last start or
-- commit, of a move or a list, and none of them ends good.
use mathlib.Core.Path.{◌≡◌, refl, sym, ap, ◌∙◌}
use Prim.Native.Nat.{ℕ}
use mathlib.Core.Bool.{Bool, true, false, not, cond, ◌||◌, or-false, or_assoc}
use mathlib.Core.List.{List, [], ◌∷◌}
use Rattle.semantics.specs.Bytes.{bit, mask}
use Rattle.semantics.specs.Plan.{Plan, interactions}
use Rattle.semantics.specs.Rules.{plan_refusal}
use Rattle.semantics.specs.Move.{Configuration}
use Rattle.semantics.specs.Image.{Image, marks_of, configuration_of}
use Rattle.semantics.specs.Calls.{start, Call, called_all}
use Rattle.semantics.specs.Book.{Book, blank, lane, book_image, Entry, turn, told, kept}
use Rattle.semantics.specs.Run.{Exchange, exchanges, commits, no_commit, since_commit, left_by, crosses, some_crosses}
use Rattle.semantics.proofs.Basics.{bool_cases, absurd_bool, not_yes, and_both}
use Rattle.semantics.proofs.Masks.{mask_same}
use Rattle.semantics.proofs.BookStep.{Lawful, turn_lawful, held-lane, held_marks, mark_lawful}
use Rattle.semantics.proofs.BookTurns.{Turned, commits-move, commits-list, crosses_off, changes_nothing, turned, left_told, kept_lawful}
use Rattle.semantics.proofs.LawfulImage.{MarkKept}
use Rattle.semantics.proofs.Demand3.{Starts, start_plan, start_is, blank_lawful, calls-told}

-- where nothing was committed, all outcomes are since the last commit
since_all : (xs : List Exchange) → no_commit xs ≡ true → since_commit xs ≡ xs
unfolding no_commit since_commit
since_all [] e = refl
since_all (x ∷ xs) e =
    let (first, rest) = and_both (not (commits x.outcome.answer)) (no_commit xs) e in rw (rest, not_yes (commits x.outcome.answer) first)

module _ (p : Plan) (e : plan_refusal p ≡ 0) where
  -- what the book says of calls, with them
  abbrev said : Book → List Call → List Exchange
  said k cs = exchanges cs (told p k cs)

  lane-stays : (k : Book) (c : Call) (n : Entry) → Turned p k c n → commits n.answer ≡ false → lane p n.book ≡ lane p k
  unfolding lane
  lane-stays k c n (commits-move i q l m) w = absurd_bool refl w
  lane-stays k c n (commits-list is q m) w = absurd_bool refl w
  lane-stays k c n (crosses_off a f d x) w = refl
  lane-stays k c n (changes_nothing a d x) w = refl

  -- without a commit the lane stays
  lane-kept : (k : Book) → Lawful p k → (cs : List Call) → no_commit (said k cs) ≡ true → lane p (kept p k cs) ≡ lane p k
  unfolding told kept no_commit exchanges
  lane-kept k h [] n = refl
  lane-kept k h (c ∷ cs) n =
      let q = and_both (not (commits (turn p k c).answer)) (no_commit (said (turn p k c).book cs)) n in
      lane-kept (turn p k c).book (turn_lawful p e k h c) cs q.1
      ∙ lane-stays k c (turn p k c) (turned p e k h c) (not_yes (commits (turn p k c).answer) q.0)

  set-stays : (k : Book) (c : Call) (n : Entry) → Turned p k c n → commits n.answer ≡ false
      → (j : ℕ) → n.book.crossed j ≡ (k.crossed j || crosses p (lane p k) j c n.answer)
  set-stays k c n (commits-move i q l m) w j = absurd_bool refl w
  set-stays k c n (commits-list is q m) w j = absurd_bool refl w
  set-stays k c n (crosses_off a f d x) w j = rw (x j)
  set-stays k c n (changes_nothing a d x) w j = rw (x j) (sym (or-false (k.crossed j)))

  set_emptied : (k : Book) (c : Call) (n : Entry) → Turned p k c n → commits n.answer ≡ true → (j : ℕ) → n.book.crossed j ≡ false
  set_emptied k c n (commits-move i q l m) w j = refl
  set_emptied k c n (commits-list is q m) w j = refl
  set_emptied k c n (crosses_off a f d x) w j = absurd_bool w d
  set_emptied k c n (changes_nothing a d x) w j = absurd_bool w d

  -- the set: what was crossed off before, if nothing was committed, and what has been since
  set-kept : (k : Book) → Lawful p k → (cs : List Call) (j : ℕ)
      → (kept p k cs).crossed j ≡ (cond (no_commit (said k cs)) (k.crossed j) false || some_crosses p (lane p (kept p k cs)) j (since_commit (said k cs)))
  unfolding kept told no_commit since_commit some_crosses exchanges
  set-kept k h [] j = sym (or-false (k.crossed j))
  set-kept k h (c ∷ cs) j =
      let n : Entry = turn p k c in
      let t : Turned p k c n = turned p e k h c in
      let xs : List Exchange = said n.book cs in
      let ih = set-kept n.book (turn_lawful p e k h c) cs j in
      bool_cases (no_commit xs)
      (λ q. bool_cases (commits n.answer)
      (λ w. rw (q, w) (rw (q, set_emptied k c n t w j, since_all xs q) at ih))
      (λ w. rw (q, w)
      ((rw (q, set-stays k c n t w j, since_all xs q) at ih)
      ∙ or_assoc (k.crossed j) (crosses p (lane p k) j c n.answer) (some_crosses p (lane p (kept p n.book cs)) j xs)
      ∙ ap (λ (l : Configuration). k.crossed j || (crosses p l j c n.answer || some_crosses p (lane p (kept p n.book cs)) j xs))
      (sym (lane-kept n.book (turn_lawful p e k h c) cs q ∙ lane-stays k c n t w)))))
      (λ q. bool_cases (commits n.answer) (λ w. rw (q, w) (rw q at ih)) (λ w. rw (q, w) (rw q at ih)))

-- what the second corollary says of the image b that the exchanges xs, begun after a start, left
pub record Marked (p : Plan) (b : Image) (xs : List Exchange) : Type 0 where
  -- bit i of the marks is set exactly where some call since the last start or commit crossed off move i
  pub exactly : marks_of b ≡ mask (interactions p) (λ i. some_crosses p (configuration_of b) i (since_commit xs))
  -- a marked move is one of the plan's, enabled, and ends bad, and each enabled one above it is marked too
  pub none-good : (i : ℕ) → bit (marks_of b) i ≡ true → MarkKept p (configuration_of b) (bit (marks_of b)) i

marked-told : (p : Plan) (e : plan_refusal p ≡ 0) (cs : List Call) → Lawful p blank → Marked p (book_image p (kept p blank cs)) (exchanges cs (told p blank cs))
marked-told p e cs h =
    let k : Book = kept p blank cs in
    let l : Lawful p k = kept_lawful p e blank h cs in
    let xs : List Exchange = exchanges cs (told p blank cs) in
    record {
      exactly =
          rw (held-lane p e k l)
          (held_marks p e k l
          ∙ mask_same (interactions p) (λ i. some_crosses p (lane p k) i (since_commit xs)) k.crossed
          (λ i m. set-kept p e blank h cs i ∙ ap (λ (b : Bool). b || some_crosses p (lane p k) i (since_commit xs)) (no_set (no_commit xs))));
      none-good = λ i m. rw (held-lane p e k l, held_marks p e k l) (mark_lawful p e k l i (sym (ap (λ (n : ℕ). bit n i) (held_marks p e k l)) ∙ m));
    }
  where
    no_set : (b : Bool) → cond b false false ≡ false
    no_set true = refl
    no_set false = refl

pub marks_exactly : (p : Plan) (b : Image) → Starts p b → (cs : List Call)
    → Marked p (left_by (start p b).image (called_all p (start p b).image cs)) (exchanges cs (called_all p (start p b).image cs))
marks_exactly p b e cs =
    rw (calls-told p b e cs, start_is p b e, left_told p blank cs) (marked-told p (start_plan p b e) cs (blank_lawful p b e))
