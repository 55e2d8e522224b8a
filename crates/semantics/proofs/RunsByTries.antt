-- Demand 3, fourth corollary: for every run of the ranked system a list of tries commits exactly it. Before each move the enabled ones above it are tried, from
-- the top; they are cancelled, and no longer outrank.
use mathlib.Core.Path.{◌≡◌, refl, ap, ◌∙◌}
use mathlib.Core.Logic.{inr}
use Prim.Native.Nat.{ℕ, ◌<◌}
use mathlib.Core.Bool.{true, false, not, cond, ◌&&◌}
use mathlib.Core.List.{List, [], ◌∷◌, ◌++◌, map, append_assoc, append-nil, map-append}
use lib.Dec.{eqb}
use Rattle.semantics.specs.Plan.{Plan, interactions, below}
use Rattle.semantics.specs.Rules.{plan_refusal}
use Rattle.semantics.specs.Move.{enabled, eligible, after, good, may_commit, initial, replay}
use Rattle.semantics.specs.Image.{Image, image}
use Rattle.semantics.specs.Calls.{Answer, committed, cancelled, Outcome, start, Call, try, called_all}
use Rattle.semantics.specs.Book.{Book, blank, lane, book_image, listed, crossed_off, Entry, entry, book_refusal, book_tried, unless_wrong, turn, told, kept}
use Rattle.semantics.specs.Run.{is_run, from_top, tries_of, tried_answers, exchanges, commits, commit_of, commits_in, moves_of, committed_moves, left_by}
use Rattle.semantics.proofs.Basics.{bool_cases, both_and, each, ltb-true, lt-ltb}
use Rattle.semantics.proofs.Ranking.{unoutranked, eligible-from, eligible-enabled, eligible-top, commit_enabled, commit_good, commit_above}
use Rattle.semantics.proofs.RankOrder.{Order, rank_order}
use Rattle.semantics.proofs.Clearing.{with_marked, Clears, cleared, clears, Closed, clears_from_top, marked_from_top}
use Rattle.semantics.proofs.Masks.{mask-none}
use Rattle.semantics.proofs.Refusing.{all_kept}
use Rattle.semantics.proofs.BookStep.{lane_moved}
use Rattle.semantics.proofs.BookTurns.{left_told}
use Rattle.semantics.proofs.Demand3.{Starts, start_plan, start_is, calls-told}

-- the answers of the outcomes
abbrev pub answers : List Outcome → List Answer
answers os = map (λ (o : Outcome). o.answer) os

-- a book with moves done and none crossed off
abbrev clear : List ℕ → Book
clear is = record { done = is; crossed = λ i. false }

-- ---- one try

module _ (p : Plan) (k : Book) (i : ℕ) (l : i < interactions p) (q : eligible p (lane p k).state k.crossed i ≡ true) (u : k.crossed i ≡ false) where
  not-wrong : book_refusal p k i ≡ 0
  unfolding book_refusal
  not-wrong =
      let s = (lane p k).state in
      all_kept _ (lt-ltb _ _ l, (eligible-enabled p s k.crossed i q, (ap not (eligible-top p s k.crossed i q), (ap not u, tt))))

  -- a good move is listed
  try_listed : good p (after p (lane p k) i) ≡ true → turn p k (try i) ≡ entry (committed i) (listed k (i ∷ []))
  unfolding turn unless_wrong book_tried
  try_listed g = rw (not-wrong, g) refl

  -- any other is crossed off
  try_crossed : good p (after p (lane p k) i) ≡ false → turn p k (try i) ≡ entry (cancelled i) (crossed_off k (λ j. eqb j i))
  unfolding turn unless_wrong book_tried
  try_crossed g = rw (not-wrong, g) refl

-- ---- tries one after the other

-- what a list of calls answers and commits, and the book after it
record Told (p : Plan) (k : Book) (cs : List Call) (rs : List Answer) (is : List ℕ) (k' : Book) : Type 0 where
  answered : answers (told p k cs) ≡ rs
  moves : committed_moves (commits_in (exchanges cs (told p k cs))) ≡ is
  left : kept p k cs ≡ k'

nothing-told : (p : Plan) (k : Book) → Told p k [] [] [] k
unfolding told kept exchanges commits_in committed_moves
nothing-told p k = record { answered = refl; moves = refl; left = refl }

-- one try, and the calls after it
call_told : (p : Plan) (k : Book) (i : ℕ) (a : Answer) (k₁ : Book) {cs : List Call} {rs : List Answer} {is : List ℕ} {k' : Book}
    → turn p k (try i) ≡ entry a k₁ → Told p k₁ cs rs is k' → Told p k (try i ∷ cs) (a ∷ rs) (cond (commits a) (a.number ∷ is) is) k'
unfolding told kept exchanges commits_in commit_of committed_moves moves_of
call_told p k i a k₁ {cs} {is = is} e t =
    record {
      answered = rw e (ap (a ∷◌) t.answered);
      moves = rw e (bool_cases (commits a) (λ w. rw w (ap (a.number ∷◌) t.moves)) (λ w. rw w t.moves));
      left = ap (λ (n : Entry). kept p n.book cs) e ∙ t.left;
    }

-- moves tried from the top are crossed off, and nothing is committed
clears_told : (p : Plan) (k : Book) (js : List ℕ) {cs : List Call} {rs : List Answer} {is : List ℕ} {k' : Book} → Clears p (lane p k) k.crossed js
    → Told p (record { done = k.done; crossed = with_marked k.crossed js }) cs rs is k' → Told p k (map try js ++ cs) (map cancelled js ++ rs) is k'
unfolding with_marked lane
clears_told p k [] cleared t = t
clears_told p k (j ∷ js) (clears a r) t =
    call_told p k j (cancelled j) (crossed_off k (λ i. eqb i j)) (try_crossed p k j a.number< a.is_eligible a.unmarked a.ends_bad)
    (clears_told p (crossed_off k (λ i. eqb i j)) js r t)

-- ---- the tries of a run

module _ (p : Plan) (e : plan_refusal p ≡ 0) where
  order : Order p
  order = rank_order p e

  -- what is enabled above a move that may be committed can be tried from the top
  closed : (is : List ℕ) (i : ℕ) → i < interactions p → may_commit p (lane p (clear is)) i ≡ true → Closed p (lane p (clear is)) (λ j. false) (below p i)
  closed is i l m =
      record {
        bad = λ j h b on. commit_above p (lane p (clear is)) i m j h b on;
        unmarked = λ j h b on. refl;
        upwards = λ j k h n b on up e. inr (order.transitive i j k l h n b up);
      }

  tries_told : (is js : List ℕ) → is_run p (lane p (clear is)) js ≡ true
      → Told p (clear is) (map try (tries_of p (lane p (clear is)) js)) (tried_answers p (lane p (clear is)) js) js (clear (is ++ js))
  unfolding is_run tries_of tried_answers lane
  tries_told is [] r = rw (append-nil is) (nothing-told p (clear is))
  tries_told is (i ∷ js) r =
      let (number, (m, (rest, _))) = each _ r in
      let l : i < interactions p = ltb-true _ _ number in
      let c = lane p (clear is) in
      let tops : List ℕ = from_top p c.state (below p i) in
      let k : Book = record { done = is; crossed = with_marked (λ j. false) tops } in
      let held = closed is i l m in
      let ih = tries_told (is ++ (i ∷ [])) js (rw (← lane_moved p (clear is) i) at rest) in
      let free = crossed_all is i l m in
      let one = try_listed p k i l free.0 free.1 (commit_good p c i m) in
      rw (map-append try tops (i ∷ tries_of p (after p c i) js))
      (clears_told p (clear is) tops (clears_from_top p order c (λ j. false) (below p i) held)
      (call_told p k i (committed i) (clear (is ++ (i ∷ []))) one (rw (lane_moved p (clear is) i, append_assoc is (i ∷ []) js) at ih)))
    where
      crossed_all : (is : List ℕ) (i : ℕ) → i < interactions p → may_commit p (lane p (clear is)) i ≡ true
          → (eligible p (lane p (clear is)).state (with_marked (λ j. false) (from_top p (lane p (clear is)).state (below p i))) i ≡ true)
          × (with_marked (λ j. false) (from_top p (lane p (clear is)).state (below p i)) i ≡ false)
      crossed_all is i l m =
          let c = lane p (clear is) in
          let marks : (j : ℕ) → j < interactions p → with_marked (λ j. false) (from_top p c.state (below p i)) j ≡ (below p i j && enabled p c.state j)
          = marked_from_top p order c (λ j. false) (below p i) (closed is i l m) in (
            eligible-from p c.state _ i (commit_enabled p c i m) (unoutranked p c.state _ i (λ j h b on. marks j h ∙ both_and b on)),
            marks i l ∙ rw (order.irreflexive i l) refl,
          )

-- what the fourth corollary says of the calls cs, the tries of a run, and their outcomes os, begun on the image b of a start
pub record Committed (p : Plan) (is : List ℕ) (b : Image) (cs : List Call) (os : List Outcome) : Type 0 where
  -- each move of the run is committed, each one above it before cancelled; none is refused
  pub answered : answers os ≡ tried_answers p (initial p) is
  -- the moves done are the run
  pub moves : committed_moves (commits_in (exchanges cs os)) ≡ is
  -- and the image left is the one after the run, with no marks
  pub left : left_by b os ≡ image p (replay p (initial p) is) 0

-- the tries of a run
abbrev pub run_tries : Plan → List ℕ → List Call
run_tries p is = map try (tries_of p (initial p) is)

pub runs_by_tries : (p : Plan) (b : Image) → Starts p b → (is : List ℕ) → is_run p (initial p) is ≡ true
    → Committed p is (start p b).image (run_tries p is) (called_all p (start p b).image (run_tries p is))
unfolding lane replay book_image
runs_by_tries p b e is r =
    let cs : List Call = run_tries p is in
    let t = tries_told p (start_plan p b e) [] is r in
    rw (calls-told p b e cs, start_is p b e)
    (record {
      answered = t.answered;
      moves = t.moves;
      left = left_told p blank cs ∙ ap (book_image p) t.left ∙ ap (image p (replay p (initial p) is)) (mask-none (interactions p));
    })
