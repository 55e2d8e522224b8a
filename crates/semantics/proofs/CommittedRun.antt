-- Demand 3, third corollary: what any calls commit from an accepted start on are single moves of the ranking and committed lists, one after the other. Every state
-- is good but inside a list, where none is bad; where every state is good, lists or not, the moves are a run of the ranked system.
use mathlib.Core.Path.{◌≡◌, refl, sym, ap, ◌∙◌}
use mathlib.Core.Logic.{◌↔◌}
use Prim.Native.Nat.{ℕ, ◌≤◌, ◌<◌}
use mathlib.Core.Bool.{Bool, true, cond}
use mathlib.Core.List.{List, [], ◌∷◌, ◌++◌}
use lib.ListN.{length}
use Rattle.semantics.specs.Bytes.{entries}
use Rattle.semantics.specs.Plan.{Plan, interactions}
use Rattle.semantics.specs.Rules.{plan_rules, plan_refusal}
use Rattle.semantics.specs.Move.{Configuration, after, good, tolerable, replay, initial}
use Rattle.semantics.specs.Load.{max_moves, list_rules, stops_at}
use Rattle.semantics.specs.Image.{Image, configuration_of, image_rules}
use Rattle.semantics.specs.Calls.{start, Call, offered, try, settle, list, call_rules, called, called_all}
use Rattle.semantics.specs.Book.{Book, blank, lane, Entry, turn, told, kept}
use Rattle.semantics.specs.Run.{is_run, exchanges, commits, Commit, single, whole, commit_of, commits_in, committed_by, one_by_one, moves_of, committed_moves, is_history, lists_sized, every_state, left_by}
use Rattle.semantics.proofs.Basics.{bool_cases, absurd_bool, and_both, both_and, each, all_of_lem, le_leb, lt-ltb, eqb-true, eqb-false}
use Rattle.semantics.proofs.RuleLists.{kept_append}
use Rattle.semantics.proofs.RefusalConditions.{calling}
use Rattle.semantics.proofs.ExactAnswers.{unrefused_exactly}
use Rattle.semantics.proofs.Oracles.{good-tolerable}
use Rattle.semantics.proofs.Ranking.{commit_good}
use Rattle.semantics.proofs.Loads.{list_sized, allowed_exactly, entry-commits, first-allowed, completes_all, completes-good, replay_append}
use Rattle.semantics.proofs.BookStep.{Lawful, turn_lawful, lane-listed, lane_moved, lane_crossed, held-lane}
use Rattle.semantics.proofs.BookTurns.{Turned, commits-move, commits-list, crosses_off, changes_nothing, turned, left_told, kept_lawful}
use Rattle.semantics.proofs.Demand3.{Starts, start_plan, start-good, start_is, blank_lawful, calls-told}

-- ---- the history that the book lists

module _ (p : Plan) (e : plan_refusal p ≡ 0) where
  one_turn : (k : Book) (c : Call) (n : Entry) (ms : List Commit) → Turned p k c n → is_history p (lane p n.book) ms ≡ true
      → is_history p (lane p k) (cond (commits n.answer) (commit_of c n.answer ∷ ms) ms) ≡ true
  unfolding is_history
  one_turn k c n ms (commits-move i q l m) r = rw q (all_of_lem _ (lt-ltb i (interactions p) l, (m, (rw (lane_moved p k i) at r, tt))))
  one_turn k c n ms (commits-list is q m) r = rw q (all_of_lem _ (m, (rw (lane-listed p k is) at r, tt)))
  one_turn k c n ms (crosses_off a f d x) r = rw d (rw (lane_crossed p k f) at r)
  one_turn k c n ms (changes_nothing a d x) r = rw d r

  history_told : (k : Book) → Lawful p k → (cs : List Call) → is_history p (lane p k) (commits_in (exchanges cs (told p k cs))) ≡ true
  unfolding is_history commits_in exchanges told
  history_told k h [] = refl
  history_told k h (c ∷ cs) =
      one_turn k c (turn p k c) (commits_in (exchanges cs (told p (turn p k c).book cs))) (turned p e k h c) (history_told (turn p k c).book (turn_lawful p e k h c) cs)

  -- and the lane that it leads to
  one_lane : (k : Book) (c : Call) (n : Entry) (ms : List Commit) → Turned p k c n
      → replay p (lane p k) (committed_moves (cond (commits n.answer) (commit_of c n.answer ∷ ms) ms)) ≡ replay p (lane p n.book) (committed_moves ms)
  unfolding committed_moves moves_of
  one_lane k c n ms (commits-move i q l m) =
      rw (q, replay_append p (lane p k) (i ∷ []) (committed_moves ms)) (ap (λ (d : Configuration). replay p d (committed_moves ms)) (sym (lane-listed p k (i ∷ []))))
  one_lane k c n ms (commits-list is q m) =
      rw (q, replay_append p (lane p k) is (committed_moves ms)) (ap (λ (d : Configuration). replay p d (committed_moves ms)) (sym (lane-listed p k is)))
  one_lane k c n ms (crosses_off a f d x) = rw d (ap (λ (d : Configuration). replay p d (committed_moves ms)) (sym (lane_crossed p k f)))
  one_lane k c n ms (changes_nothing a d x) = rw d refl

  lane-told : (k : Book) → Lawful p k → (cs : List Call) → replay p (lane p k) (committed_moves (commits_in (exchanges cs (told p k cs)))) ≡ lane p (kept p k cs)
  unfolding commits_in exchanges told kept
  lane-told k h [] = unfold committed_moves replay in refl
  lane-told k h (c ∷ cs) =
      one_lane k c (turn p k c) (commits_in (exchanges cs (told p (turn p k c).book cs))) (turned p e k h c) ∙ lane-told (turn p k c).book (turn_lawful p e k h c) cs

-- ---- the states on the way of a history

module _ (p : Plan) where
  states_append : (f : Configuration → Bool) (c : Configuration) (is js : List ℕ) → every_state f p c is ≡ true → every_state f p (replay p c is) js ≡ true
      → every_state f p c (is ++ js) ≡ true
  unfolding every_state replay
  states_append f c [] js a b = b
  states_append f c (i ∷ is) js a b = let (now, rest) = and_both (f c) (every_state f p (after p c i) is) a in both_and now (states_append f (after p c i) is js rest b)

  -- in a list that does not stop none is bad
  list-tolerable : (c : Configuration) → tolerable p c ≡ true → (is : List ℕ) → stops_at p c is ≡ length is → every_state (tolerable p) p c is ≡ true
  unfolding every_state
  list-tolerable c t [] n = t
  list-tolerable c t (i ∷ is) n =
      let (a, rest) = first-allowed p c i is n in both_and t (list-tolerable (after p c i) ((allowed_exactly p c i).0 a).not_bad is rest)

  -- none is bad
  pub history_tolerable : (c : Configuration) → good p c ≡ true → (ms : List Commit) → is_history p c ms ≡ true → every_state (tolerable p) p c (committed_moves ms) ≡ true
  unfolding is_history committed_moves moves_of every_state
  history_tolerable c g [] h = good-tolerable p c g
  history_tolerable c g (single i ∷ ms) h =
      let (_, (m, (rest, _))) = each _ h in both_and (good-tolerable p c g) (history_tolerable (after p c i) (commit_good p c i m) ms rest)
  history_tolerable c g (whole is ∷ ms) h =
      let (m, (rest, _)) = each _ h in
      states_append (tolerable p) c is (committed_moves ms) (list-tolerable c (good-tolerable p c g) is (completes_all p c is m))
      (history_tolerable (replay p c is) (completes-good p c is m) ms rest)

  -- after each commit it is good
  pub history_good : (c : Configuration) → good p c ≡ true → (ms ns : List Commit) → is_history p c (ms ++ ns) ≡ true → good p (replay p c (committed_moves ms)) ≡ true
  unfolding is_history committed_moves moves_of replay
  history_good c g [] ns h = g
  history_good c g (single i ∷ ms) ns h = let (_, (m, (rest, _))) = each _ h in history_good (after p c i) (commit_good p c i m) ms ns rest
  history_good c g (whole is ∷ ms) ns h =
      let (m, (rest, _)) = each _ h in
      ap (good p) (replay_append p c is (committed_moves ms)) ∙ history_good (replay p c is) (completes-good p c is m) ms ns rest

  -- ---- which of them are runs

  first_good : (c : Configuration) (is : List ℕ) → every_state (good p) p c is ≡ true → good p c ≡ true
  unfolding every_state
  first_good c [] g = g
  first_good c (i ∷ is) g = (and_both (good p c) (every_state (good p) p (after p c i) is) g).0

  -- a list that does not stop, and a run behind it
  list-run : (c : Configuration) (is js : List ℕ) → stops_at p c is ≡ length is → every_state (good p) p c (is ++ js) ≡ true
      → (every_state (good p) p (replay p c is) js ≡ true → is_run p (replay p c is) js ≡ true) → is_run p c (is ++ js) ≡ true
  unfolding every_state is_run replay
  list-run c [] js n g rest = rest g
  list-run c (i ∷ is) js n g rest =
      let (a, later) = first-allowed p c i is n in
      let (_, on) = and_both (good p c) (every_state (good p) p (after p c i) (is ++ js)) g in
      let w = (allowed_exactly p c i).0 a in
      all_of_lem _ (lt-ltb _ _ w.number<, (entry-commits p c i w (first_good (after p c i) (is ++ js) on), (list-run (after p c i) is js later on rest, tt)))

  -- where every state is good the moves of a history are a run
  pub history_run : (c : Configuration) (ms : List Commit) → is_history p c ms ≡ true → every_state (good p) p c (committed_moves ms) ≡ true
      → is_run p c (committed_moves ms) ≡ true
  unfolding is_history committed_moves moves_of is_run every_state
  history_run c [] h g = refl
  history_run c (single i ∷ ms) h g =
      let (l, (m, (rest, _))) = each _ h in
      let (_, on) = and_both (good p c) (every_state (good p) p (after p c i) (committed_moves ms)) g in
      all_of_lem _ (l, (m, (history_run (after p c i) ms rest on, tt)))
  history_run c (whole is ∷ ms) h g =
      let (m, (rest, _)) = each _ h in
      list-run c is (committed_moves ms) (completes_all p c is m) g (history_run (replay p c is) ms rest)

  -- every state of a run is good
  pub run-good : (c : Configuration) → good p c ≡ true → (is : List ℕ) → is_run p c is ≡ true → every_state (good p) p c is ≡ true
  unfolding is_run every_state
  run-good c g [] r = g
  run-good c g (i ∷ is) r = let (_, (m, (rest, _))) = each _ r in both_and g (run-good (after p c i) (commit_good p c i m) is rest)

  -- and every state of a history without lists
  pub single_good : (c : Configuration) → good p c ≡ true → (ms : List Commit) → is_history p c ms ≡ true → one_by_one ms ≡ true
      → every_state (good p) p c (committed_moves ms) ≡ true
  unfolding is_history committed_moves moves_of every_state one_by_one
  single_good c g [] h o = g
  single_good c g (single i ∷ ms) h o =
      let (_, (m, (rest, _))) = each _ h in both_and g (single_good (after p c i) (commit_good p c i m) ms rest o)
  single_good c g (whole is ∷ ms) h o = absurd_bool o refl

-- ---- how long the committed lists are

module _ (p : Plan) where
  -- a list that is committed
  sized : (b : Image) (l : List ℕ) → commits (called p b (list l)).answer ≡ true → (0 < length (entries l)) × (length (entries l) ≤ max_moves)
  unfolding call_rules
  sized b l e =
      let one : (called p b (list l)).answer.kind ≡ 1 = eqb-true _ _ e in
      let kept = (unrefused_exactly p (calling b (list l))).0 (λ five. absurd (eqb-false 1 5 refl (sym one ∙ five))) in
      list_sized l ((kept_append (plan_rules p ++ image_rules p b) (list_rules l)).0 kept).1

  -- one call more
  one_sized : (b : Image) (k : Call) (ms : List Commit) → lists_sized ms ≡ true
      → lists_sized (cond (commits (called p b k).answer) (commit_of k (called p b k).answer ∷ ms) ms) ≡ true
  unfolding lists_sized commit_of
  one_sized b offered ms h = bool_cases (commits (called p b offered).answer) (λ e. rw e h) (λ e. rw e h)
  one_sized b (try i) ms h = bool_cases (commits (called p b (try i)).answer) (λ e. rw e h) (λ e. rw e h)
  one_sized b settle ms h = bool_cases (commits (called p b settle).answer) (λ e. rw e h) (λ e. rw e h)
  one_sized b (list l) ms h =
      bool_cases (commits (called p b (list l)).answer)
      (λ e. let (some, few) = sized b l e in rw e (all_of_lem _ (lt-ltb _ _ some, (le_leb _ _ few, (h, tt))))) (λ e. rw e h)

  -- whatever calls are made on any image, a list that they commit has 1 to 8 entries
  pub committed_sized : (b : Image) (cs : List Call) → lists_sized (committed_by p b cs) ≡ true
  unfolding commits_in exchanges called_all
  committed_sized b [] = unfold lists_sized in refl
  committed_sized b (k ∷ ks) = one_sized b k (committed_by p (called p b k).image ks) (committed_sized (called p b k).image ks)

-- ---- from an accepted start on

module _ (p : Plan) (b : Image) (e : Starts p b) (cs : List Call) where
  -- "The committed moves .." split into single moves of the ranking and committed lists
  pub committed-run : is_history p (initial p) (committed_by p (start p b).image cs) ≡ true
  committed-run = rw (calls-told p b e cs) (unfold lane replay in (history_told p (start_plan p b e) blank (blank_lawful p b e) cs))

  -- which lead to the configuration that the image holds
  pub committed-leads : configuration_of (left_by (start p b).image (called_all p (start p b).image cs))
      ≡ replay p (initial p) (committed_moves (committed_by p (start p b).image cs))
  committed-leads =
      let k : Book = kept p blank cs in
      let ok = start_plan p b e in
      let h = blank_lawful p b e in
      rw (calls-told p b e cs, start_is p b e, left_told p blank cs)
      (held-lane p ok k (kept_lawful p ok blank h cs) ∙ sym (lane-told p ok blank h cs) ∙ (unfold lane replay in refl))

  -- "A run may pass through verdict 1 only inside a list": after each commit the state is good
  pub committed-good : (ms ns : List Commit) → committed_by p (start p b).image cs ≡ ms ++ ns → good p (replay p (initial p) (committed_moves ms)) ≡ true
  committed-good ms ns q = history_good p (initial p) (start-good p b e) ms ns (ap (is_history p (initial p)) (sym q) ∙ committed-run)

  -- and none on the way is bad
  pub committed-tolerable : every_state (tolerable p) p (initial p) (committed_moves (committed_by p (start p b).image cs)) ≡ true
  committed-tolerable = history_tolerable p (initial p) (start-good p b e) (committed_by p (start p b).image cs) committed-run

  -- the moves are a run of the ranked system exactly where every state on the way is good, lists or not
  pub committed_run_exactly : is_run p (initial p) (committed_moves (committed_by p (start p b).image cs)) ≡ true
      ↔ every_state (good p) p (initial p) (committed_moves (committed_by p (start p b).image cs)) ≡ true
  committed_run_exactly =
      let ms : List Commit = committed_by p (start p b).image cs in
      (run-good p (initial p) (start-good p b e) (committed_moves ms), history_run p (initial p) ms committed-run)

  -- so where no list was committed
  pub committed_single : one_by_one (committed_by p (start p b).image cs) ≡ true → is_run p (initial p) (committed_moves (committed_by p (start p b).image cs)) ≡ true
  committed_single o =
      let ms : List Commit = committed_by p (start p b).image cs in
      committed_run_exactly.1 (single_good p (initial p) (start-good p b e) ms committed-run o)
