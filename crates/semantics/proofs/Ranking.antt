-- Laws of the ranking: outranked and eligible, by the marks; moves that lead to a verdict or a better one, safe and dominated among them, those that may be committed. Elsewhere these laws are cited, and the
-- definitions are not opened.
use mathlib.Core.Path.{◌≡◌, sym, ap, ◌∙◌}
use mathlib.Core.Logic.{◌↔◌}
use Prim.Native.Nat.{ℕ, ◌≤◌, ◌<◌}
use mathlib.Core.Bool.{Bool, true, false, not, ◌&&◌}
use mathlib.Core.List.{[], ◌∷◌}
use lib.Dec.{ltb}
use Rattle.semantics.specs.Bytes.{all_of, some_below, lowest, bit}
use Rattle.semantics.specs.Plan.{Plan, interactions, below}
use Rattle.semantics.specs.Code.{State}
use Rattle.semantics.specs.Move.{Configuration, enabled, outranked, eligible, after, reaches, good, leads, leads_above, safe, dominated, may_commit, safe_move}
use Rattle.semantics.proofs.Basics.{same_test, bool_cases, absurd_bool, not_yes, and_both, both_and, some_found, some_has, each, all_of_lem, lowest_is, lowest_unique, lowest-none}

-- ---- outranked, by the marks

module _ (p : Plan) (s : State) (marked : ℕ → Bool) (i : ℕ) where
  -- "Outranked now means that an enabled, unmarked interaction lies above", and at no other time
  pub outranked_exactly : outranked p s marked i ≡ true ↔ ((j : ℕ) × (j < interactions p) × (below p i j ≡ true) × (enabled p s j ≡ true) × (marked j ≡ false))
  unfolding outranked
  outranked_exactly = (
    (λ e.
        let (j, l, t) = some_found (interactions p) (λ j. all_of (below p i j ∷ enabled p s j ∷ not (marked j) ∷ [])) e in
        let (b, (on, (u, _))) = each _ t in
        (j, l, b, on, not_yes (marked j) u)),
    (λ (j, l, b, on, u). some_has (interactions p) (λ k. all_of (below p i k ∷ enabled p s k ∷ not (marked k) ∷ [])) j l (all_of_lem _ (b, (on, (ap not u, tt))))),
  )

  -- so where it is not outranked each enabled one above it is marked
  pub above_marked : outranked p s marked i ≡ false → (j : ℕ) → j < interactions p → below p i j ≡ true → enabled p s j ≡ true → marked j ≡ true
  above_marked o j l b on = bool_cases (marked j) (λ m. m) (λ m. absurd_bool (outranked_exactly.1 (j, l, b, on, m)) o)

  -- and where each is, it is not
  pub unoutranked : ((j : ℕ) → j < interactions p → below p i j ≡ true → enabled p s j ≡ true → marked j ≡ true) → outranked p s marked i ≡ false
  unoutranked f =
      bool_cases (outranked p s marked i) (λ o. let (j, l, b, on, u) = outranked_exactly.0 o in absurd_bool (f j l b on) u) (λ o. o)

  -- eligible: enabled and not outranked
  pub eligible-enabled : eligible p s marked i ≡ true → enabled p s i ≡ true
  unfolding eligible
  eligible-enabled e = let (on, _) = each _ e in on

  pub eligible-top : eligible p s marked i ≡ true → outranked p s marked i ≡ false
  unfolding eligible
  eligible-top e = let (_, (top, _)) = each _ e in not_yes (outranked p s marked i) top

  pub eligible-from : enabled p s i ≡ true → outranked p s marked i ≡ false → eligible p s marked i ≡ true
  unfolding eligible
  eligible-from e o = all_of_lem _ (e, (ap not o, tt))

  -- by a mask that holds the enabled, unmarked interactions
  pub outranked_in : (m : ℕ) → ((j : ℕ) → j < interactions p → bit m j ≡ (enabled p s j && not (marked j)))
      → some_below (interactions p) (λ j. below p i j && bit m j) ≡ outranked p s marked i
  outranked_in m e =
      same_test (some_below (interactions p) (λ j. below p i j && bit m j)) (outranked p s marked i)
      (λ q.
      let (j, l, r) = some_found (interactions p) (λ j. below p i j && bit m j) q in
      let (above, held) = and_both (below p i j) (bit m j) r in
      let (on, u) = and_both (enabled p s j) (not (marked j)) (sym (e j l) ∙ held) in
      outranked_exactly.1 (j, l, above, on, not_yes (marked j) u))
      (λ q.
      let (j, l, above, on, u) = outranked_exactly.0 q in
      some_has (interactions p) (λ j. below p i j && bit m j) j l (both_and above (e j l ∙ both_and on (ap not u))))

-- more marks outrank no more
pub eligible_more : (p : Plan) (s : State) (f g : ℕ → Bool) (i : ℕ) → ((j : ℕ) → j < interactions p → f j ≡ true → g j ≡ true)
    → eligible p s f i ≡ true → eligible p s g i ≡ true
eligible_more p s f g i h e =
    eligible-from p s g i (eligible-enabled p s f i e) (unoutranked p s g i (λ j l b on. h j l (above_marked p s f i (eligible-top p s f i e) j l b on)))

-- the same marks outrank the same
module _ (p : Plan) (s : State) (f g : ℕ → Bool) (h : (j : ℕ) → j < interactions p → f j ≡ g j) (i : ℕ) where
  pub outranked_same : outranked p s f i ≡ outranked p s g i
  outranked_same =
      same_test _ _ (λ o. let (j, l, b, on, u) = (outranked_exactly p s f i).0 o in (outranked_exactly p s g i).1 (j, l, b, on, sym (h j l) ∙ u))
      (λ o. let (j, l, b, on, u) = (outranked_exactly p s g i).0 o in (outranked_exactly p s f i).1 (j, l, b, on, h j l ∙ u))

  pub eligible_same : eligible p s f i ≡ eligible p s g i
  unfolding eligible
  eligible_same = ap (λ (o : Bool). all_of (enabled p s i ∷ not o ∷ [])) outranked_same

-- ---- moves that lead to a verdict of v or more

module _ (p : Plan) (v : ℕ) (c : Configuration) where
  pub leads-enabled : (i : ℕ) → leads p v c i ≡ true → enabled p c.state i ≡ true
  unfolding leads
  leads-enabled i e = let (on, _) = each _ e in on

  pub leads_reaches : (i : ℕ) → leads p v c i ≡ true → reaches p v (after p c i).oracles ≡ true
  unfolding leads
  leads_reaches i e = let (_, (r, _)) = each _ e in r

  pub leads-from : (i : ℕ) → enabled p c.state i ≡ true → reaches p v (after p c i).oracles ≡ true → leads p v c i ≡ true
  unfolding leads
  leads-from i on r = all_of_lem _ (on, (r, tt))

  -- one lies above exactly where an enabled one above reaches v
  pub leads_above_exactly : (i : ℕ)
      → leads_above p v c i ≡ true
      ↔ ((j : ℕ) × (j < interactions p) × (below p i j ≡ true) × (enabled p c.state j ≡ true) × (reaches p v (after p c j).oracles ≡ true))
  unfolding leads_above
  leads_above_exactly i = (
    (λ e.
        let (j, l, t) = some_found (interactions p) (λ j. below p i j && leads p v c j) e in
        let (b, m) = and_both (below p i j) (leads p v c j) t in
        (j, l, b, leads-enabled j m, leads_reaches j m)),
    (λ (j, l, b, on, r). some_has (interactions p) (λ k. below p i k && leads p v c k) j l (both_and b (leads-from j on r))),
  )

-- ---- what the monitor lets be done, and its ranking

module _ (p : Plan) (c : Configuration) (i : ℕ) where
  pub safe-enabled : safe p c i ≡ true → enabled p c.state i ≡ true
  unfolding safe
  safe-enabled = leads-enabled p 2 c i

  pub safe-good : safe p c i ≡ true → good p (after p c i) ≡ true
  unfolding safe good
  safe-good = leads_reaches p 2 c i

  pub safe-from : enabled p c.state i ≡ true → good p (after p c i) ≡ true → safe p c i ≡ true
  unfolding safe good
  safe-from = leads-from p 2 c i

  -- an enabled move that is not safe ends bad
  pub unsafe_bad : enabled p c.state i ≡ true → safe p c i ≡ false → good p (after p c i) ≡ false
  unsafe_bad e u = bool_cases (good p (after p c i)) (λ g. absurd_bool (safe-from e g) u) (λ g. g)

  -- "an enabled good move above is what outranks", and nothing else
  pub dominated_exactly : dominated p c i ≡ true ↔ ((j : ℕ) × (j < interactions p) × (below p i j ≡ true) × (enabled p c.state j ≡ true) × (good p (after p c j) ≡ true))
  unfolding dominated good
  dominated_exactly = leads_above_exactly p 2 c i

module _ (p : Plan) (c : Configuration) (i : ℕ) where
  commit_safe : may_commit p c i ≡ true → safe p c i ≡ true
  unfolding may_commit
  commit_safe e = let (m, _) = each _ e in m

  pub commit_enabled : may_commit p c i ≡ true → enabled p c.state i ≡ true
  commit_enabled e = safe-enabled p c i (commit_safe e)

  pub commit_good : may_commit p c i ≡ true → good p (after p c i) ≡ true
  commit_good e = safe-good p c i (commit_safe e)

  -- each enabled move above one that may be committed ends bad
  pub commit_above : may_commit p c i ≡ true → (j : ℕ) → j < interactions p → below p i j ≡ true → enabled p c.state j ≡ true → good p (after p c j) ≡ false
  unfolding may_commit
  commit_above e j l b on =
      let (_, (top, _)) = each _ e in
      bool_cases (good p (after p c j)) (λ g. absurd_bool ((dominated_exactly p c i).1 (j, l, b, on, g)) (not_yes (dominated p c i) top)) (λ g. g)

  pub commit_from : enabled p c.state i ≡ true → good p (after p c i) ≡ true
      → ((j : ℕ) → j < interactions p → below p i j ≡ true → enabled p c.state j ≡ true → good p (after p c j) ≡ false) → may_commit p c i ≡ true
  unfolding may_commit
  commit_from on g above = all_of_lem _ (safe-from p c i on g, (ap not top, tt))
    where
      top : dominated p c i ≡ false
      top = bool_cases (dominated p c i) (λ d. let (j, l, b, e, h) = (dominated_exactly p c i).0 d in absurd_bool h (above j l b e)) (λ d. d)

  -- a move that ends bad may not be committed
  pub bad_uncommitted : good p (after p c i) ≡ false → may_commit p c i ≡ false
  bad_uncommitted g = bool_cases (may_commit p c i) (λ m. absurd_bool (commit_good m) g) (λ m. m)

  -- nor one with a safe move above it
  pub dominated_uncommitted : (j : ℕ) → j < interactions p → below p i j ≡ true → may_commit p c j ≡ true → may_commit p c i ≡ false
  dominated_uncommitted j l b m =
      bool_cases (may_commit p c i)
      (λ d. absurd_bool (safe-good p c j (above_safe m)) (commit_above d j l b (safe-enabled p c j (above_safe m)))) (λ d. d)
    where
      above_safe : may_commit p c j ≡ true → safe p c j ≡ true
      above_safe m = unfold may_commit in (each _ m).0

  -- a good move that marks alone lie above, all of them bad, may be committed
  pub commit_eligible : (marked : ℕ → Bool) → ((j : ℕ) → j < interactions p → marked j ≡ true → good p (after p c j) ≡ false)
      → eligible p c.state marked i ≡ true → good p (after p c i) ≡ true → may_commit p c i ≡ true
  commit_eligible marked bad e g =
      commit_from (eligible-enabled p c.state marked i e) g
      (λ j l b on. bad j l (above_marked p c.state marked i (eligible-top p c.state marked i e) j l b on))

-- ---- the safe move

module _ (p : Plan) (c : Configuration) where
  -- the safe move may be committed; where there is none, no move may be
  pub safe-commits : safe_move p c < interactions p → may_commit p c (safe_move p c) ≡ true
  unfolding safe_move
  safe-commits l = (lowest_is (interactions p) (may_commit p c)).hit l

  -- "the lowest-numbered" such move: none below it may be
  pub safe-lowest : (i : ℕ) → i < safe_move p c → may_commit p c i ≡ false
  unfolding safe_move
  safe-lowest i l = (lowest_is (interactions p) (may_commit p c)).missed i l

  pub safe-none : ltb (safe_move p c) (interactions p) ≡ false → (i : ℕ) → i < interactions p → may_commit p c i ≡ false
  unfolding safe_move
  safe-none e i l = lowest-none (interactions p) (may_commit p c) e i l

  -- a number that may be committed where it is a move, and none below it may, is the safe move
  pub safe_unique : (k : ℕ) → k ≤ interactions p → (k < interactions p → may_commit p c k ≡ true) → ((j : ℕ) → j < k → may_commit p c j ≡ false) → k ≡ safe_move p c
  unfolding safe_move
  safe_unique k m hit missed =
      lowest_unique (interactions p) (may_commit p c) k (lowest (interactions p) (may_commit p c)) (record { at_most = m; hit = hit; missed = missed })
      (lowest_is (interactions p) (may_commit p c))
