-- Laws of a list of moves (02, job 6): when an entry is allowed, where a list stops, and what one that completes is made of. Elsewhere these laws are cited, and the
-- definitions are not opened.
use mathlib.Core.Path.{◌≡◌, refl, sym, ap, ◌∙◌}
use mathlib.Core.Logic.{◌↔◌}
use Prim.Native.Nat.{ℕ, suc, ◌%◌, ◌≤◌, ◌<◌, zero-le, suc-le-suc}
use native.Mathlib.Omega.{arith}
use mathlib.Core.Bool.{true, false, not}
use mathlib.Core.List.{List, [], ◌∷◌, ◌++◌}
use lib.ListN.{length}
use Rattle.semantics.specs.Bytes.{entries}
use Rattle.semantics.specs.Plan.{Plan, interactions, below}
use Rattle.semantics.specs.Move.{Configuration, enabled, after, good, tolerable, may_commit, replay}
use Rattle.semantics.specs.Rules.{plan_rules}
use Rattle.semantics.specs.Image.{Image, length_rule, image_rules}
use Rattle.semantics.specs.Calls.{list, call_rules}
use Rattle.semantics.specs.Load.{max_moves, list_rules, passable, blocked, entry_allowed, stops_at, completes}
use Rattle.semantics.proofs.Basics.{bool_cases, absurd_bool, not_yes, each, all_of_lem, leb-true, ltb-true, lt-ltb, eqb-true, eq-eqb}
use Rattle.semantics.proofs.RuleLists.{Kept, numbers}
use Rattle.semantics.proofs.LogEntries.{entries_long}
use Rattle.semantics.proofs.AcceptedPlan.{Accepted}
use Rattle.semantics.proofs.Oracles.{verdict_of, good-tolerable, tolerable_one, one_tolerable}
use Rattle.semantics.proofs.Sound.{Sound, sound_after}
use Rattle.semantics.proofs.Ranking.{leads-enabled, leads_reaches, leads-from, leads_above_exactly, commit_enabled, commit_good, commit_above, commit_from}

-- ---- its number

-- "22 ..; it is tested after 14."
pub tested_after_14 : (p : Plan) (b : Image) (l : List ℕ)
    → numbers (call_rules p b (list l)) ≡ 1 ∷ 2 ∷ 3 ∷ 4 ∷ 5 ∷ 6 ∷ 7 ∷ 8 ∷ 9 ∷ 20 ∷ 10 ∷ 11 ∷ 12 ∷ 13 ∷ 14 ∷ 22 ∷ []
unfolding call_rules plan_rules image_rules length_rule list_rules
tested_after_14 p b l = refl

-- past it a list has 1 to 8 entries
pub list_sized : (l : List ℕ) → Kept (list_rules l) → (0 < length (entries l)) × (length (entries l) ≤ max_moves)
unfolding list_rules
list_sized l (t, _) =
    let (some, (even, (few, _))) = each _ t in
    let half = entries_long l in
    let s = ltb-true 0 (length l) some in
    let v = eqb-true (length l % 2) 0 even in
    (omega (arith, half, s, v), leb-true _ max_moves few)

-- ---- one entry

-- "An entry is allowed when it is enabled, its verdict is not 0, and no enabled interaction above it leads to a verdict other than 0."
pub record EntryAllowed (p : Plan) (c : Configuration) (i : ℕ) : Type 0 where
  pub number< : i < interactions p
  pub is_enabled : enabled p c.state i ≡ true
  pub not_bad : tolerable p (after p c i) ≡ true
  pub none_above : (j : ℕ) → j < interactions p → below p i j ≡ true → enabled p c.state j ≡ true → tolerable p (after p c j) ≡ false

module _ (p : Plan) (c : Configuration) where
  pub passable-enabled : (i : ℕ) → passable p c i ≡ true → enabled p c.state i ≡ true
  unfolding passable
  passable-enabled = leads-enabled p 1 c

  pub passable-tolerable : (i : ℕ) → passable p c i ≡ true → tolerable p (after p c i) ≡ true
  unfolding passable tolerable
  passable-tolerable = leads_reaches p 1 c

  pub passable-from : (i : ℕ) → enabled p c.state i ≡ true → tolerable p (after p c i) ≡ true → passable p c i ≡ true
  unfolding passable tolerable
  passable-from = leads-from p 1 c

  pub blocked_exactly : (i : ℕ) → blocked p c i ≡ true
      ↔ ((j : ℕ) × (j < interactions p) × (below p i j ≡ true) × (enabled p c.state j ≡ true) × (tolerable p (after p c j) ≡ true))
  unfolding blocked tolerable
  blocked_exactly = leads_above_exactly p 1 c

  -- the test says what the record says
  pub allowed_exactly : (i : ℕ) → entry_allowed p c i ≡ true ↔ EntryAllowed p c i
  unfolding entry_allowed
  allowed_exactly i = (
    (λ e.
        let (n, (m, (top, _))) = each _ e in
        record {
          number< = ltb-true _ _ n;
          is_enabled = passable-enabled i m;
          not_bad = passable-tolerable i m;
          none_above = λ j l b on.
              bool_cases (tolerable p (after p c j)) (λ t. absurd_bool ((blocked_exactly i).1 (j, l, b, on, t)) (not_yes _ top)) (λ t. t);
        }),
    (λ a.
        all_of_lem _ (lt-ltb _ _ a.number<, (passable-from i a.is_enabled a.not_bad, (ap not (free a), tt)))),
  )
    where
      free : EntryAllowed p c i → blocked p c i ≡ false
      free a =
          bool_cases (blocked p c i)
          (λ t. let (j, l, b, on, w) = (blocked_exactly i).0 t in absurd_bool w (a.none_above j l b on)) (λ t. t)

  -- an allowed entry that ends good is a move that settling's ranking allows: nothing enabled above it is tolerable, so nothing is good
  pub entry-commits : (i : ℕ) → EntryAllowed p c i → good p (after p c i) ≡ true → may_commit p c i ≡ true
  entry-commits i a g =
      commit_from p c i a.is_enabled g
      (λ j l b on. bool_cases (good p (after p c j)) (λ w. absurd_bool (good-tolerable p (after p c j) w) (a.none_above j l b on)) (λ w. w))

-- ---- where a list stops

module _ (p : Plan) where
  -- an entry that is allowed is passed
  pub stops_later : (c : Configuration) (i : ℕ) (is : List ℕ) → entry_allowed p c i ≡ true → stops_at p c (i ∷ is) ≡ suc (stops_at p (after p c i) is)
  unfolding stops_at
  stops_later c i is a = rw a refl

  -- at any other the list stops
  pub stops_here : (c : Configuration) (i : ℕ) (is : List ℕ) → entry_allowed p c i ≡ false → stops_at p c (i ∷ is) ≡ 0
  unfolding stops_at
  stops_here c i is a = rw a refl

  pub stops_within : (c : Configuration) (is : List ℕ) → stops_at p c is ≤ length is
  unfolding stops_at
  stops_within c [] = zero-le
  stops_within c (i ∷ is) =
      bool_cases (entry_allowed p c i) (λ a. rw a (suc-le-suc (stops_within (after p c i) is))) (λ a. rw a zero-le)

  -- where a list does not stop before its end, its first entry is allowed and the others do not stop
  pub first-allowed : (c : Configuration) (i : ℕ) (is : List ℕ) → stops_at p c (i ∷ is) ≡ length (i ∷ is)
      → (entry_allowed p c i ≡ true) × (stops_at p (after p c i) is ≡ length is)
  first-allowed c i is e =
      bool_cases (entry_allowed p c i) (λ a. (a, same (sym (stops_later c i is a) ∙ e))) (λ a. absurd (none (sym (stops_here c i is a) ∙ e)))
    where
      same : suc (stops_at p (after p c i) is) ≡ suc (length is) → stops_at p (after p c i) is ≡ length is
      same h = omega arith

      none : 0 ≡ suc (length is) → ⊥
      none h = omega arith

  -- ---- completing

  pub completes_all : (c : Configuration) (is : List ℕ) → completes p c is ≡ true → stops_at p c is ≡ length is
  unfolding completes
  completes_all c is e = let (n, _) = each _ e in eqb-true _ _ n

  pub completes-good : (c : Configuration) (is : List ℕ) → completes p c is ≡ true → good p (replay p c is) ≡ true
  unfolding completes
  completes-good c is e = let (_, (g, _)) = each _ e in g

  pub completes-from : (c : Configuration) (is : List ℕ) → stops_at p c is ≡ length is → good p (replay p c is) ≡ true → completes p c is ≡ true
  unfolding completes
  completes-from c is n g = all_of_lem _ (eq-eqb _ _ n, (g, tt))

  -- an allowed entry leads to a sound configuration
  pub entry_sound : Accepted p → (c : Configuration) → Sound p c → (i : ℕ) → entry_allowed p c i ≡ true → Sound p (after p c i)
  entry_sound h c s i e = let a = (allowed_exactly p c i).0 e in sound_after p h c s i a.number< a.is_enabled

  -- and so do the entries of a list that does not stop
  pub sound_replay : Accepted p → (c : Configuration) → Sound p c → (is : List ℕ) → stops_at p c is ≡ length is → Sound p (replay p c is)
  unfolding replay
  sound_replay h c s [] e = s
  sound_replay h c s (i ∷ is) e = let (a, rest) = first-allowed c i is e in sound_replay h (after p c i) (entry_sound h c s i a) is rest

  -- ---- several moves

  -- moves one after the other
  pub replay_append : (c : Configuration) (is js : List ℕ) → replay p c (is ++ js) ≡ replay p (replay p c is) js
  unfolding replay
  replay_append c [] js = refl
  replay_append c (i ∷ is) js = replay_append (after p c i) is js

  pub replay_one : (c : Configuration) (i : ℕ) → replay p c (i ∷ []) ≡ after p c i
  unfolding replay
  replay_one c i = refl

-- ---- a list of one entry

module _ (p : Plan) (c : Configuration) (i : ℕ) where
  -- 02, job 6: it is committed exactly where the move is one that settling's ranking allows and no enabled interaction above it leads to verdict 1, which blocks
  -- the list and not the settling
  pub one_entry_exactly : completes p c (i ∷ []) ≡ true
      ↔ ((i < interactions p) × (may_commit p c i ≡ true)
      × ((j : ℕ) → j < interactions p → below p i j ≡ true → enabled p c.state j ≡ true → verdict_of p (after p c j) ≡ 1 → ⊥))
  one_entry_exactly = (to, from)
    where
      to : completes p c (i ∷ []) ≡ true
          → (i < interactions p) × (may_commit p c i ≡ true)
          × ((j : ℕ) → j < interactions p → below p i j ≡ true → enabled p c.state j ≡ true → verdict_of p (after p c j) ≡ 1 → ⊥)
      to e =
          let (t, _) = first-allowed p c i [] (completes_all p c (i ∷ []) e) in
          let a = (allowed_exactly p c i).0 t in
          let g = sym (ap (good p) (replay_one p c i)) ∙ completes-good p c (i ∷ []) e in (
            a.number<,
            entry-commits p c i a g,
            λ j l b on v. absurd_bool (one_tolerable p (after p c j) v) (a.none_above j l b on),
          )

      from : (i < interactions p) × (may_commit p c i ≡ true)
          × ((j : ℕ) → j < interactions p → below p i j ≡ true → enabled p c.state j ≡ true → verdict_of p (after p c j) ≡ 1 → ⊥)
          → completes p c (i ∷ []) ≡ true
      from (l, m, none) =
          let g = commit_good p c i m in
          let a : EntryAllowed p c i
          = record {
            number< = l;
            is_enabled = commit_enabled p c i m;
            not_bad = good-tolerable p (after p c i) g;
            none_above = λ j h b on.
                bool_cases (tolerable p (after p c j)) (λ t. absurd (none j h b on (tolerable_one p (after p c j) t (commit_above p c i m j h b on)))) (λ t. t);
          } in
          completes-from p c (i ∷ []) (stops_later p c i [] ((allowed_exactly p c i).1 a) ∙ ap suc (unfold stops_at in refl)) (ap (good p) (replay_one p c i) ∙ g)
