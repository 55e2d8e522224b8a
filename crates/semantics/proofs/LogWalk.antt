-- A walk over the entries of a log: what is wrong with an entry, and which entry of a list is the first wrong one, 02, job 4.
use mathlib.Core.Path.{◌≡◌, refl, sym, ap, ap₂, ◌∙◌, subst}
use mathlib.Core.Logic.{◌↔◌}
use Prim.Native.Nat.{ℕ, zero, suc, ◌+◌, ◌≤◌, ◌<◌}
use native.Mathlib.Nat.{suc-ne-zero, zero-lt-suc, le_of_suc-le-suc, not-suc-le-zero, add-zero, zero-add}
use native.Mathlib.Omega.{arith}
use mathlib.Core.Bool.{Bool, true, false, not, and-true}
use mathlib.Core.List.{List, [], ◌∷◌}
use lib.ListN.{length, get_or, take}
use lib.Dec.{ltb}
use Rattle.semantics.specs.Bytes.{all_of}
use Rattle.semantics.specs.Plan.{Plan, interactions, below}
use Rattle.semantics.specs.Move.{Configuration, enabled, dominated, after, reaches, good, leads_above, may_commit, replay}
use Rattle.semantics.specs.Refusal.{refusal, unless}
use Rattle.semantics.specs.Calls.{Answer, accepted}
use Rattle.semantics.specs.Run.{is_run}
use Rattle.semantics.specs.Log.{cause_rules, cause_from, passes, cause, right, wrong, walked}
use Rattle.semantics.proofs.Basics.{bool_cases, absurd_bool, not_yes, each, all_of_lem, ltb-true, lt-ltb, ltb-false, le-ltb, eqb-true, eqb-false, ne_eqb}
use Rattle.semantics.proofs.Counting.{among}
use Rattle.semantics.proofs.Refusing.{numbered, none-refused}
use Rattle.semantics.proofs.Performed.{other_kind}
use Rattle.semantics.proofs.RefusedUnchanged.{Refused, accepted_not_refused}
use Rattle.semantics.proofs.Ranking.{dominated_exactly, commit_enabled, commit_good, commit_above, commit_from}

-- ---- one move that is to lead to a verdict of v or more: its cause, and whether it passes, test by test

module _ (p : Plan) (v : ℕ) (c : Configuration) (i : ℕ) where
  pub cause-none : i < interactions p → enabled p c.state i ≡ true → leads_above p v c i ≡ false → cause_from p v c i ≡ 0
  unfolding cause_from cause_rules refusal unless
  cause-none l e d = rw (lt-ltb i (interactions p) l, e) (ap (λ (b : Bool). unless (not b) 18 0) d)

  pub cause_high : interactions p ≤ i → cause_from p v c i ≡ 16
  unfolding cause_from cause_rules refusal unless
  cause_high h = rw (le-ltb i (interactions p) h) refl

  pub cause_disabled : i < interactions p → enabled p c.state i ≡ false → cause_from p v c i ≡ 17
  unfolding cause_from cause_rules refusal unless
  cause_disabled l e = rw (lt-ltb i (interactions p) l, e) refl

  pub cause_above : i < interactions p → enabled p c.state i ≡ true → leads_above p v c i ≡ true → cause_from p v c i ≡ 18
  unfolding cause_from cause_rules refusal unless
  cause_above l e d = rw (lt-ltb i (interactions p) l, e) (ap (λ (b : Bool). unless (not b) 18 0) d)

  pub caused_stops : (n : ℕ) → cause_from p v c i ≡ suc n → passes p v c i ≡ false
  unfolding passes all_of
  caused_stops n e = rw (e, ne_eqb (suc n) 0 (suc-ne-zero n)) refl

  pub uncaused_passes : cause_from p v c i ≡ 0 → passes p v c i ≡ reaches p v (after p c i).oracles
  unfolding passes all_of
  uncaused_passes z = rw z (and-true (reaches p v (after p c i).oracles))

-- ---- one entry

-- the numbers of the causes, in their order
abbrev pub cause_numbers : List ℕ
cause_numbers = 16 ∷ 17 ∷ 18 ∷ 0 ∷ []

module _ (p : Plan) (c : Configuration) (i : ℕ) where
  -- a move that lies above i is enabled and ends good
  abbrev pub GoodAbove : Type 0
  GoodAbove = (j : ℕ) × (j < interactions p) × (below p i j ≡ true) × (enabled p c.state j ≡ true) × (good p (after p c j) ≡ true)

  -- "the first cause that fits it: 16, 17 or 18 with their conditions, then bad"
  pub data Cause : ℕ → Type 0 where
    no_such_move : interactions p ≤ i → Cause 16
    not-enabled : i < interactions p → enabled p c.state i ≡ false → Cause 17
    good_above : i < interactions p → enabled p c.state i ≡ true → GoodAbove → Cause 18
    ends_bad : i < interactions p → enabled p c.state i ≡ true → ¬ GoodAbove → good p (after p c i) ≡ false → Cause 0

  pub cause-number : {n : ℕ} → Cause n → among n cause_numbers ≡ true
  cause-number (no_such_move h) = refl
  cause-number (not-enabled l e) = refl
  cause-number (good_above l e g) = refl
  cause-number (ends_bad l e f b) = refl

  undominated : ¬ GoodAbove → dominated p c i ≡ false
  undominated f = bool_cases (dominated p c i) (λ d. absurd (f ((dominated_exactly p c i).0 d))) (λ d. d)

  -- ---- the same exactly

  -- an entry is right exactly where it is a move that may be committed
  pub right_exactly : right p c i ≡ true ↔ (i < interactions p) × (may_commit p c i ≡ true)
  unfolding right passes cause_from cause_rules dominated good numbered
  right_exactly = (from, to)
    where
      from : right p c i ≡ true → (i < interactions p) × (may_commit p c i ≡ true)
      from e =
          let (z, (g, _)) = each _ e in
          let (l, (on, (top, _))) = none-refused (cause_rules p 2 c i) refl (eqb-true _ 0 z) in
          (ltb-true i (interactions p) l, commit_from p c i on g (λ j h b up. bool_cases (good p (after p c j)) (λ w. absurd_bool ((dominated_exactly p c i).1 (j, h, b, up, w)) (not_yes _ top)) (λ w. w)))

      to : (i < interactions p) × (may_commit p c i ≡ true) → right p c i ≡ true
      to (l, m) =
          let f : ¬ GoodAbove = λ (j, h, b, up, g). absurd_bool g (commit_above p c i m j h b up) in
          uncaused_passes p 2 c i (cause-none p 2 c i l (commit_enabled p c i m) (undominated f)) ∙ commit_good p c i m

  causes : right p c i ≡ false → Cause (cause p c i)
  unfolding right cause dominated good
  causes r =
      bool_cases (ltb i (interactions p))
      (λ t.
      let l : i < interactions p = ltb-true i (interactions p) t in
      bool_cases (enabled p c.state i)
      (λ e. bool_cases (dominated p c i)
      (λ d. subst Cause (sym (cause_above p 2 c i l e d)) (good_above l e ((dominated_exactly p c i).0 d)))
      (λ d. let z = cause-none p 2 c i l e d in
      subst Cause (sym z) (ends_bad l e (λ g. absurd_bool ((dominated_exactly p c i).1 g) d) (sym (uncaused_passes p 2 c i z) ∙ r))))
      (λ e. subst Cause (sym (cause_disabled p 2 c i l e)) (not-enabled l e)))
      (λ t. let h : interactions p ≤ i = ltb-false i (interactions p) t in subst Cause (sym (cause_high p 2 c i h)) (no_such_move h))

  caused : {n : ℕ} → Cause n → (right p c i ≡ false) × (cause p c i ≡ n)
  unfolding right cause dominated good
  caused (no_such_move h) = let e = cause_high p 2 c i h in (caused_stops p 2 c i 15 e, e)
  caused (not-enabled l e) = let w = cause_disabled p 2 c i l e in (caused_stops p 2 c i 16 w, w)
  caused (good_above l e g) = let w = cause_above p 2 c i l e ((dominated_exactly p c i).1 g) in (caused_stops p 2 c i 17 w, w)
  caused (ends_bad l e f b) = let w = cause-none p 2 c i l e (undominated f) in (uncaused_passes p 2 c i w ∙ b, w)

  -- an entry is wrong by the cause n exactly where n is the first cause that fits it
  pub cause_exactly : (n : ℕ) → (right p c i ≡ false) × (cause p c i ≡ n) ↔ Cause n
  cause_exactly n = (λ (r, e). subst Cause e (causes r), caused)

-- ---- the entries one after the other

module _ (p : Plan) where
  pub walked_on : (c : Configuration) (k i : ℕ) (is : List ℕ) → right p c i ≡ true → walked p c k (i ∷ is) ≡ walked p (after p c i) (suc k) is
  unfolding walked
  walked_on c k i is r = rw r refl

  pub walked_stops : (c : Configuration) (k i : ℕ) (is : List ℕ) → right p c i ≡ false → walked p c k (i ∷ is) ≡ wrong (cause p c i) k
  unfolding walked
  walked_stops c k i is r = rw r refl

  -- entry k is the first wrong one, by the cause n: those before it are a run, and it is wrong after them
  pub record FirstWrong (c : Configuration) (is : List ℕ) (k n : ℕ) : Type 0 where
    pub index< : k < length is
    pub run_before : is_run p c (take k is) ≡ true
    pub why : Cause p (replay p c (take k is)) (get_or is k 0) n

  -- a run has a right entry first, and a run after it
  run-first : (c : Configuration) (i : ℕ) (is : List ℕ) → is_run p c (i ∷ is) ≡ true → (right p c i ≡ true) × (is_run p (after p c i) is ≡ true)
  unfolding is_run
  run-first c i is e = let (l, (m, (r, _))) = each _ e in ((right_exactly p c i).1 (ltb-true _ _ l, m), r)

  run-from : (c : Configuration) (i : ℕ) (is : List ℕ) → right p c i ≡ true → is_run p (after p c i) is ≡ true → is_run p c (i ∷ is) ≡ true
  unfolding is_run
  run-from c i is r e = let (l, m) = (right_exactly p c i).0 r in all_of_lem _ (lt-ltb _ _ l, (m, (e, tt)))

  walked-run : (c : Configuration) (m : ℕ) (is : List ℕ) → is_run p c is ≡ true → walked p c m is ≡ accepted
  unfolding walked
  walked-run c m [] e = refl
  walked-run c m (i ∷ is) e = let (r, h) = run-first c i is e in walked_on c m i is r ∙ walked-run (after p c i) (suc m) is h

  walked-wrong : (c : Configuration) (m : ℕ) (is : List ℕ) (k n : ℕ) → FirstWrong c is k n → walked p c m is ≡ wrong n (m + k)
  unfolding replay
  walked-wrong c m [] k n f = absurd (not-suc-le-zero f.index<)
  walked-wrong c m (i ∷ is) zero n f =
      let (r, e) = (cause_exactly p c i n).1 f.why in walked_stops c m i is r ∙ ap₂ wrong e (sym (add-zero m))
  walked-wrong c m (i ∷ is) (suc k) n f =
      let (r, h) = run-first c i (take k is) f.run_before in
      let later : FirstWrong (after p c i) is k n = record { index< = le_of_suc-le-suc f.index<; run_before = h; why = f.why } in
      walked_on c m i is r ∙ walked-wrong (after p c i) (suc m) is k n later ∙ ap (wrong n) (omega arith)

  -- a walk goes through a run, or stops at the first wrong entry
  pub data Walks (c : Configuration) (m : ℕ) (is : List ℕ) : Answer → Type 0 where
    through : is_run p c is ≡ true → Walks c m is accepted
    stops : (k n : ℕ) → FirstWrong c is k n → Walks c m is (wrong n (m + k))

  one_more : (c : Configuration) (m i : ℕ) (is : List ℕ) {a : Answer} → right p c i ≡ true → Walks (after p c i) (suc m) is a → Walks c m (i ∷ is) a
  unfolding replay
  one_more c m i is r (through e) = through (run-from c i is r e)
  one_more c m i is r (stops k n f) =
      let first : FirstWrong c (i ∷ is) (suc k) n = record { index< = omega (arith, f.index<); run_before = run-from c i (take k is) r f.run_before; why = f.why } in
      let same : m + suc k ≡ suc m + k = omega arith in
      subst (λ (x : ℕ). Walks c m (i ∷ is) (wrong n x)) same (stops (suc k) n first)

  pub walks : (c : Configuration) (m : ℕ) (is : List ℕ) → Walks c m is (walked p c m is)
  unfolding walked is_run replay
  walks c m [] = through refl
  walks c m (i ∷ is) =
      bool_cases (right p c i)
      (λ r. subst (Walks c m (i ∷ is)) (sym (walked_on c m i is r)) (one_more c m i is r (walks (after p c i) (suc m) is)))
      (λ r.
      let n : ℕ = cause p c i in
      let first : FirstWrong c (i ∷ is) 0 n = record { index< = zero-lt-suc (length is); run_before = refl; why = (cause_exactly p c i n).0 (r, refl) } in
      subst (Walks c m (i ∷ is)) (ap (wrong n) (add-zero m) ∙ sym (walked_stops c m i is r)) (stops 0 n first))

  -- a list is walked through exactly where it is a run
  pub through_exactly : (c : Configuration) (is : List ℕ) → walked p c 0 is ≡ accepted ↔ is_run p c is ≡ true
  through_exactly c is = (λ e. from (walks c 0 is) e, walked-run c 0 is)
    where
      from : {a : Answer} → Walks c 0 is a → a ≡ accepted → is_run p c is ≡ true
      from (through r) e = r
      from (stops k n f) e = other_kind e refl

  -- else the walk stops at the first wrong entry, with the first cause that fits it
  pub stops_exactly : (c : Configuration) (is : List ℕ) (k n : ℕ) → walked p c 0 is ≡ wrong n k ↔ FirstWrong c is k n
  stops_exactly c is k n = (λ e. from (walks c 0 is) e, λ f. walked-wrong c 0 is k n f ∙ ap (wrong n) (zero-add k))
    where
      from : {a : Answer} → Walks c 0 is a → a ≡ wrong n k → FirstWrong c is k n
      from (through r) e = other_kind e refl
      from (stops j m f) e =
          let index : j ≡ k = sym (zero-add j) ∙ ap (λ (a : Answer). a.bits) e in
          subst (FirstWrong c is k) (ap (λ (a : Answer). a.number) e) (subst (λ (x : ℕ). FirstWrong c is x m) index f)

  -- neither is a refusal
  pub walk_not_refused : (c : Configuration) (is : List ℕ) → ¬ Refused (walked p c 0 is)
  walk_not_refused c is = go (walks c 0 is)
    where
      go : {a : Answer} → Walks c 0 is a → ¬ Refused a
      go (through r) = accepted_not_refused
      go (stops k n f) = eqb-false 6 5 refl
