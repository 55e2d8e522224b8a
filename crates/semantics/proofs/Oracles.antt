-- The oracles of a plan (02, job 1): their tables, numbers and bytes, their states in range, read together, and the lowest of their verdicts.
use mathlib.Core.Path.{◌≡◌, refl, sym, ap, ◌∙◌, subst}
use mathlib.Core.Logic.{◌↔◌}
use Prim.Native.Nat.{ℕ, zero, suc, min, ◌+◌, ◌≤◌, ◌<◌, suc-le-suc}
use native.Mathlib.Nat.{le_refl, le_of_suc-le-suc}
use native.Mathlib.Omega.{arith}
use mathlib.Core.Bool.{Bool, true, false, cond, ◌&&◌, ◌||◌, and-true}
use mathlib.Core.List.{List, [], ◌∷◌}
use lib.ListN.{length, get_or}
use lib.Dec.{leb, ltb, eqb}
use Rattle.semantics.specs.Bytes.{byte, u32, all_of, every, table}
use Rattle.semantics.specs.Plan.{Plan, max_oracles, first_oracle, added_oracles, oracles, oracle_states, start_states, states_before, letters, oracle_at, verdict, next}
use Rattle.semantics.specs.Rules.{within, state_count_ok, oracle_counts_ok, follower_ok, oracle_ok, plan_rules}
use Rattle.semantics.specs.Move.{Configuration, next_states, state_in_range, oracles_in_range, lowest_verdict, reaches, good, tolerable}
use Rattle.semantics.specs.Image.{Image, head, oracle_byte, head_matches}
use Rattle.semantics.proofs.Basics.{bool_cases, absurd_bool, or_left, or_right, or_no, same_test, each, all_of_lem, leb-true, le_leb, ltb-true, ltb-false, lt-ltb, le-ltb, eqb-true, eq-eqb, every-at, every_all, every_same, below_suc, length-table, get_or-table, zeros_at}
use Rattle.semantics.proofs.RuleLists.{numbers}
use Rattle.semantics.proofs.AcceptedPlan.{Accepted, Counts, counts_of_lem}

-- ---- tables, numbers and bytes

-- "Their tables follow the first oracle's section": each oracle's rows begin where those of the one before it end
pub tables_follow : (p : Plan) (n : ℕ) → oracle_at p (suc n) 0 ≡ oracle_at p n (oracle_states p n)
unfolding states_before
tables_follow p n = omega arith

-- the rows of an oracle end where those of a later one begin, or before
pub states_end : (p : Plan) (n w : ℕ) → n < w → states_before p n + oracle_states p n ≤ states_before p w
unfolding states_before
states_end p n zero h = absurd (omega arith)
states_end p n (suc w) h = below_suc h (λ l. let i = states_end p n w l in omega (arith, i)) (λ e. rw e (omega arith))

-- "20 .. is tested after 9 and before 10", and the others in the order of their numbers
pub tested_in_order : (p : Plan) → numbers (plan_rules p) ≡ 1 ∷ 2 ∷ 3 ∷ 4 ∷ 5 ∷ 6 ∷ 7 ∷ 8 ∷ 9 ∷ 20 ∷ 10 ∷ []
unfolding plan_rules
tested_in_order p = refl

-- "checked under 13 and no longer under 12": 12 says the same of two images that differ in bytes 8 to 11 alone
pub not_under_12 : (p : Plan) (a b : Image) → ((k : ℕ) → k < 16 → ¬ ((8 ≤ k) × (k < 12)) → byte a k ≡ byte b k) → head_matches p a ≡ head_matches p b
unfolding head_matches oracle_byte
not_under_12 p a b f =
    every_same 16 _ _
    (λ k l. bool_cases (oracle_byte k) (λ e. rw e refl)
    (λ e. ap (λ (x : ℕ). oracle_byte k || eqb x (byte (head p []) k)) (f k l (λ (m, n). absurd_bool (all_of_lem _ (le_leb 8 k m, (lt-ltb k 12 n, tt))) e))))

-- ---- counts and states in range

-- 2: an oracle of the plan has 1 to 32 states, another none
pub used_count : (p : Plan) (n : ℕ) → n < oracles p → state_count_ok p n ≡ within 1 32 (oracle_states p n)
unfolding state_count_ok
used_count p n h = rw (lt-ltb n (oracles p) h) refl

pub unused_count : (p : Plan) (n : ℕ) → oracles p ≤ n → state_count_ok p n ≡ eqb (oracle_states p n) 0
unfolding state_count_ok
unused_count p n h = rw (le-ltb n (oracles p) h) refl

-- an oracle of the plan is in one of its states
pub used_in_range : (p : Plan) (n q : ℕ) → n < oracles p → state_in_range p n q ≡ ltb q (oracle_states p n)
unfolding state_in_range
used_in_range p n q h = rw (lt-ltb n (oracles p) h) refl

-- an unused place is 0
pub unused_in_range : (p : Plan) (n q : ℕ) → oracles p ≤ n → state_in_range p n q ≡ eqb q 0
unfolding state_in_range
unused_in_range p n q h = rw (le-ltb n (oracles p) h) refl

-- 2: where the four bytes of the added oracles are zero, the first oracle's count decides
pub first_count_decides : (p : Plan) → u32 p 42 ≡ 0 → oracle_counts_ok p ≡ state_count_ok p 0
unfolding oracle_counts_ok all_of every u32
first_count_decides p e =
    let none : added_oracles p ≡ 0 = omega (arith, e) in
    let z0 : byte p 43 ≡ 0 = omega (arith, e) in
    let z1 : byte p 44 ≡ 0 = omega (arith, e) in
    let z2 : byte p 45 ≡ 0 = omega (arith, e) in
    let low : leb (added_oracles p) 3 ≡ true = ap (λ (k : ℕ). leb k 3) none in
    rw (low, unused none 0 z0, unused none 1 z1, unused none 2 z2) (simp and-true)
  where
    unused : added_oracles p ≡ 0 → (k : ℕ) → byte p (43 + k) ≡ 0 → state_count_ok p (suc k) ≡ true
    unused none k z = unused_count p (suc k) (omega (arith, none)) ∙ (unfold oracle_states in eq-eqb (byte p (43 + k)) 0 z)

-- where all are in range, each is
pub range_at : (p : Plan) (qs : List ℕ) → oracles_in_range p qs ≡ true → (n : ℕ) → n < max_oracles → state_in_range p n (get_or qs n 0) ≡ true
unfolding oracles_in_range
range_at p qs e = every-at max_oracles (λ n. state_in_range p n (get_or qs n 0)) e

-- and the state of an oracle of the plan is below its count
pub range_lt : (p : Plan) (n q : ℕ) → n < oracles p → state_in_range p n q ≡ true → q < oracle_states p n
range_lt p n q h e = ltb-true q (oracle_states p n) (sym (used_in_range p n q h) ∙ e)

-- an unused oracle's count is 0, so the count alone tells the states in range
pub in_range_by_count : (p : Plan) (n q : ℕ) → state_count_ok p n ≡ true → state_in_range p n q ≡ (ltb q (oracle_states p n) || eqb q 0)
unfolding within
in_range_by_count p n q e =
    bool_cases (ltb n (oracles p))
    (λ t. let u = ltb-true n (oracles p) t in
    let some = leb-true 1 (oracle_states p n) (each _ (sym (used_count p n u) ∙ e)).0 in
    used_in_range p n q u ∙ sym (either some))
    (λ t. let u = ltb-false n (oracles p) t in
    let none : oracle_states p n ≡ 0 = eqb-true (oracle_states p n) 0 (sym (unused_count p n u) ∙ e) in
    unused_in_range p n q u ∙ sym (ap (λ (b : Bool). b || eqb q 0) (le-ltb q (oracle_states p n) (omega (arith, none)))))
  where
    either : 1 ≤ oracle_states p n → (ltb q (oracle_states p n) || eqb q 0) ≡ ltb q (oracle_states p n)
    either some =
        bool_cases (eqb q 0)
        (λ z. let first = eqb-true q 0 z in
        let low = lt-ltb q (oracle_states p n) (omega (arith, first, some)) in
        or_left (ltb q (oracle_states p n)) (eqb q 0) low ∙ sym low)
        (λ z. or_no (ltb q (oracle_states p n)) (eqb q 0) z)

-- where the first oracle has its state, the added ones decide
pub added_decide : (p : Plan) (qs : List ℕ) → state_in_range p 0 (get_or qs 0 0) ≡ true
    → oracles_in_range p qs ≡ ((state_in_range p 1 (get_or qs 1 0) && state_in_range p 2 (get_or qs 2 0)) && state_in_range p 3 (get_or qs 3 0))
unfolding oracles_in_range every
added_decide p qs e = rw e refl

-- ---- all oracles read a letter

-- four states again
pub length_next_states : (p : Plan) (qs : List ℕ) (a : ℕ) → length (next_states p qs a) ≡ max_oracles
unfolding next_states
length_next_states p qs a = length-table max_oracles (λ n. cond (ltb n (oracles p)) (next p n (get_or qs n 0) a) 0)

next_state_at : (p : Plan) (qs : List ℕ) (a n : ℕ) → n < max_oracles → get_or (next_states p qs a) n 0 ≡ cond (ltb n (oracles p)) (next p n (get_or qs n 0) a) 0
unfolding next_states
next_state_at p qs a n h = get_or-table max_oracles (λ k. cond (ltb k (oracles p)) (next p k (get_or qs k 0) a) 0) 0 n h

-- an oracle of the plan goes to its next state
pub used_reads : (p : Plan) (qs : List ℕ) (a n : ℕ) → n < max_oracles → n < oracles p → get_or (next_states p qs a) n 0 ≡ next p n (get_or qs n 0) a
used_reads p qs a n h l = next_state_at p qs a n h ∙ rw (lt-ltb n (oracles p) l) refl

-- an unused place stays 0
pub unused_reads : (p : Plan) (qs : List ℕ) (a n : ℕ) → n < max_oracles → oracles p ≤ n → get_or (next_states p qs a) n 0 ≡ 0
unused_reads p qs a n h l = next_state_at p qs a n h ∙ rw (le-ltb n (oracles p) l) refl

-- with no oracle added, the first one alone
pub first_reads : (p : Plan) (qs : List ℕ) (a : ℕ) → added_oracles p ≡ 0 → next_states p qs a ≡ next p 0 (get_or qs 0 0) a ∷ 0 ∷ 0 ∷ 0 ∷ []
unfolding next_states table
first_reads p qs a e = rw e refl

-- on an accepted plan a state in range leads to one in range
pub next_in_range : (p : Plan) → Accepted p → (n : ℕ) → n < oracles p → (q a : ℕ) → state_in_range p n q ≡ true → a < letters p
    → state_in_range p n (next p n q a) ≡ true
unfolding oracle_ok follower_ok
next_in_range p h n l q a e m =
    let (_, (followers, _)) = each _ (h.oracle n l q (range_lt p n q l e)) in
    let (low, _) = each _ (every-at (letters p) (λ b. follower_ok p n q (next p n q b)) followers a m) in
    used_in_range p n (next p n q a) l ∙ low

-- so all that are in range lead to states in range
pub next_states_in_range : (p : Plan) → Accepted p → (qs : List ℕ) (a : ℕ) → oracles_in_range p qs ≡ true → a < letters p
    → oracles_in_range p (next_states p qs a) ≡ true
next_states_in_range p h qs a e m = unfold oracles_in_range in every_all max_oracles (λ n. state_in_range p n (get_or (next_states p qs a) n 0)) each_in
  where
    each_in : (n : ℕ) → n < max_oracles → state_in_range p n (get_or (next_states p qs a) n 0) ≡ true
    each_in n l =
        bool_cases (ltb n (oracles p))
        (λ t. let u = ltb-true n (oracles p) t in
        subst (λ (q : ℕ). state_in_range p n q ≡ true) (sym (used_reads p qs a n l u)) (next_in_range p h n u (get_or qs n 0) a (range_at p qs e n l) m))
        (λ t. let u = ltb-false n (oracles p) t in
        unused_in_range p n (get_or (next_states p qs a) n 0) u ∙ eq-eqb (get_or (next_states p qs a) n 0) 0 (unused_reads p qs a n l u))

-- ---- the states in which they begin

-- "Each begins at its state 0": of the added ones
pub added_begin_at_0 : (p : Plan) (k : ℕ) → get_or (start_states p) (suc k) 0 ≡ 0
added_begin_at_0 p k = zeros_at 3 k

-- state 0 is one of every oracle's, and stands where there is none
pub zero_in_range : (p : Plan) (n : ℕ) → state_count_ok p n ≡ true → state_in_range p n 0 ≡ true
zero_in_range p n e = in_range_by_count p n 0 e ∙ or_right (ltb 0 (oracle_states p n)) (eqb 0 0) refl

pub start_in_range : (p : Plan) → Accepted p → oracles_in_range p (start_states p) ≡ true
unfolding oracles_in_range
start_in_range p h = every_all max_oracles (λ n. state_in_range p n (get_or (start_states p) n 0)) (at (counts_of_lem p h.counts))
  where
    at : Counts p → (n : ℕ) → n < max_oracles → state_in_range p n (get_or (start_states p) n 0) ≡ true
    at c zero l = used_in_range p 0 (first_oracle p) (omega arith) ∙ lt-ltb (first_oracle p) (oracle_states p 0) c.first<
    at c (suc zero) l = zero_in_range p 1 (c.state_count 1 l)
    at c (suc (suc zero)) l = zero_in_range p 2 (c.state_count 2 l)
    at c (suc (suc (suc zero))) l = zero_in_range p 3 (c.state_count 3 l)
    at c (suc (suc (suc (suc n)))) l = absurd (over n l)
      where
        over : (n : ℕ) → suc (suc (suc (suc n))) < max_oracles → ⊥
        over n l = omega arith

-- ---- the lowest verdict

-- it is at most each oracle's
pub lowest_at_most : (p : Plan) (qs : List ℕ) (m n : ℕ) → n ≤ m → lowest_verdict p qs m ≤ verdict p n (get_or qs n 0)
unfolding lowest_verdict
lowest_at_most p qs zero n h = let e : n ≡ 0 = omega arith in rw e (le_refl (verdict p 0 (get_or qs 0 0)))
lowest_at_most p qs (suc m) n h =
    below_suc {k = n} {n = suc m} (suc-le-suc h)
    (λ l. let i = lowest_at_most p qs m n (le_of_suc-le-suc l) in omega (arith, i))
    (λ e. rw e (omega arith))

-- and some oracle's
pub lowest_of_some : (p : Plan) (qs : List ℕ) (m : ℕ) → (n : ℕ) × (n ≤ m) × (verdict p n (get_or qs n 0) ≡ lowest_verdict p qs m)
unfolding lowest_verdict
lowest_of_some p qs zero = (0, le_refl 0, refl)
lowest_of_some p qs (suc m) =
    let (k, l, e) = lowest_of_some p qs m in
    let v = verdict p (suc m) (get_or qs (suc m) 0) in
    bool_cases (ltb (lowest_verdict p qs m) v)
    (λ t. let u = ltb-true (lowest_verdict p qs m) v t in (k, omega (arith, l), e ∙ omega (arith, u)))
    (λ t. let u = ltb-false (lowest_verdict p qs m) v t in (suc m, le_refl (suc m), omega (arith, u)))

-- so it is v or more exactly where every oracle's verdict is
pub reaches_exactly : (p : Plan) (v : ℕ) (qs : List ℕ) → reaches p v qs ≡ every (oracles p) (λ n. leb v (verdict p n (get_or qs n 0)))
unfolding reaches
reaches_exactly p v qs =
    same_test _ _
    (λ g. every_all (oracles p) (λ n. leb v (verdict p n (get_or qs n 0)))
    (λ n l. let low = leb-true v _ g in
    let i = lowest_at_most p qs (added_oracles p) n (le_of_suc-le-suc l) in
    le_leb v _ (omega (arith, low, i))))
    (λ a. let (k, l, e) = lowest_of_some p qs (added_oracles p) in
    le_leb v _ (subst (λ (w : ℕ). v ≤ w) e (leb-true v _ (every-at (oracles p) (λ n. leb v (verdict p n (get_or qs n 0))) a k (suc-le-suc l)))))

-- ---- the verdict of a configuration

module _ (p : Plan) (c : Configuration) where
  -- the verdict of a configuration, of all its oracles
  abbrev pub verdict_of : ℕ
  verdict_of = lowest_verdict p c.oracles (added_oracles p)

  -- "only verdicts 2 and 3 are good"
  pub good-verdict : good p c ≡ true ↔ 2 ≤ verdict_of
  unfolding good reaches
  good-verdict = (leb-true 2 verdict_of, le_leb 2 verdict_of)

  -- "its verdict is not 0"
  pub tolerable-verdict : tolerable p c ≡ true ↔ (verdict_of ≡ 0 → ⊥)
  unfolding tolerable reaches
  tolerable-verdict = (
    (λ t z. let l = leb-true 1 verdict_of t in absurd (omega (arith, l, z))),
    (λ f. le_leb 1 verdict_of (omega (arith, f))),
  )

  -- what is good is tolerable
  pub good-tolerable : good p c ≡ true → tolerable p c ≡ true
  good-tolerable g = tolerable-verdict.1 (λ z. let l = good-verdict.0 g in omega (arith, l, z))

  -- and what is tolerable is good, or its verdict is 1
  pub tolerable_one : tolerable p c ≡ true → good p c ≡ false → verdict_of ≡ 1
  tolerable_one t g =
      let below : 2 ≤ verdict_of → ⊥ = λ l. absurd_bool (good-verdict.1 l) g in
      omega (arith, tolerable-verdict.0 t, below)

  pub one_tolerable : verdict_of ≡ 1 → tolerable p c ≡ true
  one_tolerable e = tolerable-verdict.1 (λ z. omega (arith, e, z))
