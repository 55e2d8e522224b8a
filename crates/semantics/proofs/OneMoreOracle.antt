-- 02, job 1: "From one state, adding an oracle never turns a bad move good." The law over two plans that differ in one more oracle.
use mathlib.Core.Path.{◌≡◌, refl, sym, ap, ap₂, ◌∙◌}
use Prim.Native.Nat.{ℕ, zero, suc, ◌+◌, ◌^◌, ◌≤◌, ◌<◌}
use native.Mathlib.Nat.{le_refl, le_of_suc-le-suc}
use native.Mathlib.Omega.{arith}
use mathlib.Core.Bool.{true, false}
use mathlib.Core.List.{List}
use lib.ListN.{get_or}
use lib.Dec.{leb}
use Rattle.semantics.specs.Plan.{Plan, max_oracles, interactions, letters, oracles, oracle_states, states_before, start_states, section_size, oracle_at, verdict, next}
use Rattle.semantics.specs.Rules.{plan_refusal}
use Rattle.semantics.specs.Move.{Configuration, enabled, fired, letter, judged, after, oracles_in_range, reaches, good, leads, safe, initial_state, initial}
use Rattle.semantics.proofs.Basics.{bool_cases, absurd_bool, leb-true, le_leb, every-at, every_all}
use Rattle.semantics.proofs.AcceptedPlan.{accepted_plan, counts_of_lem}
use Rattle.semantics.proofs.Oracles.{states_end, range_at, range_lt, used_reads, next_states_in_range, start_in_range, reaches_exactly, verdict_of}
use Rattle.semantics.proofs.Ranking.{leads-enabled, leads_reaches, leads-from}
use Rattle.semantics.proofs.SameTables.{OneMore, Alike, same_byte, row, same_propositions, same_first_states, same_first_oracle, same_enabled, same_move, same_letter, same_initial}
use Rattle.semantics.proofs.Sound.{letter_lt, sound_initial}

-- the same state, and the oracles of p in the same states
pub record SameShared (p : Plan) (c c' : Configuration) : Type 0 where
  pub same_state : c'.state ≡ c.state
  pub same_oracles : (n : ℕ) → n < oracles p → get_or c'.oracles n 0 ≡ get_or c.oracles n 0

module _ (p p' : Plan) (m : OneMore p p') (z : plan_refusal p ≡ 0) where
  -- ---- the tables of the oracles of p

  few : oracles p ≤ max_oracles
  few = (counts_of_lem p (accepted_plan p z).counts).oracles≤

  same_letters : letters p' ≡ letters p
  same_letters = ap (2 ^◌) (same_propositions p p' m)

  same_oracle_states : (n : ℕ) → n < oracles p → oracle_states p' n ≡ oracle_states p n
  unfolding oracle_states
  same_oracle_states zero h = same_first_states p p' m
  same_oracle_states (suc k) h = m.same_states k (le_of_suc-le-suc h)

  same_states_before : (n : ℕ) → n ≤ oracles p → states_before p' n ≡ states_before p n
  unfolding states_before
  same_states_before zero h = refl
  same_states_before (suc n) h = ap₂ ◌+◌ (same_states_before n (omega arith)) (same_oracle_states n h)

  module _ (n q : ℕ) (h : n < oracles p) (l : q < oracle_states p n) where
    -- the row of a state of an oracle of p has the same bytes
    oracle_row : Alike p p' (oracle_at p n q) (oracle_at p' n q) (1 + letters p)
    unfolding section_size
    oracle_row =
        let end = states_end p n max_oracles (omega (arith, few)) in
        rw (same_letters, same_states_before n (omega arith))
        (row p p' m 6 (1 + letters p) (states_before p max_oracles) (states_before p n + q) (omega arith) refl (omega (arith, end)))

    same_verdict : verdict p' n q ≡ verdict p n q
    unfolding verdict
    same_verdict = same_byte oracle_row (omega arith)

    same_next : (a : ℕ) → a < letters p → next p' n q a ≡ next p n q a
    unfolding next
    same_next a s = oracle_row.at (1 + a) (omega arith)

  -- ---- what they say

  -- an oracle of p that has read the event of the same state, from the same state of its own, is in the same state
  shared_judged : (c c' : Configuration) → SameShared p c c' → oracles_in_range p c.oracles ≡ true
      → SameShared p (judged p c.oracles c.state) (judged p' c'.oracles c'.state)
  unfolding judged
  shared_judged c c' s r =
      record {
        same_state = s.same_state;
        same_oracles = λ n l.
            let k : n < max_oracles = omega (arith, few) in
            let q = get_or c.oracles n 0 in
            used_reads p' c'.oracles (letter p' c'.state) n k (omega (arith, m.one_more))
            ∙ ap₂ (next p' n) (s.same_oracles n l) (ap (letter p') s.same_state ∙ same_letter p p' m z c.state)
            ∙ same_next n q l (range_lt p n q l (range_at p c.oracles r n k)) (letter p c.state) (letter_lt p c.state)
            ∙ sym (used_reads p c.oracles (letter p c.state) n k l);
      }

  module _ (c c' : Configuration) (s : SameShared p c c') (r : oracles_in_range p c.oracles ≡ true) where
    -- where every oracle of p' says v or more every oracle of p does
    pub shared_reaches : (v : ℕ) → reaches p' v c'.oracles ≡ true → reaches p v c.oracles ≡ true
    shared_reaches v g =
        reaches_exactly p v c.oracles
        ∙ every_all (oracles p) (λ n. leb v (verdict p n (get_or c.oracles n 0)))
        (λ n l.
        let q = get_or c.oracles n 0 in
        let same : verdict p' n (get_or c'.oracles n 0) ≡ verdict p n q
        = ap (verdict p' n) (s.same_oracles n l) ∙ same_verdict n q l (range_lt p n q l (range_at p c.oracles r n (omega (arith, few)))) in
        rw same at (every-at (oracles p') (λ n. leb v (verdict p' n (get_or c'.oracles n 0))) (sym (reaches_exactly p' v c'.oracles) ∙ g) n
        (omega (arith, m.one_more))))

    -- so the verdict of p' is at most that of p
    pub shared_verdict : verdict_of p' c' ≤ verdict_of p c
    unfolding reaches
    shared_verdict = leb-true (verdict_of p' c') _ (shared_reaches (verdict_of p' c') (le_leb _ _ (le_refl (verdict_of p' c'))))

    shared_good : good p' c' ≡ true → good p c ≡ true
    unfolding good
    shared_good = shared_reaches 2

  -- ---- one move

  -- the oracles stay in range
  in_range_after : (c : Configuration) (i : ℕ) → oracles_in_range p c.oracles ≡ true → oracles_in_range p (after p c i).oracles ≡ true
  unfolding after judged
  in_range_after c i r =
      let t = fired p c.state i in next_states_in_range p (accepted_plan p z) c.oracles (letter p t) r (letter_lt p t)

  module _ (c c' : Configuration) (s : SameShared p c c') (r : oracles_in_range p c.oracles ≡ true)
      (i : ℕ) (l : i < interactions p) (e : enabled p c.state i ≡ true) where
    -- after an enabled interaction too the two agree in the state and in the oracles of p
    pub shared_after : SameShared p (after p c i) (after p' c' i)
    unfolding after
    shared_after =
        shared_judged (record { state = fired p c.state i; oracles = c.oracles }) (record { state = fired p' c'.state i; oracles = c'.oracles })
        (record { same_state = ap (λ t. fired p' t i) s.same_state ∙ same_move p p' m z c.state i l e; same_oracles = s.same_oracles }) r

    -- a move that leads to a verdict of v or more with the added oracle does so without it
    pub adding_reaches : (v : ℕ) → reaches p' v (after p' c' i).oracles ≡ true → reaches p v (after p c i).oracles ≡ true
    adding_reaches = shared_reaches (after p c i) (after p' c' i) shared_after (in_range_after c i r)

    -- "The verdict of a move .. is the lowest of all the oracles' verdicts": with the added oracle it is at most that without it
    pub adding_lowers : verdict_of p' (after p' c' i) ≤ verdict_of p (after p c i)
    adding_lowers = shared_verdict (after p c i) (after p' c' i) shared_after (in_range_after c i r)

    -- a bad move of 9, 20 and a list, one of verdict 0, stays one
    pub zero_stays_zero : verdict_of p (after p c i) ≡ 0 → verdict_of p' (after p' c' i) ≡ 0
    zero_stays_zero z = let l = adding_lowers in omega (arith, l, z)

    -- a move that is good with the added oracle is good without it
    pub adding_never_good : good p' (after p' c' i) ≡ true → good p (after p c i) ≡ true
    unfolding good
    adding_never_good = adding_reaches 2

    -- "From one state, adding an oracle never turns a bad move good"
    pub bad_stays_bad : good p (after p c i) ≡ false → good p' (after p' c' i) ≡ false
    bad_stays_bad b = bool_cases (good p' (after p' c' i)) (λ g. absurd_bool (adding_never_good g) b) (λ g. g)

  -- a move that is enabled and leads to v or more with the added oracle does so without it
  pub leads_without : (v : ℕ) (c c' : Configuration) → SameShared p c c' → oracles_in_range p c.oracles ≡ true → (i : ℕ)
      → i < interactions p → leads p' v c' i ≡ true → leads p v c i ≡ true
  leads_without v c c' s r i l h =
      let e : enabled p c.state i ≡ true = sym (same_enabled p p' m z c.state i l) ∙ (rw s.same_state at (leads-enabled p' v c' i h)) in
      leads-from p v c i e (adding_reaches c c' s r i l e v (leads_reaches p' v c' i h))

  -- a move that is enabled and ends good with the added oracle is so without it; which of them may be committed depends on those above
  pub safe_without : (c c' : Configuration) → SameShared p c c' → oracles_in_range p c.oracles ≡ true → (i : ℕ) → i < interactions p
      → safe p' c' i ≡ true → safe p c i ≡ true
  unfolding safe
  safe_without = leads_without 2

  -- ---- the starting state

  -- the two begin in the same state, and with the oracles of p in the same states
  pub shared_initial : SameShared p (initial p) (initial p')
  unfolding initial
  shared_initial =
      let starts : start_states p' ≡ start_states p = rw (same_first_oracle p p' m) in
      shared_judged (record { state = initial_state p; oracles = start_states p }) (record { state = initial_state p'; oracles = start_states p' })
      (record { same_state = same_initial p p' m; same_oracles = λ n l. ap (λ (qs : List ℕ). get_or qs n 0) starts })
      (start_in_range p (accepted_plan p z))

  start_range : oracles_in_range p (initial p).oracles ≡ true
  start_range = (sound_initial p (accepted_plan p z)).in_range

  -- the verdict of the starting state too is at most that without the added oracle
  pub start_lowers : verdict_of p' (initial p') ≤ verdict_of p (initial p)
  start_lowers = shared_verdict (initial p) (initial p') shared_initial start_range

  -- a starting state that is good with the added oracle is good without it
  pub good_start : good p' (initial p') ≡ true → good p (initial p) ≡ true
  good_start = shared_good (initial p) (initial p') shared_initial start_range
