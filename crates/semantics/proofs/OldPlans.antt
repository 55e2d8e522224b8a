-- "Old plans and images mean what they meant" (02, job 1), the plan and the move: where a plan's bytes 42 to 45 are zero, each definition that moved
-- equals its old form. OldMeaning has the old forms; OldImages goes on to the image and the calls.
use mathlib.Core.Path.{◌≡◌, refl, ap, ap₂, ◌∙◌}
use Prim.Native.Nat.{ℕ, zero, suc, ◌+◌, ◌<◌}
use native.Mathlib.Nat.{zero-add}
use native.Mathlib.Omega.{arith}
use mathlib.Core.Bool.{true, not, ◌&&◌, and-true}
use mathlib.Core.List.{List, [], ◌∷◌, ◌++◌}
use lib.ListN.{length, get_or}
use lib.Dec.{ltb, eqb}
use Rattle.semantics.specs.Bytes.{byte, le_bytes, all_of, every, some_below, lowest}
use Rattle.semantics.specs.Plan.{Plan, max_oracles, total_length, interactions, added_oracles, oracle_states, letters, section, states_before, section_size, section_start, below, verdict, next}
use Rattle.semantics.specs.Code.{State}
use Rattle.semantics.specs.Refusal.{Rule, unless, refusal}
use Rattle.semantics.specs.Rules.{head_ok, state_count_ok, oracle_counts_ok, counts_ok, layout_ok, verdict_ok, follower_ok, oracle_ok, table_ok, plan_rules, plan_refusal}
use Rattle.semantics.specs.Move.{Configuration, enabled, fired, letter, next_states, judged, after, initial_state, lowest_verdict, reaches, good, tolerable, leads, leads_above, safe, dominated, may_commit, safe_move, replay, initial}
use Rattle.semantics.specs.Load.{passable, blocked, entry_allowed, stops_at, completes}
use Rattle.semantics.specs.Sample.{joined, places, sections, counts, offsets, written, scale, sample}
use Rattle.semantics.proofs.Basics.{eqb-true, every-at}
use Rattle.semantics.proofs.OldMeaning as old
use Rattle.semantics.proofs.Oracles.{first_reads}

-- A plan that carries no added oracle: bytes 42 to 45 are zero.
pub record OldPlan (p : Plan) : Type 0 where
  pub plan_zero : (k : ℕ) → k < 4 → byte p (42 + k) ≡ 0

-- 01's sample lane is one.
pub sample_old : OldPlan sample
unfolding sample scale written sections counts places offsets joined le_bytes every
sample_old = record { plan_zero = λ k l. eqb-true _ _ (every-at 4 (λ n. eqb (byte sample (42 + n)) 0) refl k l) }

-- ---- the first oracle's table, of any plan

-- The verdict of a state of the first oracle.
pub same_verdict : (p : Plan) (q : ℕ) → verdict p 0 q ≡ old.verdict p q
unfolding verdict old.verdict states_before
same_verdict p q = rw zero-add

-- The next state of the first oracle at a letter.
pub same_next : (p : Plan) (q a : ℕ) → next p 0 q a ≡ old.next p q a
unfolding next old.next states_before
same_next p q a = rw zero-add

-- Rule 9 at one follower.
pub same_follower : (p : Plan) (q r : ℕ) → follower_ok p 0 q r ≡ old.follower_ok p q r
unfolding follower_ok old.follower_ok oracle_states
same_follower p q r = rw (same_verdict p q, same_verdict p r)

-- Rule 9 at one state.
pub same_oracle : (p : Plan) (q : ℕ) → oracle_ok p 0 q ≡ old.oracle_ok p q
unfolding oracle_ok old.oracle_ok
same_oracle p q = λ i. all_of (verdict_ok (same_verdict p q i) ∷ every (letters p) (λ a. same_follower p q (same_next p q a i) i) ∷ [])

-- Rule 9.
pub same_table : (p : Plan) → table_ok p 0 ≡ every (old.oracle_states p) (old.oracle_ok p)
unfolding table_ok oracle_states
same_table p = λ i. every (old.oracle_states p) (λ q. same_oracle p q i)

-- ---- the plan's refusals

module _ (p : Plan) (o : OldPlan p) where
  -- bytes 42 to 45
  pub none_added : added_oracles p ≡ 0
  none_added = o.plan_zero 0 (omega arith)

  zero_43 : byte p 43 ≡ 0
  zero_43 = o.plan_zero 1 (omega arith)

  zero_44 : byte p 44 ≡ 0
  zero_44 = o.plan_zero 2 (omega arith)

  zero_45 : byte p 45 ≡ 0
  zero_45 = o.plan_zero 3 (omega arith)

  -- Rule 1.
  pub same_head : head_ok p ≡ old.head_ok p
  unfolding head_ok old.head_ok every
  same_head = rw (none_added, zero_43, zero_44, zero_45)

  -- Rule 2.
  pub same_counts : counts_ok p ≡ old.counts_ok p
  unfolding counts_ok oracle_counts_ok old.counts_ok state_count_ok oracle_states all_of every
  same_counts = rw (none_added, zero_43, zero_44, zero_45) (simp and-true)

  -- All oracle states are the first oracle's.
  pub same_states : states_before p max_oracles ≡ old.oracle_states p
  unfolding states_before oracle_states
  same_states = rw (zero_43, zero_44, zero_45) (omega arith)

  -- The size of a section.
  pub same_size : (n : ℕ) → section_size p n ≡ old.section_size p n
  unfolding section_size old.section_size
  same_size n = rw same_states

  -- The place where a section begins.
  pub same_section : (n : ℕ) → section_start p n ≡ old.section_start p n
  unfolding section_start old.section_start
  same_section zero = refl
  same_section (suc n) = ap₂ ◌+◌ (same_section n) (same_size n)

  -- Rule 3.
  pub same_layout : layout_ok p ≡ old.layout_ok p
  unfolding layout_ok old.layout_ok
  same_layout =
      λ i. all_of (every 8 (λ n. eqb (section p n) (same_section n i)) ∷ eqb (total_length p) (same_section 8 i) ∷ eqb (length p) (same_section 8 i) ∷ [])

  -- Rule 20, which is new, is kept.
  pub none_to_test : every (added_oracles p) (λ k. table_ok p (suc k)) ≡ true
  unfolding every
  none_to_test = rw none_added

  -- The first broken rule among the plan's and others after them.
  pub same_rules : (rs qs : List Rule) → refusal rs ≡ refusal qs → refusal (plan_rules p ++ rs) ≡ refusal (old.plan_rules p ++ qs)
  unfolding refusal unless plan_rules old.plan_rules
  same_rules rs qs e = rw (same_head, same_counts, same_layout, same_table p, none_to_test, e)

  -- The refusal of the plan.
  pub same_refusal : plan_refusal p ≡ old.plan_refusal p
  unfolding plan_refusal old.plan_refusal plan_rules old.plan_rules
  same_refusal = same_rules [] [] refl

-- ---- one move

-- An old configuration as it is now: the oracle's state in the first of four places.
abbrev pub as_now : old.Configuration → Configuration
as_now c = record { state = c.state; oracles = c.oracle ∷ 0 ∷ 0 ∷ 0 ∷ [] }

-- A configuration by its first oracle alone.
abbrev pub as_old : Configuration → old.Configuration
as_old c = record { state = c.state; oracle = get_or c.oracles 0 0 }

-- So a theorem on c and as_old c is, at as_now c, one on as_now c and c.
pub old_now : (c : old.Configuration) → as_old (as_now c) ≡ c
old_now c = refl

module _ (p : Plan) (o : OldPlan p) where
  -- The oracles' states after a letter: the first one's next state, and 0 in the unused places.
  pub same_next_states : (qs : List ℕ) (a : ℕ) → next_states p qs a ≡ old.next p (get_or qs 0 0) a ∷ 0 ∷ 0 ∷ 0 ∷ []
  same_next_states qs a = first_reads p qs a (none_added p o) ∙ ap (λ (q : ℕ). q ∷ 0 ∷ 0 ∷ 0 ∷ []) (same_next p (get_or qs 0 0) a)

  -- A state judged, the first oracle in the first of the states qs: q where qs is q ∷ 0 ∷ 0 ∷ 0 ∷ [].
  pub same_judged : (qs : List ℕ) (s : State) → judged p qs s ≡ as_now (old.judged p (get_or qs 0 0) s)
  unfolding judged old.judged
  same_judged qs s = λ i. record { state = s; oracles = same_next_states qs (letter p s) i }

  -- The configuration after a move.
  pub same_after : (c : Configuration) (i : ℕ) → after p c i ≡ as_now (old.after p (as_old c) i)
  unfolding after old.after
  same_after c i = same_judged c.oracles (fired p c.state i)

  -- The starting configuration.
  pub same_initial : initial p ≡ as_now (old.initial p)
  unfolding initial old.initial
  same_initial = same_judged _ (initial_state p)

  -- Good: the lowest verdict is the first oracle's.
  pub same_good : (c : Configuration) → good p c ≡ old.good p (as_old c)
  unfolding good reaches lowest_verdict old.good
  same_good c = rw (none_added p o, same_verdict p (get_or c.oracles 0 0))

  -- The same of a verdict that is not 0.
  pub same_tolerable : (c : Configuration) → tolerable p c ≡ old.tolerable p (as_old c)
  unfolding tolerable reaches lowest_verdict old.tolerable
  same_tolerable c = rw (none_added p o, same_verdict p (get_or c.oracles 0 0))

  -- A move ends good.
  pub same_good_after : (c : Configuration) (i : ℕ) → good p (after p c i) ≡ old.good p (old.after p (as_old c) i)
  same_good_after c i = rw (same_after c i) (same_good (as_now (old.after p (as_old c) i)))

  -- A move is enabled and ends good.
  pub same_safe : (c : Configuration) (i : ℕ) → safe p c i ≡ old.safe p (as_old c) i
  unfolding safe leads good old.safe
  same_safe c i = λ k. all_of (enabled p c.state i ∷ same_good_after c i k ∷ [])

  -- A move may be committed.
  pub same_may_commit : (c : Configuration) (i : ℕ) → may_commit p c i ≡ old.may_commit p (as_old c) i
  unfolding may_commit old.may_commit dominated leads_above safe old.dominated
  same_may_commit c i = λ k. all_of (same_safe c i k ∷ not (some_below (interactions p) (λ j. below p i j && same_safe c j k)) ∷ [])

  -- The move that settling commits.
  pub same_safe_move : (c : Configuration) → safe_move p c ≡ old.safe_move p (as_old c)
  unfolding safe_move old.safe_move
  same_safe_move c = λ i. lowest (interactions p) (λ k. same_may_commit c k i)

  -- ---- a list

  -- A move is enabled and its verdict is not 0.
  pub same_passable : (c : Configuration) (i : ℕ) → passable p c i ≡ old.passable p (as_old c) i
  unfolding passable leads tolerable old.passable
  same_passable c i =
      λ k. all_of (enabled p c.state i ∷ (same_tolerable (after p c i) ∙ ap (λ (d : Configuration). old.tolerable p (as_old d)) (same_after c i)) k ∷ [])

  -- An entry is allowed.
  pub same_entry : (c : Configuration) (i : ℕ) → entry_allowed p c i ≡ old.entry_allowed p (as_old c) i
  unfolding entry_allowed blocked leads_above passable old.entry_allowed
  same_entry c i =
      λ k. all_of (ltb i (interactions p) ∷ same_passable c i k ∷ not (some_below (interactions p) (λ j. below p i j && same_passable c j k)) ∷ [])

  -- Where a list stops.
  pub same_stops : (c : Configuration) (is : List ℕ) → stops_at p c is ≡ old.stops_at p (as_old c) is
  unfolding stops_at old.stops_at
  same_stops c [] = refl
  same_stops c (i ∷ is) = rw (same_entry c i, same_stops (after p c i) is, same_after c i)

  -- The configuration after several moves.
  pub same_replay : (c : old.Configuration) (is : List ℕ) → replay p (as_now c) is ≡ as_now (old.replay p c is)
  unfolding replay old.replay
  same_replay c [] = refl
  same_replay c (i ∷ is) = ap (λ (d : Configuration). replay p d is) (same_after (as_now c) i) ∙ same_replay (old.after p c i) is

  -- A list completes.
  pub same_completes : (c : old.Configuration) (is : List ℕ) → completes p (as_now c) is ≡ old.completes p c is
  unfolding completes old.completes
  same_completes c is = rw (same_stops (as_now c) is, same_replay c is, same_good (as_now (old.replay p c is)))
