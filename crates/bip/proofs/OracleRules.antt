-- The oracles of a plan as one: they read an event as the engine's definition has it, and their verdict is the lowest (002 definition 14; 02, job 1).
use mathlib.Core.Path.{◌≡◌, sym, ◌∙◌, subst}
use mathlib.Core.Logic.{◌↔◌, ◌⊎◌, inl, inr}
use Prim.Native.Nat.{ℕ, zero, suc, ◌≤◌, ◌<◌, zero-le, suc-le-suc}
use native.Mathlib.Nat.{le_of_suc-le-suc}
use native.Mathlib.Omega.{arith}
use mathlib.Core.Bool.{true}
use mathlib.Core.List.{List}
use lib.ListN.{get_or}
use lib.Seq.{ext_get_or}
use lib.Dec.{ltb}
use Rattle.semantics.specs.Plan.{Plan, max_oracles, added_oracles, oracles, verdict}
use Rattle.semantics.specs.Rules.{plan_refusal}
use Rattle.semantics.specs.Move.{next_states, oracles_in_range, lowest_verdict}
use Rattle.bip.specs.Steps.{Path}
use Rattle.bip.specs.Monitor.{Letter, ReadsAlone, reads, AllowsAlone, Reads, Verdict, Allows, Forbids}
use Rattle.semantics.proofs.Basics.{bool_cases, ltb-true, ltb-false}
use Rattle.semantics.proofs.AcceptedPlan.{accepted_plan}
use Rattle.semantics.proofs.Oracles.{length_next_states, used_reads, unused_reads, next_states_in_range, lowest_at_most, lowest_of_some}
use Rattle.bip.proofs.Paths.{path_keeps, path_once, path_exists, path_part}
use Rattle.bip.proofs.OracleTables.{reads_is_alone, ForbidsAlone, forbids_2, placed, own_in_range, bad_for_good_alone, true_stays_alone, allows_or_forbids_alone}

-- ---- reading

-- 002 definition 14: the oracles' transition function
pub reads_is : {p : Plan} {θ θ' : List ℕ} {e : Letter p} → Reads p θ e θ' → θ' ≡ next_states p θ e.0
reads_is {p} {θ} {θ'} {e} r =
    ext_get_or 0 θ' (next_states p θ e.0) (r.long ∙ sym (length_next_states p θ e.0))
    (λ n m.
    let l : n < max_oracles = subst (λ (k : ℕ). n < k) r.long m in
    bool_cases (ltb n (oracles p))
    (λ t. let u = ltb-true n (oracles p) t in reads_is_alone (r.together n l u) ∙ sym (used_reads p θ e.0 n l u))
    (λ t. let u = ltb-false n (oracles p) t in r.unused n l u ∙ sym (unused_reads p θ e.0 n l u)))

pub reads_next : (p : Plan) (θ : List ℕ) (e : Letter p) → Reads p θ e (next_states p θ e.0)
reads_next p θ e =
    record {
      long = length_next_states p θ e.0;
      together = λ n l u. subst (ReadsAlone p n (get_or θ n 0) e) (sym (used_reads p θ e.0 n l u)) reads;
      unused = unused_reads p θ e.0;
    }

pub reads_once : {p : Plan} {θ θ' θ'' : List ℕ} {σ : List (Letter p)} → Path (Reads p) θ σ θ' → Path (Reads p) θ σ θ'' → θ' ≡ θ''
reads_once = path_once (λ θ e t u q r. reads_is q ∙ sym (reads_is r))

-- ---- verdicts

module _ (p : Plan) (θ : List ℕ) where
  verdict-lowest : Verdict p θ (lowest_verdict p θ (added_oracles p))
  verdict-lowest =
      let (n, l, e) = lowest_of_some p θ (added_oracles p) in
      record { reached = (n, suc-le-suc l, e); lowest = λ m k. lowest_at_most p θ (added_oracles p) m (le_of_suc-le-suc k) }

  -- 02, job 1: the verdict is the one that the engine's definition gives
  pub verdict_exactly : (v : ℕ) → Verdict p θ v ↔ v ≡ lowest_verdict p θ (added_oracles p)
  verdict_exactly v = (is, λ e. subst (Verdict p θ) (sym e) verdict-lowest)
    where
      is : Verdict p θ v → v ≡ lowest_verdict p θ (added_oracles p)
      is h =
          let (n, l, e) = lowest_of_some p θ (added_oracles p) in
          let (m, k, f) = h.reached in
          omega (arith, e, f, h.lowest n (suc-le-suc l), lowest_at_most p θ (added_oracles p) m (le_of_suc-le-suc k))

  -- some oracle's verdict is that of all
  decides : (n : ℕ) × (n < oracles p) × ((v : ℕ) → verdict p n (get_or θ n 0) ≡ v → Verdict p θ v)
  decides =
      let (n, l, e) = lowest_of_some p θ (added_oracles p) in
      (n, suc-le-suc l, λ v f. (verdict_exactly v).1 (sym f ∙ e))

  -- 002 definition 14: a verdict that allows is 2 or more,
  allowed_2 : Allows p θ → 2 ≤ lowest_verdict p θ (added_oracles p)
  allowed_2 (inl a) = let e = (verdict_exactly 3).0 a in omega (arith, e)
  allowed_2 (inr a) = let e = (verdict_exactly 2).0 a in omega (arith, e)

  -- one that forbids is less, and any that is less forbids
  pub forbidden_exactly : Forbids p θ ↔ lowest_verdict p θ (added_oracles p) < 2
  forbidden_exactly = (less, λ l. by_number _ l verdict-lowest)
    where
      less : Forbids p θ → lowest_verdict p θ (added_oracles p) < 2
      less (inl f) = let e = (verdict_exactly 0).0 f in omega (arith, e)
      less (inr f) = let e = (verdict_exactly 1).0 f in omega (arith, e)

      by_number : (v : ℕ) → v < 2 → Verdict p θ v → Forbids p θ
      by_number zero l h = inl h
      by_number (suc zero) l h = inr h
      by_number (suc (suc v)) l h = absurd (omega arith)

  -- 02, job 1: where one oracle forbids, they forbid together
  pub one_forbids : (n : ℕ) → n < oracles p → ForbidsAlone p n (get_or θ n 0) → Forbids p θ
  one_forbids n l f =
      forbidden_exactly.1 (let h = forbids_2 p n (get_or θ n 0) f in let k = lowest_at_most p θ (added_oracles p) n (le_of_suc-le-suc l) in omega (arith, h, k))

  allows_as : (n : ℕ) → ((v : ℕ) → verdict p n (get_or θ n 0) ≡ v → Verdict p θ v) → AllowsAlone p n (get_or θ n 0) → Allows p θ
  allows_as n is (inl a) = inl (is 3 a)
  allows_as n is (inr a) = inr (is 2 a)

  -- where every oracle allows, they allow together
  pub all_allow : ((n : ℕ) → n < oracles p → AllowsAlone p n (get_or θ n 0)) → Allows p θ
  all_allow each = let (n, l, is) = decides in allows_as n is (each n l)

  -- 002 definition 14: a verdict that allows is not one that forbids.
  pub not_both : Allows p θ → Forbids p θ → ⊥
  not_both a f = let h = allowed_2 a in let k = forbidden_exactly.0 f in omega (arith, h, k)

-- ---- the tables of an accepted plan

module _ (p : Plan) (accepted : plan_refusal p ≡ 0) where
  reads_in_range : (θ : List ℕ) (e : Letter p) (θ' : List ℕ) → Reads p θ e θ' → oracles_in_range p θ ≡ true → oracles_in_range p θ' ≡ true
  reads_in_range θ e θ' r l = rw (reads_is r) (next_states_in_range p (accepted_plan p accepted) θ e.0 l e.1)

  pub path_in_range : {θ θ' : List ℕ} {σ : List (Letter p)} → Path (Reads p) θ σ θ' → oracles_in_range p θ ≡ true → oracles_in_range p θ' ≡ true
  path_in_range = path_keeps (λ θ. oracles_in_range p θ ≡ true) reads_in_range

  -- 002 definition 14: the oracles' transition function is complete.
  pub oracles_read : (θ : List ℕ) → oracles_in_range p θ ≡ true → (σ : List (Letter p)) → (θ' : List ℕ) × Path (Reads p) θ σ θ' × (oracles_in_range p θ' ≡ true)
  oracles_read =
      path_exists (λ θ. oracles_in_range p θ ≡ true) (λ θ e l. (next_states p θ e.0, reads_next p θ e, reads_in_range θ e _ (reads_next p θ e) l))

  -- what the oracles read, each of them reads
  pub path_alone : (n : ℕ) → n < oracles p → {θ θ' : List ℕ} {σ : List (Letter p)} → Path (Reads p) θ σ θ' → Path (ReadsAlone p n) (get_or θ n 0) σ (get_or θ' n 0)
  path_alone n l = path_part (λ (θ : List ℕ). get_or θ n 0) (λ θ e θ' r. r.together n (placed p accepted n l) l)

  module _ (θ : List ℕ) (low : oracles_in_range p θ ≡ true) (n : ℕ) (used : n < oracles p) where
    alone : AllowsAlone p n (get_or θ n 0) ⊎ ForbidsAlone p n (get_or θ n 0)
    alone = allows_or_forbids_alone p accepted n used (get_or θ n 0) (own_in_range p accepted n used θ low)

    -- and where they allow together, every oracle allows
    pub each_allows : Allows p θ → AllowsAlone p n (get_or θ n 0)
    each_allows a = elim alone [ inl b ↦ b | inr f ↦ absurd (not_both p θ a (one_forbids p θ n used f)) ]

    -- where their verdict is ⊤, so is the verdict of every oracle
    pub each_true : Verdict p θ 3 → verdict p n (get_or θ n 0) ≡ 3
    each_true v = elim (each_allows (inl v)) [ inl a ↦ a | inr a ↦ omega (arith, a, v.lowest n used) ]

  -- 01 refusals 9 and 20, as 02, job 6, leaves them: their verdict is one of 𝔹₄.
  pub allows_or_forbids : (θ : List ℕ) → oracles_in_range p θ ≡ true → Allows p θ ⊎ Forbids p θ
  allows_or_forbids θ low = let (n, l, is) = decides p θ in elim (alone θ low n l) [ inl a ↦ inl (allows_as p θ n is a) | inr f ↦ inr (one_forbids p θ n l f) ]

  module _ (θ θ' : List ℕ) (σ : List (Letter p)) (low : oracles_in_range p θ ≡ true) (r : Path (Reads p) θ σ θ') where
    -- 01 refusals 9 and 20: from a bad state the oracles reach only bad ones.
    pub bad_for_good : Verdict p θ 0 → Verdict p θ' 0
    bad_for_good f =
        let (n, l, e) = f.reached in
        record {
          reached = (n, l, bad_for_good_alone p accepted n l (get_or θ n 0) (get_or θ' n 0) σ (own_in_range p accepted n l θ low) (path_alone n l r) e);
          lowest = λ m k. zero-le;
        }

    -- 01 refusals 9 and 20: from a 3 state the oracles reach only 3 states.
    pub true-stays : Verdict p θ 3 → Verdict p θ' 3
    true-stays v = let (n, l, is) = decides p θ' in is 3 (stays n l)
      where
        stays : (n : ℕ) → n < oracles p → verdict p n (get_or θ' n 0) ≡ 3
        stays n l =
            true_stays_alone p accepted n l (get_or θ n 0) (get_or θ' n 0) σ (own_in_range p accepted n l θ low) (path_alone n l r)
            (each_true θ low n l v)
