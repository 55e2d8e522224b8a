-- Each oracle of an accepted plan, alone: what its verdicts say, and where its table denotes a safety property, which is 1-step tolerant (002 section 4, definition 14
-- and proposition 2).
use mathlib.Core.Path.{◌≡◌, refl, sym, ◌∙◌, subst}
use mathlib.Core.Logic.{◌⊎◌, inl, inr}
use Prim.Native.Nat.{ℕ, zero, suc, ◌≤◌, ◌<◌}
use native.Mathlib.Nat.{le_trans}
use native.Mathlib.Omega.{arith}
use mathlib.Core.Bool.{true}
use mathlib.Core.List.{List, ◌++◌}
use lib.ListN.{get_or}
use lib.Dec.{eqb}
use Rattle.semantics.specs.Bytes.{implies}
use Rattle.semantics.specs.Plan.{Plan, max_oracles, oracles, start_states, letters, verdict, next}
use Rattle.semantics.specs.Rules.{verdict_ok, follower_ok, oracle_ok, plan_refusal}
use Rattle.semantics.specs.Move.{state_in_range, oracles_in_range}
use Rattle.bip.specs.Steps.{Path}
use Rattle.bip.specs.Property.{false_for_good, true_for_good, Evaluates, always, never, Safety, Tolerant}
use Rattle.bip.specs.Monitor.{Letter, ReadsAlone, reads, AllowsAlone, DenotesAlone}
use Rattle.semantics.proofs.Basics.{each, every-at, implies-at, leb-true, eqb-true, eq-eqb}
use Rattle.semantics.proofs.AcceptedPlan.{accepted_plan}
use Rattle.semantics.proofs.Oracles.{range_at, range_lt, next_in_range, start_in_range}
use Rattle.bip.proofs.Components.{counted}
use Rattle.bip.proofs.Paths.{path_split, path_join, path_keeps, path_once, path_exists}
use Rattle.bip.proofs.SafetyProperty.{safety_tolerant, Judges}

-- 002 definition 14: an oracle's transition function
pub reads_is_alone : {p : Plan} {n θ θ' : ℕ} {e : Letter p} → ReadsAlone p n θ e θ' → θ' ≡ next p n θ e.0
reads_is_alone {p} {n} {θ} {θ'} {e} r = led e θ' r
  where
    led : (e : Letter p) (θ' : ℕ) → ReadsAlone p n θ e θ' → θ' ≡ next p n θ e.0
    led e θ' reads = refl

pub reads_once_alone : {p : Plan} {n θ θ' θ'' : ℕ} {σ : List (Letter p)} → Path (ReadsAlone p n) θ σ θ' → Path (ReadsAlone p n) θ σ θ'' → θ' ≡ θ''
reads_once_alone = path_once (λ θ e t u q r. reads_is_alone q ∙ sym (reads_is_alone r))

-- verdict(θ) ∈ {⊥, ⊥_c}, of oracle n
abbrev pub ForbidsAlone : Plan → ℕ → ℕ → Type 0
ForbidsAlone p n θ = (verdict p n θ ≡ 0) ⊎ (verdict p n θ ≡ 1)

-- 002 definition 14: a verdict that allows is 2 or more,
allows_2 : (p : Plan) (n θ : ℕ) → AllowsAlone p n θ → 2 ≤ verdict p n θ
allows_2 p n θ (inl a) = let h : verdict p n θ ≡ 3 = a in omega (arith, h)
allows_2 p n θ (inr a) = let h : verdict p n θ ≡ 2 = a in omega (arith, h)

-- one that forbids is less,
pub forbids_2 : (p : Plan) (n θ : ℕ) → ForbidsAlone p n θ → verdict p n θ < 2
forbids_2 p n θ (inl f) = let h : verdict p n θ ≡ 0 = f in omega (arith, h)
forbids_2 p n θ (inr f) = let h : verdict p n θ ≡ 1 = f in omega (arith, h)

-- and none does both
not_both_alone : (p : Plan) (n θ : ℕ) → AllowsAlone p n θ → ForbidsAlone p n θ → ⊥
not_both_alone p n θ a f = let h = allows_2 p n θ a in let k = forbids_2 p n θ f in omega (arith, h, k)

lawful_verdict : (v : ℕ) → verdict_ok v ≡ true → ((v ≡ 3) ⊎ (v ≡ 2)) ⊎ ((v ≡ 0) ⊎ (v ≡ 1))
unfolding verdict_ok
lawful_verdict zero e = inr (inl refl)
lawful_verdict (suc zero) e = inr (inr refl)
lawful_verdict (suc (suc zero)) e = inl (inr refl)
lawful_verdict (suc (suc (suc zero))) e = inl (inl refl)
lawful_verdict (suc (suc (suc (suc v)))) e = let h : suc (suc (suc (suc v))) ≤ 3 = leb-true _ 3 e in absurd (omega arith)

-- no state of oracle n has verdict 1, as in every plan before 02, job 6
abbrev pub NeverOne : Plan → ℕ → Type 0
NeverOne p n = (θ : ℕ) → state_in_range p n θ ≡ true → verdict p n θ ≡ 1 → ⊥

module _ (p : Plan) (accepted : plan_refusal p ≡ 0) (n : ℕ) (used : n < oracles p) where
  -- an oracle of the plan has a place among the four, and its state there is in range where all are
  pub placed : n < max_oracles
  placed = le_trans used (counted p accepted).oracles≤

  pub own_in_range : (θ : List ℕ) → oracles_in_range p θ ≡ true → state_in_range p n (get_or θ n 0) ≡ true
  own_in_range θ low = range_at p θ low n placed

  -- 01 refusals 9 and 20, on one state of the oracle
  lawful : (θ : ℕ) → state_in_range p n θ ≡ true → oracle_ok p n θ ≡ true
  lawful θ l = (accepted_plan p accepted).oracle n used θ (range_lt p n θ used l)

  -- 01 refusals 9 and 20, on one transition of the oracle
  follower : (θ : ℕ) (e : Letter p) (θ' : ℕ) → ReadsAlone p n θ e θ' → state_in_range p n θ ≡ true → follower_ok p n θ θ' ≡ true
  unfolding oracle_ok
  follower θ e θ' reads l = every-at (letters p) _ (each _ (lawful θ l)).1.0 e.0 e.1

  reads_in_range : (θ : ℕ) (e : Letter p) (θ' : ℕ) → ReadsAlone p n θ e θ' → state_in_range p n θ ≡ true → state_in_range p n θ' ≡ true
  reads_in_range θ e θ' reads l = next_in_range p (accepted_plan p accepted) n used θ e.0 l e.1

  -- 002 definition 14: an oracle's transition function is complete.
  pub oracle_reads : (θ : ℕ) → state_in_range p n θ ≡ true → (σ : List (Letter p)) → (θ' : ℕ) × Path (ReadsAlone p n) θ σ θ' × (state_in_range p n θ' ≡ true)
  oracle_reads = path_exists (λ θ. state_in_range p n θ ≡ true) (λ θ e l. (next p n θ e.0, reads, reads_in_range θ e _ reads l))

  -- a verdict that refusals 9 and 20 have each follower keep, every state reached has
  verdict-kept : (v : ℕ) → ((θ θ' : ℕ) → follower_ok p n θ θ' ≡ true → implies (eqb (verdict p n θ) v) (eqb (verdict p n θ') v) ≡ true)
      → (θ θ' : ℕ) (σ : List (Letter p)) → state_in_range p n θ ≡ true → Path (ReadsAlone p n) θ σ θ' → verdict p n θ ≡ v → verdict p n θ' ≡ v
  verdict-kept v kept θ θ' σ l r f = (path_keeps (λ θ. (state_in_range p n θ ≡ true) × (verdict p n θ ≡ v)) keeps r (l, f)).1
    where
      keeps : (θ : ℕ) (e : Letter p) (θ' : ℕ) → ReadsAlone p n θ e θ' → (state_in_range p n θ ≡ true) × (verdict p n θ ≡ v)
          → (state_in_range p n θ' ≡ true) × (verdict p n θ' ≡ v)
      keeps θ e θ' q h =
          (reads_in_range θ e θ' q h.0, eqb-true _ v (implies-at _ _ (kept θ θ' (follower θ e θ' q h.0)) (eq-eqb _ v h.1)))

  -- 01 refusals 9 and 20: from a bad state an oracle reaches only bad ones.
  pub bad_for_good_alone : (θ θ' : ℕ) (σ : List (Letter p)) → state_in_range p n θ ≡ true → Path (ReadsAlone p n) θ σ θ' → verdict p n θ ≡ 0 → verdict p n θ' ≡ 0
  unfolding follower_ok
  bad_for_good_alone = verdict-kept 0 (λ θ θ' h. let (_, (k, _)) = each _ h in k)

  -- 01 refusals 9 and 20: from a 3 state an oracle reaches only 3 states.
  pub true_stays_alone : (θ θ' : ℕ) (σ : List (Letter p)) → state_in_range p n θ ≡ true → Path (ReadsAlone p n) θ σ θ' → verdict p n θ ≡ 3 → verdict p n θ' ≡ 3
  unfolding follower_ok
  true_stays_alone = verdict-kept 3 (λ θ θ' h. let (_, (_, (k, _))) = each _ h in k)

  -- 01 refusals 9 and 20, as 02, job 6, leaves them: the verdict of each state is one of 𝔹₄.
  pub allows_or_forbids_alone : (θ : ℕ) → state_in_range p n θ ≡ true → AllowsAlone p n θ ⊎ ForbidsAlone p n θ
  unfolding oracle_ok
  allows_or_forbids_alone θ l = lawful_verdict (verdict p n θ) (each _ (lawful θ l)).0

  -- ---- the property that it denotes

  -- the states that it reaches from its beginning are in range
  reached_in_range : {θ : ℕ} {σ : List (Letter p)} → Path (ReadsAlone p n) (get_or (start_states p) n 0) σ θ → state_in_range p n θ ≡ true
  reached_in_range r =
      path_keeps (λ θ. state_in_range p n θ ≡ true) reads_in_range r (own_in_range (start_states p) (start_in_range p (accepted_plan p accepted)))

  module _ (no_1 : NeverOne p n) where
    -- 002 section 4: the property that an oracle without verdict 1 denotes is a safety property.
    pub denotes_alone_safety : Safety (DenotesAlone p n)
    denotes_alone_safety σ σ' (u, r, a) =
        let (t, before, later) = path_split σ σ' r in
        let low = reached_in_range before in
        elim (allows_or_forbids_alone t low) [
          | inl b ↦ (t, before, b)
          | inr (inl f) ↦ absurd (not_both_alone p n u a (inl (bad_for_good_alone t u σ' low later f)))
          | inr (inr f) ↦ absurd (no_1 t low f)
        ]

    -- 002 proposition 2, of that property.
    pub denotes_alone_tolerant : Tolerant 1 (DenotesAlone p n)
    denotes_alone_tolerant = safety_tolerant (DenotesAlone p n) denotes_alone_safety

  -- 002 section 4 and definition 14, for the state that an oracle reaches on σ.
  pub verdict_is_alone : (σ : List (Letter p)) (θ : ℕ) → Path (ReadsAlone p n) (get_or (start_states p) n 0) σ θ
      → Judges (DenotesAlone p n) σ (λ v. verdict p n θ ≡ v)
  verdict_is_alone σ θ r = record { on_3 = on_three; on_0 = on_zero; on_2 = λ v. (θ, r, inr v); on_1 = λ v. outside (inr v) }
    where
      low : state_in_range p n θ ≡ true
      low = reached_in_range r

      on_three : verdict p n θ ≡ 3 → Evaluates (DenotesAlone p n) σ true_for_good
      on_three v =
          always (θ, r, inl v) (λ σ'. let (u, later, _) = oracle_reads θ low σ' in (u, path_join r later, inl (true_stays_alone θ u σ' low later v)))

      outside : ForbidsAlone p n θ → DenotesAlone p n σ → ⊥
      outside f (u, q, a) = not_both_alone p n u a (subst (ForbidsAlone p n) (reads_once_alone r q) f)

      out : verdict p n θ ≡ 0 → (σ' : List (Letter p)) → DenotesAlone p n (σ ++ σ') → ⊥
      out v σ' (u, q, a) =
          let (t, before, later) = path_split σ σ' q in
          let same : θ ≡ t = reads_once_alone r before in
          not_both_alone p n u a (inl (bad_for_good_alone θ u σ' low (subst (λ (x : ℕ). Path (ReadsAlone p n) x σ' u) (sym same) later) v))

      on_zero : verdict p n θ ≡ 0 → Evaluates (DenotesAlone p n) σ false_for_good
      on_zero v = never (outside (inl v)) (out v)
