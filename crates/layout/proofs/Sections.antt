-- A plan that keeps 1, 2 and 3 is laid out: each section lies in the slice.
use mathlib.Core.Path.{◌≡◌, refl, sym, ◌∙◌}
use Prim.Native.Nat.{ℕ, ◌≤◌, ◌<◌}
use native.Mathlib.Omega.{arith}
use mathlib.Core.Bool.{true}
use mathlib.Core.List.{◌++◌}
use lib.ListN.{length}
use lib.Dec.{ltb, eqb}
use Rattle.semantics.specs.Plan.{Plan, max_oracles, oracles, oracle_states, states_before, section, section_size, section_start}
use Rattle.semantics.specs.Rules.{head_ok, state_count_ok, counts_ok, layout_ok, within, header_rules, table_rules, code_rules, plan_rules, plan_refusal}
use Rattle.semantics.proofs.Basics.{bool_cases, each, leb-true, ltb-true, ltb-false, eqb-true, every-at}
use Rattle.semantics.proofs.AcceptedPlan.{Counts, counts_of_lem}
use Rattle.semantics.proofs.Oracles.{used_count, unused_count}
use Rattle.semantics.specs.Refusal.{refusal}
use Rattle.semantics.proofs.Refusing.{numbered, refusal_before}
use Rattle.semantics.proofs.RuleLists.{keeps, rule-kept}
use Rattle.layout.specs.Laid.{Laid}

-- the header's room
pub header_in : (p : Plan) → head_ok p ≡ true → 48 ≤ length p
unfolding head_ok
header_in p e = leb-true _ _ (each _ e).0

section_is : (p : Plan) → layout_ok p ≡ true → (n : ℕ) → n < 8 → section p n ≡ section_start p n
unfolding layout_ok
section_is p e n h = eqb-true _ _ (every-at 8 (λ k. eqb (section p k) (section_start p k)) (each _ e).0 n h)

length_is : (p : Plan) → layout_ok p ≡ true → length p ≡ section_start p 8
unfolding layout_ok
length_is p e = eqb-true _ _ (each _ e).1.1.0

record Ends (p : Plan) : Type 0 where
  end : length p ≡ section_start p 8
  s0 : section p 0 ≡ section_start p 0
  s1 : section p 1 ≡ section_start p 1
  s2 : section p 2 ≡ section_start p 2
  s3 : section p 3 ≡ section_start p 3
  s4 : section p 4 ≡ section_start p 4
  s5 : section p 5 ≡ section_start p 5
  s6 : section p 6 ≡ section_start p 6
  s7 : section p 7 ≡ section_start p 7

ends : (p : Plan) → layout_ok p ≡ true → Ends p
ends p e =
    record {
      end = length_is p e;
      s0 = section_is p e 0 (omega arith);
      s1 = section_is p e 1 (omega arith);
      s2 = section_is p e 2 (omega arith);
      s3 = section_is p e 3 (omega arith);
      s4 = section_is p e 4 (omega arith);
      s5 = section_is p e 5 (omega arith);
      s6 = section_is p e 6 (omega arith);
      s7 = section_is p e 7 (omega arith);
    }

states_low : (p : Plan) (n : ℕ) → state_count_ok p n ≡ true → oracle_states p n ≤ 32
unfolding within
states_low p n e =
    bool_cases (ltb n (oracles p)) (λ t. leb-true (oracle_states p n) 32 (each _ (sym (used_count p n (ltb-true n (oracles p) t)) ∙ e)).1.0)
    (λ t. let z = eqb-true (oracle_states p n) 0 (sym (unused_count p n (ltb-false n (oracles p) t)) ∙ e) in omega (arith, z))

all_low : (p : Plan) → Counts p → states_before p max_oracles ≤ 128
unfolding states_before
all_low p c =
    let s0 = states_low p 0 (c.state_count 0 (omega arith)) in
    let s1 = states_low p 1 (c.state_count 1 (omega arith)) in
    let s2 = states_low p 2 (c.state_count 2 (omega arith)) in
    let s3 = states_low p 3 (c.state_count 3 (omega arith)) in
    omega (arith, s0, s1, s2, s3)

pub laid : (p : Plan) → head_ok p ≡ true → counts_ok p ≡ true → layout_ok p ≡ true → Laid p
unfolding counts_ok within section_start section_size
laid p h c l =
    let (n, (v, (t, (i, (o, (_, (_, (w, _)))))))) = each _ c in
    let (_, (n≤, _)) = each _ n in
    let (_, (i≤, _)) = each _ i in
    let e : Ends p = ends p l in
    let few = all_low p (counts_of_lem p c) in
    record {
      long = header_in p h;
      components≤ = leb-true _ _ n≤;
      variables≤ = leb-true _ _ v;
      transitions≤ = leb-true _ _ t;
      interactions≤ = leb-true _ _ i≤;
      propositions≤ = leb-true _ _ o;
      oracles≤ = (counts_of_lem p c).oracles≤;
      states≤ = few;
      words≤ = leb-true _ _ w;
      component_in = omega arith;
      variable_in_lem = omega arith;
      transition_in = omega arith;
      interaction_in = omega arith;
      rank_in = omega arith;
      proposition_in = omega arith;
      oracle_in = omega arith;
      code_in = omega arith;
    }

-- a plan whose header nothing refuses is laid out
pub laid_header : (p : Plan) → refusal (header_rules p) ≡ 0 → Laid p
unfolding numbered keeps
laid_header p e = let kept : (n : ℕ) → keeps n (header_rules p) ≡ true = rule-kept (header_rules p) refl e in laid p (kept 1) (kept 2) (kept 3)

-- and so is an accepted plan
pub laid_accepted : (p : Plan) → plan_refusal p ≡ 0 → Laid p
unfolding plan_refusal plan_rules
laid_accepted p e = laid_header p (refusal_before (header_rules p) (table_rules p ++ code_rules p) e)
