-- What an accepted plan keeps, rule by rule: from `plan_refusal p ≡ 0`.
use mathlib.Core.Path.{◌≡◌, refl}
use Prim.Native.Nat.{ℕ, zero, suc, ◌≤◌, ◌<◌, suc-le-suc}
use native.Mathlib.Nat.{lt_of_lt_of_le, le_of_suc-le-suc}
use mathlib.Core.Bool.{Bool, true}
use lib.Pow.{pow_mono}
use Rattle.semantics.specs.Bytes.{every, mask}
use Rattle.semantics.specs.Plan.{Plan, max_components, max_variables, max_interactions, max_oracles, components, variables, transitions, interactions, propositions, added_oracles, oracles, oracle_states, first_oracle, component_of, guard_of, action_of, interaction_guard, transfer_of, proposition_of}
use Rattle.semantics.specs.Code.{as_guard, as_update, as_proposition, owned_by, shared_in, declared, span_ok}
use Rattle.semantics.specs.Rules.{head_ok, state_count_ok, oracle_counts_ok, counts_ok, layout_ok, component_ok, variable_ok, transition_ok, interaction_ok, rank_ok, oracle_ok, table_ok, code_ok, transition_code, interaction_code, proposition_code, plan_rules, plan_refusal, within}
use Rattle.semantics.proofs.Basics.{each, every-at, leb-true, ltb-true}
use Rattle.semantics.proofs.Masks.{mask_lt}
use Rattle.semantics.proofs.Refusing.{numbered}
use Rattle.semantics.proofs.RuleLists.{keeps, rule-kept}

pub record Accepted (p : Plan) : Type 0 where
  pub head : head_ok p ≡ true
  pub counts : counts_ok p ≡ true
  pub layout : layout_ok p ≡ true
  pub component : (c : ℕ) → c < components p → component_ok p c ≡ true
  pub variable : (v : ℕ) → v < variables p → variable_ok p v ≡ true
  pub transition : (t : ℕ) → t < transitions p → transition_ok p t ≡ true
  pub interaction : (i : ℕ) → i < interactions p → interaction_ok p i ≡ true
  pub rank : (i : ℕ) → i < interactions p → rank_ok p i ≡ true
  pub oracle : (n : ℕ) → n < oracles p → (q : ℕ) → q < oracle_states p n → oracle_ok p n q ≡ true
  pub code : code_ok p ≡ true

pub plan_numbered : (p : Plan) → numbered (plan_rules p) ≡ true
unfolding numbered plan_rules
plan_numbered p = refl

pub accepted_plan : (p : Plan) → plan_refusal p ≡ 0 → Accepted p
unfolding plan_refusal plan_rules keeps table_ok
accepted_plan p e =
    let kept : (n : ℕ) → keeps n (plan_rules p) ≡ true = rule-kept (plan_rules p) (plan_numbered p) e in
    record {
      head = kept 1;
      counts = kept 2;
      layout = kept 3;
      component = every-at (components p) (component_ok p) (kept 4);
      variable = every-at (variables p) (variable_ok p) (kept 5);
      transition = every-at (transitions p) (transition_ok p) (kept 6);
      interaction = every-at (interactions p) (interaction_ok p) (kept 7);
      rank = every-at (interactions p) (rank_ok p) (kept 8);
      oracle = λ n h. every-at (oracle_states p n) (oracle_ok p n) (tables (kept 9) (kept 20) n h);
      code = kept 10;
    }
  where
    -- 9 and 20: the table of each oracle
    tables : table_ok p 0 ≡ true → every (added_oracles p) (λ k. table_ok p (suc k)) ≡ true → (n : ℕ) → n < oracles p → table_ok p n ≡ true
    tables first added zero h = first
    tables first added (suc k) h = every-at (added_oracles p) (λ j. table_ok p (suc j)) added k (le_of_suc-le-suc h)

-- ---- the counts

pub record Counts (p : Plan) : Type 0 where
  pub components≤ : components p ≤ max_components
  pub variables≤ : variables p ≤ max_variables
  pub interactions≤ : interactions p ≤ max_interactions
  pub propositions≤ : propositions p ≤ 4
  pub oracles≤ : oracles p ≤ max_oracles
  pub state_count : (n : ℕ) → n < max_oracles → state_count_ok p n ≡ true
  pub first< : first_oracle p < oracle_states p 0

pub counts_of_lem : (p : Plan) → counts_ok p ≡ true → Counts p
unfolding counts_ok oracle_counts_ok within
counts_of_lem p e =
    let (c, (v, (_, (i, (o, (q, (f, _))))))) = each _ e in
    let (a, (s, _)) = each _ q in
    let (_, (c≤, _)) = each _ c in
    let (_, (i≤, _)) = each _ i in
    record {
      components≤ = leb-true _ _ c≤;
      variables≤ = leb-true _ _ v;
      interactions≤ = leb-true _ _ i≤;
      propositions≤ = leb-true _ _ o;
      oracles≤ = suc-le-suc (leb-true _ _ a);
      state_count = every-at max_oracles (state_count_ok p) s;
      first< = ltb-true _ _ f;
    }

-- a mask of the plan's interactions is a 64-bit number
pub mask_small : (p : Plan) → plan_refusal p ≡ 0 → (f : ℕ → Bool) → mask (interactions p) f < 18446744073709551616
mask_small p e f =
    lt_of_lt_of_le (mask_lt (interactions p) f) (pow_mono {j = max_interactions} (counts_of_lem p (accepted_plan p e).counts).interactions≤)

-- ---- the spans

module _ (p : Plan) (a : Accepted p) where
  transition_code_lem : (t : ℕ) → t < transitions p → transition_code p t ≡ true
  unfolding code_ok
  transition_code_lem = let (ts, _) = each _ a.code in every-at (transitions p) (transition_code p) ts

  interaction_code_lem : (i : ℕ) → i < interactions p → interaction_code p i ≡ true
  unfolding code_ok
  interaction_code_lem = let (_, (is, _)) = each _ a.code in every-at (interactions p) (interaction_code p) is

  pub guard_ok : (t : ℕ) → t < transitions p → span_ok p as_guard (owned_by p (component_of p t)) (guard_of p t) ≡ true
  unfolding transition_code
  guard_ok t h = let (g, _) = each _ (transition_code_lem t h) in g

  pub action_ok : (t : ℕ) → t < transitions p → span_ok p as_update (owned_by p (component_of p t)) (action_of p t) ≡ true
  unfolding transition_code
  action_ok t h = let (_, (u, _)) = each _ (transition_code_lem t h) in u

  pub interaction_guard_ok : (i : ℕ) → i < interactions p → span_ok p as_guard (shared_in p i) (interaction_guard p i) ≡ true
  unfolding interaction_code
  interaction_guard_ok i h = let (g, _) = each _ (interaction_code_lem i h) in g

  pub transfer_ok : (i : ℕ) → i < interactions p → span_ok p as_update (shared_in p i) (transfer_of p i) ≡ true
  unfolding interaction_code
  transfer_ok i h = let (_, (u, _)) = each _ (interaction_code_lem i h) in u

  pub proposition_ok : (k : ℕ) → k < propositions p → span_ok p as_proposition (declared p) (proposition_of p k) ≡ true
  unfolding code_ok proposition_code
  proposition_ok = let (_, (_, (ps, _))) = each _ a.code in every-at (propositions p) (proposition_code p) ps
