-- What job 6 of 02 keeps of the meaning before it: a plan that was accepted is accepted, and its states are good where they were. The earlier definitions stand here
-- by their meaning, and no call cites them.
use mathlib.Core.Path.{◌≡◌, refl, ap, ◌∙◌}
use Prim.Native.Nat.{ℕ, zero, suc, ◌≤◌, ◌<◌, suc-le-suc}
use native.Mathlib.Nat.{le_of_suc-le-suc}
use native.Mathlib.Omega.{arith}
use mathlib.Core.Bool.{Bool, true, not}
use mathlib.Core.List.{List, [], ◌∷◌, ◌++◌}
use lib.ListN.{get_or}
use lib.Dec.{leb, eqb}
use Rattle.semantics.specs.Bytes.{all_of, every}
use Rattle.semantics.specs.Plan.{Plan, components, variables, transitions, interactions, added_oracles, oracles, oracle_states, letters, verdict, next}
use Rattle.semantics.specs.Refusal.{Rule, rule, refusal}
use Rattle.semantics.specs.Rules.{component_ok, variable_ok, transition_ok, interaction_ok, rank_ok, verdict_ok, follower_ok, oracle_ok, table_ok, header_rules, code_rules, plan_rules, plan_refusal}
use Rattle.semantics.specs.Move.{Configuration, oracles_in_range, lowest_verdict, reaches, good}
use Rattle.semantics.proofs.Basics.{same_test, not_yes, each, all_of_lem, leb-true, le_leb, ne_eqb, eqb-false, every-at, every_all}
use Rattle.semantics.proofs.Refusing.{numbered, all_kept}
use Rattle.semantics.proofs.RuleLists.{keeps, rule-kept}
use Rattle.semantics.proofs.AcceptedPlan.{accepted_plan, counts_of_lem}
use Rattle.semantics.proofs.Oracles.{range_at, range_lt, lowest_of_some}

-- 9: "a verdict other than 0, 2, 3".
unfoldable pub verdict_ok_before : ℕ → Bool
verdict_ok_before v = all_of (leb v 3 ∷ not (eqb v 1) ∷ [])

unfoldable pub oracle_ok_before : Plan → ℕ → ℕ → Bool
oracle_ok_before p n q = all_of (verdict_ok_before (verdict p n q) ∷ every (letters p) (λ a. follower_ok p n q (next p n q a)) ∷ [])

unfoldable pub table_ok_before : Plan → ℕ → Bool
table_ok_before p n = every (oracle_states p n) (oracle_ok_before p n)

-- 1 to 10 and 20, in order.
unfoldable pub plan_rules_before : Plan → List Rule
plan_rules_before p =
    header_rules p
    ++ (rule 4 (every (components p) (component_ok p)) ∷ rule 5 (every (variables p) (variable_ok p)) ∷ rule 6 (every (transitions p) (transition_ok p))
    ∷ rule 7 (every (interactions p) (interaction_ok p)) ∷ rule 8 (every (interactions p) (rank_ok p))
    ∷ rule 9 (table_ok_before p 0) ∷ rule 20 (every (added_oracles p) (λ k. table_ok_before p (suc k))) ∷ [])
    ++ code_rules p

-- "A state is good when the oracle's new verdict is not 0."
unfoldable pub good_before : Plan → Configuration → Bool
good_before p c = not (eqb (lowest_verdict p c.oracles (added_oracles p)) 0)

-- A table that kept its rule keeps it.
pub table_still_ok : (p : Plan) (n : ℕ) → table_ok_before p n ≡ true → table_ok p n ≡ true
unfolding table_ok_before oracle_ok_before verdict_ok_before table_ok oracle_ok verdict_ok
table_still_ok p n e =
    every_all (oracle_states p n) (oracle_ok p n)
    (λ q l.
    let (v, (followers, _)) = each _ (every-at (oracle_states p n) (oracle_ok_before p n) e q l) in
    let (low, _) = each _ v in
    all_of_lem _ (low, (followers, tt)))

-- and no state of it has verdict 1
never_one : (p : Plan) (n : ℕ) → table_ok_before p n ≡ true → (q : ℕ) → q < oracle_states p n → verdict p n q ≡ 1 → ⊥
unfolding table_ok_before oracle_ok_before verdict_ok_before
never_one p n e q l v =
    let (w, _) = each _ (every-at (oracle_states p n) (oracle_ok_before p n) e q l) in
    let (_, (other, _)) = each _ w in
    eqb-false _ _ (not_yes _ other) v

module _ (p : Plan) (e : refusal (plan_rules_before p) ≡ 0) where
  -- A plan that was accepted is accepted.
  pub plan_still_accepted : plan_refusal p ≡ 0
  unfolding plan_refusal plan_rules plan_rules_before numbered keeps
  plan_still_accepted =
      let kept = rule-kept (plan_rules_before p) refl e in
      all_kept (plan_rules p) (
        kept 1,
        (
          kept 2,
          (
            kept 3,
            (
              kept 4,
              (
                kept 5,
                (
                  kept 6,
                  (
                    kept 7,
                    (
                      kept 8,
                      (
                        table_still_ok p 0 (kept 9),
                        (
                          every_all (added_oracles p) (λ k. table_ok p (suc k)) (λ k l. table_still_ok p (suc k) (every-at (added_oracles p) (λ k. table_ok_before p (suc k)) (kept 20) k l)),
                          (kept 10, tt),
                        ),
                      ),
                    ),
                  ),
                ),
              ),
            ),
          ),
        ),
      )

  old_table : (n : ℕ) → n < oracles p → table_ok_before p n ≡ true
  unfolding plan_rules_before numbered keeps
  old_table zero l = rule-kept (plan_rules_before p) refl e 9
  old_table (suc k) l = every-at (added_oracles p) (λ k. table_ok_before p (suc k)) (rule-kept (plan_rules_before p) refl e 20) k (le_of_suc-le-suc l)

  -- Its configurations are good where they were. No other definition that the calls before job 6 go by has moved.
  pub good_as_before : (c : Configuration) → oracles_in_range p c.oracles ≡ true → good p c ≡ good_before p c
  unfolding good reaches good_before
  good_as_before c r =
      let v : ℕ = lowest_verdict p c.oracles (added_oracles p) in
      let (n, l, same) = lowest_of_some p c.oracles (added_oracles p) in
      let used : n < oracles p = suc-le-suc l in
      let few = (counts_of_lem p (accepted_plan p plan_still_accepted).counts).oracles≤ in
      let low = range_lt p n (get_or c.oracles n 0) used (range_at p c.oracles r n (omega (arith, few, used))) in
      let other : v ≡ 1 → ⊥ = λ one. never_one p n (old_table n used) (get_or c.oracles n 0) low (same ∙ one) in
      same_test (leb 2 v) (not (eqb v 0))
      (λ g. let two = leb-true 2 v g in ap not (ne_eqb v 0 (zero-below v two)))
      (λ g. let some = eqb-false v 0 (not_yes (eqb v 0) g) in le_leb 2 v (two_up v some other))
    where
      zero-below : (v : ℕ) → 2 ≤ v → v ≡ 0 → ⊥
      zero-below v h z = omega arith

      two_up : (v : ℕ) → (v ≡ 0 → ⊥) → (v ≡ 1 → ⊥) → 2 ≤ v
      two_up v a b = omega (arith, a, b)
