-- Spans that passed the checker: which spans of an accepted plan did, and what each of their words has.
use mathlib.Core.Path.{◌≡◌, refl, sym, subst}
use Prim.Native.Nat.{ℕ, zero, suc, ◌+◌, ◌-◌, ◌≤◌, ◌<◌}
use native.Mathlib.Nat.{le_trans}
use native.Mathlib.Omega.{arith}
use mathlib.Core.Bool.{Bool, true, false, cond, true≢false}
use lib.ListN.{length}
use Rattle.semantics.specs.Plan.{Plan, Span, max_variables, variables, transitions, interactions, propositions, code_words, component_of, guard_of, action_of, interaction_guard, transfer_of, proposition_of, word}
use Rattle.semantics.specs.Code.{State, Instruction, push, extend_top, load, store, located, last_port, operator, unknown, decode, operator_pops, ran, as_guard, as_update, as_proposition, owned_by, shared_in, declared, allowed, pops, pushes, final_depth, span_ok}
use Rattle.semantics.specs.Rules.{plan_refusal}
use Rattle.semantics.proofs.Basics.{bool_cases, absurd_bool, each, leb-true, ltb-true}
use Rattle.semantics.proofs.AcceptedPlan.{accepted_plan, guard_ok, action_ok, interaction_guard_ok, transfer_ok, proposition_ok}
use Rattle.semantics.proofs.Spans.{Step, word_step, depth_low, ran-depth, span_step, span_end}
use Rattle.layout.specs.Laid.{Laid}
use Rattle.code.specs.Taken.{Taken, Fit}

-- ---- which spans passed

owned-declared : (p : Plan) (c v : ℕ) → owned_by p c v ≡ true → v < variables p
unfolding owned_by
owned-declared p c v e = ltb-true _ _ (each _ e).0

shared_declared : (p : Plan) (i v : ℕ) → shared_in p i v ≡ true → v < variables p
unfolding shared_in
shared_declared p i v e = ltb-true _ _ (each _ e).0

all_declared : (p : Plan) (v : ℕ) → declared p v ≡ true → v < variables p
unfolding declared
all_declared p v e = ltb-true _ _ e

module _ (p : Plan) (a : plan_refusal p ≡ 0) where
  pub guard_taken : (t : ℕ) → t < transitions p → Taken p 1 (guard_of p t)
  unfolding final_depth
  guard_taken t h =
      record {
        role = as_guard;
        names = owned_by p (component_of p t);
        ok = guard_ok p (accepted_plan p a) t h;
        ends_at_lem = refl;
        declared = owned-declared p (component_of p t);
        blind = λ e. refl;
      }

  pub action_taken : (t : ℕ) → t < transitions p → Taken p 0 (action_of p t)
  unfolding final_depth
  action_taken t h =
      record {
        role = as_update;
        names = owned_by p (component_of p t);
        ok = action_ok p (accepted_plan p a) t h;
        ends_at_lem = refl;
        declared = owned-declared p (component_of p t);
        blind = λ e. refl;
      }

  pub interaction_guard_taken : (i : ℕ) → i < interactions p → Taken p 1 (interaction_guard p i)
  unfolding final_depth
  interaction_guard_taken i h =
      record {
        role = as_guard;
        names = shared_in p i;
        ok = interaction_guard_ok p (accepted_plan p a) i h;
        ends_at_lem = refl;
        declared = shared_declared p i;
        blind = λ e. refl;
      }

  pub transfer_taken : (i : ℕ) → i < interactions p → Taken p 0 (transfer_of p i)
  unfolding final_depth
  transfer_taken i h =
      record {
        role = as_update;
        names = shared_in p i;
        ok = transfer_ok p (accepted_plan p a) i h;
        ends_at_lem = refl;
        declared = shared_declared p i;
        blind = λ e. refl;
      }

  pub proposition_taken : (k : ℕ) → k < propositions p → Taken p 1 (proposition_of p k)
  unfolding final_depth
  proposition_taken k h =
      record {
        role = as_proposition;
        names = declared p;
        ok = proposition_ok p (accepted_plan p a) k h;
        ends_at_lem = refl;
        declared = all_declared p;
        blind = λ e. absurd_bool e refl;
      }

-- ---- what each of its words has

final_stores : (b : Bool) (end : ℕ) → cond b 0 1 ≡ end → b ≡ true → end ≡ 0
final_stores true end e h = sym e
final_stores false end e h = absurd_bool h refl

final_keeps : (b : Bool) (end : ℕ) → cond b 0 1 ≡ end → b ≡ false → end ≡ 1
final_keeps true end e h = absurd_bool refl h
final_keeps false end e h = sym e

-- every known operator takes a value
operator_takes : (n : ℕ) → n < 8 → 0 < operator_pops n
unfolding operator_pops
operator_takes zero h = omega arith
operator_takes (suc zero) h = omega arith
operator_takes (suc (suc zero)) h = omega arith
operator_takes (suc (suc (suc zero))) h = omega arith
operator_takes (suc (suc (suc (suc zero)))) h = omega arith
operator_takes (suc (suc (suc (suc (suc zero))))) h = omega arith
operator_takes (suc (suc (suc (suc (suc (suc zero)))))) h = omega arith
operator_takes (suc (suc (suc (suc (suc (suc (suc zero))))))) h = omega arith
operator_takes (suc (suc (suc (suc (suc (suc (suc (suc n)))))))) h = absurd (omega arith)

module _ (p : Plan) (l : Laid p) (end : ℕ) (g : Span) (k : Taken p end g) where
  stores_ends : k.role.stores ≡ true → end ≡ 0
  unfolding final_depth
  stores_ends e = final_stores k.role.stores end k.ends_at_lem e

  looks_ends : k.role.looks ≡ true → end ≡ 1
  unfolding final_depth
  looks_ends e = bool_cases k.role.stores (λ s. absurd_bool e (k.blind s)) (λ s. final_keeps k.role.stores end k.ends_at_lem s)

  named_low : (v : ℕ) → k.names v ≡ true → v < max_variables
  named_low v e = le_trans (k.declared v e) l.variables≤

  -- a word that keeps the rules, at a depth of at most 8
  word_fits : (i : Instruction) (d e : ℕ) → Step p k.role k.names i d e → d ≤ 8 → Fit end i d
  unfolding allowed pops pushes
  word_fits (push n) d e t h = fewer d e t.after t.low
    where
      fewer : (d e : ℕ) → d - 0 + 1 ≡ e → e ≤ 8 → d < 8
      fewer d e a b = omega arith
  word_fits (extend_top n) d e t h = (t.enough, h)
  word_fits (load n) d e t h = (named_low n t.fits, omega (arith, t.after, t.low))
  word_fits (store n) d e t h =
      let (stores, (named, _)) = each _ t.fits in (stores_ends stores, named_low n named, t.enough, h)
  word_fits (located c q) d e t h = (looks_ends (each _ t.fits).0, omega (arith, t.after, t.low))
  word_fits (last_port c q) d e t h = (looks_ends (each _ t.fits).0, omega (arith, t.after, t.low))
  word_fits (operator n) d e t h =
      let b : n < 8 = ltb-true n 8 t.fits in (b, le_trans (operator_takes n b) t.enough, t.enough, h)
  word_fits unknown d e t h = absurd (true≢false (sym t.fits))

  -- word j of the span is a word of the plan
  pub word_in : (j : ℕ) → j < g.size → g.start + j < code_words p
  unfolding span_ok
  word_in j h =
      let (_, (ends, _)) = each _ k.ok in
      let e : g.start + g.size ≤ code_words p = leb-true _ _ ends in omega arith

  -- it has what it needs where it stands
  pub word_fit : (s : State) (j : ℕ) → j < g.size → Fit end (decode (word p (g.start + j))) (length (ran p s g.start j).stack)
  word_fit s j h =
      let e = span_step p k.role k.names g k.ok j h in
      let w = word_step p k.role k.names g.start j e.0 e.1 in
      subst (λ (x : ℕ). Fit end (decode (word p (g.start + j))) x)
      (sym (ran-depth p k.role k.names g.start j w.was s w.counted))
      (word_fits (decode (word p (g.start + j))) w.was e.0 w.step
      (depth_low p k.role k.names g.start j w.was w.counted))

  -- at the end of a span that is not empty the stack is as deep as the role wants
  pub final_depth_lem : (s : State) → 0 < g.size → length (ran p s g.start g.size).stack ≡ end
  final_depth_lem s h =
      subst (λ (x : ℕ). length (ran p s g.start g.size).stack ≡ x) k.ends_at_lem
      (ran-depth p k.role k.names g.start g.size (final_depth k.role) s (span_end p k.role k.names g k.ok h))
