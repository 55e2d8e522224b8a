-- The check of a log, test by test: what it answers when a number applies, and past them that of its walk.
use mathlib.Core.Path.{◌≡◌, refl, ap, ◌∙◌}
use Prim.Native.Nat.{ℕ, ◌%◌}
use native.Mathlib.Omega.{arith}
use mathlib.Core.Bool.{true, false}
use mathlib.Core.List.{[]}
use lib.ListN.{length}
use Rattle.semantics.specs.Bytes.{entries}
use Rattle.semantics.specs.Plan.{Plan}
use Rattle.semantics.specs.Refusal.{unless, refusal}
use Rattle.semantics.specs.Rules.{plan_refusal}
use Rattle.semantics.specs.Move.{good, initial}
use Rattle.semantics.specs.Calls.{refused, Outcome, outcome, unless_refused}
use Rattle.semantics.specs.Log.{Log, walked, log_rules, check_log}
use Rattle.semantics.proofs.Basics.{eq-eqb, ne_eqb}
use Rattle.engine.proofs.Refusals.{plan_refused, plan_kept, unless_refused_some}

-- ---- the numbers

log-refused : (p : Plan) (l : Log) (n : ℕ) → refusal (log_rules p l) ≡ n → (n ≡ 0 → ⊥) → check_log p l ≡ refused n
unfolding check_log
log-refused p l n e h =
    let o : Outcome = outcome (walked p (initial p) 0 (entries l)) [] in
    ap (λ (m : ℕ). (unless_refused m [] o).answer) e ∙ ap (λ (x : Outcome). x.answer) (unless_refused_some n [] o h)

pub log_plan : (p : Plan) (l : Log) (n : ℕ) → n ≡ plan_refusal p → (n ≡ 0 → ⊥) → check_log p l ≡ refused n
unfolding log_rules
log_plan p l n e h = log-refused p l n (plan_refused p _ n e h) h

module _ (p : Plan) (l : Log) (h : plan_refusal p ≡ 0) where
  pub log_21 : (length l % 2 ≡ 0 → ⊥) → check_log p l ≡ refused 21
  unfolding log_rules refusal unless
  log_21 f = log-refused p l 21 (plan_kept p _ h ∙ rw (ne_eqb (length l % 2) 0 f) refl) (λ z. omega arith)

  pub log_15 : length l % 2 ≡ 0 → good p (initial p) ≡ false → check_log p l ≡ refused 15
  unfolding log_rules refusal unless
  log_15 e f = log-refused p l 15 (plan_kept p _ h ∙ rw (eq-eqb (length l % 2) 0 e, f) refl) (λ z. omega arith)

  pub log-walked : length l % 2 ≡ 0 → good p (initial p) ≡ true → check_log p l ≡ walked p (initial p) 0 (entries l)
  unfolding check_log log_rules refusal unless unless_refused
  log-walked e f =
      let o : Outcome = outcome (walked p (initial p) 0 (entries l)) [] in
      let none : refusal (log_rules p l) ≡ 0 = plan_kept p _ h ∙ rw (eq-eqb (length l % 2) 0 e, f) refl in
      ap (λ (m : ℕ). (unless_refused m [] o).answer) none
