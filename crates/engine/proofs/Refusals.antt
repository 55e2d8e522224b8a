-- The first broken rule, when the plan's own rules come first: what the reading of a lane and a start answer.
use mathlib.Core.Path.{◌≡◌, refl, sym, ap, ◌∙◌}
use Prim.Native.Nat.{ℕ, zero, suc}
use native.Mathlib.Omega.{arith}
use mathlib.Core.Bool.{true, false}
use mathlib.Core.List.{List, [], ◌∷◌, ◌++◌}
use lib.ListN.{length}
use Rattle.std.proofs.Common.{Result, Ok, Err}
use Rattle.semantics.specs.Plan.{Plan}
use Rattle.semantics.specs.Refusal.{Rule, rule, unless, refusal}
use Rattle.semantics.specs.Rules.{plan_rules, plan_refusal}
use Rattle.semantics.specs.Move.{good, initial}
use Rattle.semantics.specs.Image.{Image, image_length, image, marks_of, configuration_of, head_matches, configuration_ok, marks_ok, length_rule, image_rules}
use Rattle.semantics.specs.Calls.{accepted, refused, Outcome, outcome, unless_refused, start_rules, start}
use Rattle.semantics.proofs.Basics.{eq-eqb, ne_eqb}
use Rattle.semantics.proofs.Refusing.{none-refused, refusal-after, refused-first}
use Rattle.semantics.proofs.AcceptedPlan.{plan_numbered}
use Rattle.plan.specs.declared.refusal.Refusal.{Refusal}
use Rattle.plan.specs.Numbers.{number, checked_number}
use Rattle.plan.proofs.Numbering.{above_0}

pub plan_refused : (p : Plan) (qs : List Rule) (n : ℕ) → n ≡ plan_refusal p → (n ≡ 0 → ⊥) → refusal (plan_rules p ++ qs) ≡ n
unfolding plan_refusal
plan_refused p qs n e h = refused-first (plan_rules p) qs n (sym e) h

pub plan_kept : (p : Plan) (qs : List Rule) → plan_refusal p ≡ 0 → refusal (plan_rules p ++ qs) ≡ refusal qs
unfolding plan_refusal
plan_kept p qs e = refusal-after (plan_rules p) qs (none-refused (plan_rules p) (plan_numbered p) e)

-- what the plan's check refused is what plan and more rules refuse
pub plan_refuses : (p : Plan) (qs : List Rule) (c : Result (Unit {0}) Refusal) (r : Refusal) → checked_number c ≡ plan_refusal p → c ≡ Err r
    → number r ≡ refusal (plan_rules p ++ qs)
plan_refuses p qs c r e was =
    sym (plan_refused p qs (number r) (ap (λ (x : Result (Unit {0}) Refusal). checked_number x) (sym was) ∙ e) (above_0 r))

-- and what it let pass is accepted
pub plan_accepts : (p : Plan) (c : Result (Unit {0}) Refusal) (u : Unit {0}) → checked_number c ≡ plan_refusal p → c ≡ Ok u → plan_refusal p ≡ 0
plan_accepts p c u e was = sym e ∙ ap (λ (x : Result (Unit {0}) Refusal). checked_number x) was

-- ---- 11 to 14, of an accepted plan

module _ (p : Plan) (b : Image) (h : plan_refusal p ≡ 0) where
  pub image_11 : (length b ≡ image_length → ⊥) → refusal (plan_rules p ++ image_rules p b) ≡ 11
  unfolding image_rules length_rule refusal unless
  image_11 f = plan_kept p (image_rules p b) h ∙ rw (ne_eqb (length b) image_length f) refl

  module _ (l : length b ≡ image_length) where
    pub image_12 : head_matches p b ≡ false → refusal (plan_rules p ++ image_rules p b) ≡ 12
    unfolding image_rules length_rule refusal unless
    image_12 m = plan_kept p (image_rules p b) h ∙ rw (eq-eqb (length b) image_length l, m) refl

    module _ (m : head_matches p b ≡ true) where
      pub image_13 : configuration_ok p (configuration_of b) ≡ false → refusal (plan_rules p ++ image_rules p b) ≡ 13
      unfolding image_rules length_rule refusal unless
      image_13 c = plan_kept p (image_rules p b) h ∙ rw (eq-eqb (length b) image_length l, m, c) refl

      module _ (c : configuration_ok p (configuration_of b) ≡ true) where
        pub image_14 : marks_ok p (configuration_of b) (marks_of b) ≡ false → refusal (plan_rules p ++ image_rules p b) ≡ 14
        unfolding image_rules length_rule refusal unless
        image_14 k = plan_kept p (image_rules p b) h ∙ rw (eq-eqb (length b) image_length l, m, c, k) refl

        pub image-kept : marks_ok p (configuration_of b) (marks_of b) ≡ true → refusal (plan_rules p ++ image_rules p b) ≡ 0
        unfolding image_rules length_rule refusal unless
        image-kept k = plan_kept p (image_rules p b) h ∙ rw (eq-eqb (length b) image_length l, m, c, k) refl

-- ---- start

-- what a call gives by the number of its refusal
pub unless_refused_some : (n : ℕ) (b : Image) (o : Outcome) → (n ≡ 0 → ⊥) → unless_refused n b o ≡ outcome (refused n) b
unfolding unless_refused
unless_refused_some zero b o h = absurd (h refl)
unless_refused_some (suc n) b o h = refl

start-refused : (p : Plan) (b : Image) (n : ℕ) → refusal (start_rules p b) ≡ n → (n ≡ 0 → ⊥) → start p b ≡ outcome (refused n) b
unfolding start
start-refused p b n e h = rw e (unless_refused_some n b _ h)

pub start_refuses : (p : Plan) (b : Image) (c : Result (Unit {0}) Refusal) (r : Refusal) → checked_number c ≡ plan_refusal p → c ≡ Err r
    → start p b ≡ outcome (refused (number r)) b
unfolding start_rules
start_refuses p b c r e was = start-refused p b (number r) (sym (plan_refuses p _ c r e was)) (above_0 r)

module _ (p : Plan) (b : Image) (h : plan_refusal p ≡ 0) where
  pub start_11 : (length b ≡ image_length → ⊥) → start p b ≡ outcome (refused 11) b
  unfolding start_rules length_rule refusal unless
  start_11 f = start-refused p b 11 (plan_kept p _ h ∙ rw (ne_eqb (length b) image_length f) refl) (λ z. omega arith)

  pub start_15 : length b ≡ image_length → good p (initial p) ≡ false → start p b ≡ outcome (refused 15) b
  unfolding start_rules length_rule refusal unless
  start_15 e f = start-refused p b 15 (plan_kept p _ h ∙ rw (eq-eqb (length b) image_length e, f) refl) (λ z. omega arith)

  pub start-accepted : length b ≡ image_length → good p (initial p) ≡ true → start p b ≡ outcome accepted (image p (initial p) 0)
  unfolding start start_rules length_rule refusal unless unless_refused
  start-accepted e f =
      rw (plan_kept p (length_rule b ∷ rule 15 (good p (initial p)) ∷ []) h, eq-eqb (length b) image_length e, f) refl
