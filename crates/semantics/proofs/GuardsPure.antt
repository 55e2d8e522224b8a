-- Guards and propositions of an accepted plan store nothing: they hold no word of kind 3.
use mathlib.Core.Path.{◌≡◌, refl, ◌∙◌}
use Prim.Native.Nat.{ℕ, zero, suc, ◌+◌, ◌<◌}
use mathlib.Core.Bool.{Bool, true, false}
use mathlib.Core.List.{[]}
use mathlib.Core.Option.{some}
use Rattle.semantics.specs.Plan.{Plan, Span, transitions, interactions, propositions, guard_of, interaction_guard, proposition_of, word}
use Rattle.semantics.specs.Code.{State, Instruction, push, extend_top, load, store, located, last_port, operator, unknown, decode, Machine, perform, ran, acted, Role, allowed, depth, span_ok}
use Rattle.semantics.specs.Rules.{plan_refusal}
use Rattle.semantics.proofs.Basics.{absurd_bool, each}
use Rattle.semantics.proofs.AcceptedPlan.{Accepted, accepted_plan, guard_ok, interaction_guard_ok, proposition_ok}
use Rattle.semantics.proofs.Spans.{word_step, span-depth}

module _ (p : Plan) (r : Role) (names : ℕ → Bool) (no_store : r.stores ≡ false) where
  perform_pure : (i : Instruction) (s : State) (m : Machine) → allowed p r names i ≡ true → (perform i s m).values ≡ m.values
  unfolding perform allowed
  perform_pure (push n) s m a = refl
  perform_pure (extend_top n) s m a = refl
  perform_pure (load n) s m a = refl
  perform_pure (store n) s m a = absurd_bool (each _ a).0 no_store
  perform_pure (located c l) s m a = refl
  perform_pure (last_port c q) s m a = refl
  perform_pure (operator n) s m a = refl
  perform_pure unknown s m a = refl

  ran_pure : (s : State) (k n d : ℕ) → depth p r names k n ≡ some d → (ran p s k n).values ≡ s.values
  unfolding ran
  ran_pure s k zero d e = refl
  ran_pure s k (suc n) d e =
      let w = word_step p r names k n d e in perform_pure (decode (word p (k + n))) s (ran p s k n) w.step.fits ∙ ran_pure s k n w.was w.counted

  -- a span that may not store leaves every value as it was
  pub span_pure : (g : Span) → span_ok p r names g ≡ true → (s : State) → acted p s g ≡ s
  unfolding acted
  span_pure g e s =
      let d = span-depth p r names g e in
      λ i. record { locations = s.locations; last_ports = s.last_ports; values = ran_pure s g.start g.size d.0 d.1 i }

pub record Pure (p : Plan) : Type 0 where
  pub guard : (t : ℕ) → t < transitions p → (s : State) → acted p s (guard_of p t) ≡ s
  pub interaction-guard : (i : ℕ) → i < interactions p → (s : State) → acted p s (interaction_guard p i) ≡ s
  pub proposition : (k : ℕ) → k < propositions p → (s : State) → acted p s (proposition_of p k) ≡ s

pub guards_pure : (p : Plan) → plan_refusal p ≡ 0 → Pure p
guards_pure p e =
    let a : Accepted p = accepted_plan p e in
    record {
      guard = λ t h. span_pure p _ _ refl (guard_of p t) (guard_ok p a t h);
      interaction-guard = λ i h. span_pure p _ _ refl (interaction_guard p i) (interaction_guard_ok p a i h);
      proposition = λ k h. span_pure p _ _ refl (proposition_of p k) (proposition_ok p a k h);
    }
