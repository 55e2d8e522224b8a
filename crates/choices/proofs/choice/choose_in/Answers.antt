use mathlib.Core.Path.{◌≡◌, ap, ◌∙◌}
use mathlib.Core.Bool.{false}
use Prim.Native.Nat.{ℕ, ◌+◌}
use native.Mathlib.Omega.{arith}
use Rattle.semantics.specs.Bytes.{byte}
use Rattle.semantics.specs.Plan.{component_of, port_of, port_in}
use Rattle.semantics.proofs.Basics.{absurd_bool, eq-eqb}
use Rattle.choices.proofs.ChoiceLaws.{found_none, found_join}
use Rattle.choices.proofs.choice.choose_in.Goals as goal

pub loop-t-init : goal.loop-t-init
loop-t-init c = (c.transitions-t-end.ensures.0, c.interaction_at-row.ensures.1, found_none _ _ _ _ c.requires.plan_value c.requires.i_bound.0 c.requires.i_bound.1)

pub loop-t-preserved : goal.loop-t-preserved
loop-t-preserved c =
    let p = c.args.plan.now in
    let t = c.loop-t.t in
    let other : c.is_named.result ≡ false → port_in p c.args.i (component_of p t) ≡ port_of p t → ⊥ =
    λ e q. absurd_bool (c.is_named.ensures ∙ eq-eqb _ _ (ap (λ (x : ℕ). byte p (x + component_of p t)) c.interaction_at-row.ensures.0 ∙ q)) e in (
      c.loop-t.invariant.0,
      c.loop-t.invariant.1,
      found_join p _ c.args.i c.loop-t.out t (omega arith) c.loop-t.invariant.2 c.requires.plan_value c.requires.i_bound.0 c.is_named.result _
          (λ e. (grind arith, grind arith)) (λ e. grind arith) other,
    )
