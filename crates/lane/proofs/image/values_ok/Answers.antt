use mathlib.Core.Bool.{true, ◌&&◌}
use mathlib.Core.Path.{◌≡◌, sym, ap₂, ◌∙◌}
use Prim.Native.Nat.{ℕ, ◌≤◌, ◌<◌}
use native.Mathlib.Omega.{arith}
use lib.Dec.{ltb, eqb, lit<}
use lib.Signed.{mag}
use mir.Syntax.{w32}
use mir.Val.{of_z}
use lib.IntN.{pos}
use lib.ListN.{get_or}
use Rattle.semantics.proofs.Basics.{every_all, or_left, lt-ltb, le-ltb}
use Rattle.semantics.specs.Signed.{equal_z}
use Rattle.semantics.specs.Code.{State, valued}
use Rattle.semantics.specs.Plan.{Plan, variables}
use Rattle.semantics.specs.Image.{value_ok}
use Rattle.semantics.specs.Bytes.{every}
use Rattle.arith.proofs.Signed32.{same_bits}
use Rattle.words.proofs.Loops.{every_step}
use Rattle.lane.proofs.image.values_ok.Goals as goal

-- a variable's value may be any
named : (p : Plan) (s : State) (n : ℕ) → n ≤ variables p → every n (value_ok p s) ≡ true
unfolding value_ok
named p s n h =
    every_all n (value_ok p s)
    (λ k l. or_left (ltb k (variables p)) (equal_z (get_or s.values k (pos 0)) (pos 0)) (lt-ltb k (variables p) (omega arith)))

pub loop-v-init : goal.loop-v-init
loop-v-init c = sym (named c.args.plan.now (valued c.args.values.now) c.variables-v.result (omega arith))

pub loop-v-preserved : goal.loop-v-preserved
unfolding value_ok
loop-v-preserved c =
    let p = c.args.plan.now in
    let l = c.loop-v in
    let z = get_or c.args.values.now l.v (pos 0) in
    let h : mag z < 2147483648 = omega arith in
    let e : eqb (of_z w32 z) 0 ≡ value_ok p (valued c.args.values.now) l.v =
    rw (le-ltb l.v (variables p) (omega arith)) (same_bits z (pos 0) h (lit< tt)) in
    ap₂ ◌&&◌ l.invariant e ∙ sym (every_step l.v (value_ok p (valued c.args.values.now)))
