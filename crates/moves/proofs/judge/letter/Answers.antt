use native.Mathlib.Omega.{arith}
use Prim.Native.Nat.{ℕ, ◌<◌}
use mathlib.Core.Path.{◌≡◌, ap, ◌∙◌, subst, sym}
use mathlib.Core.Bool.{Bool}
use Rattle.semantics.proofs.Sound.{letter_lt}
use Rattle.semantics.specs.Move.{letter}
use Rattle.semantics.specs.Code.{guard_holds, site}
use Rattle.semantics.specs.Plan.{propositions, letters, span_at, proposition_of}
use Rattle.semantics.specs.Bytes.{mask, with_bit}
use Rattle.layout.proofs.Sections.{laid_accepted}
use Rattle.words.proofs.Loops.{mask-yes, mask_no}
use Rattle.moves.proofs.judge.letter.Goals as goal
use Rattle.moves.proofs.judge.letter.Goals.{then-guard_holds, else-guard_holds}

pub loop-k-preserved : goal.loop-k-preserved
loop-k-preserved c =
    let a = c.args in
    let p = a.plan.now in
    let st = site a.state.now.locations a.state.now.last_ports a.state.now.values in
    let k = c.loop-k.k in
    let f : ℕ → Bool = λ j. guard_holds p st (proposition_of p j) in
    let h : k < 64 = omega (arith, (laid_accepted p c.requires).propositions≤) in
    let e : c.guard_holds.result ≡ f k = c.guard_holds.ensures ∙ ap (λ (x : ℕ). guard_holds p st (span_at p x)) c.proposition_at.ensures.0 in
    elim c.if-guard_holds.branch [
      | then-guard_holds w ↦
          w.out-is ∙ w.with_bit-out.ensures ∙ ap (λ (m : ℕ). with_bit m k) c.loop-k.invariant ∙ mask-yes k f h (sym e ∙ w.if-guard_holds.true)
      | else-guard_holds w ↦ w.out-is ∙ c.loop-k.invariant ∙ mask_no k f (sym e ∙ w.if-guard_holds.false)
    ]

pub returns : goal.returns
unfolding letter
returns c =
    let a = c.args in
    let p = a.plan.now in
    let st = site a.state.now.locations a.state.now.last_ports a.state.now.values in
    let e : c.loop-k.k ≡ propositions p = omega arith in
    let x : c.loop-k.out ≡ letter p st = c.loop-k.invariant ∙ ap (λ (n : ℕ). mask n (λ j. guard_holds p st (proposition_of p j))) e in
    (x, subst (λ (y : ℕ). y < letters p) (sym x) (letter_lt p st))
