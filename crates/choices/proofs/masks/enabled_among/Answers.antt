use mathlib.Core.Path.{◌≡◌, ap, sym, ◌∙◌}
use mathlib.Core.Bool.{Bool, true, not, ◌&&◌, and-false}
use Prim.Native.Nat.{ℕ}
use native.Mathlib.Nat.{le_refl}
use native.Mathlib.Omega.{arith}
use lib.Dec.{eqb}
use Rattle.semantics.specs.Bytes.{bit, with_bit}
use Rattle.semantics.proofs.Basics.{and_both, both_and}
use Rattle.words.proofs.Gather.{passed_none, passed_all, lowest-held, passed_yes, passed_no}
use Rattle.layout.proofs.Sections.{laid_accepted}
use Rattle.choices.proofs.masks.enabled_among.Goals as goal
use Rattle.choices.proofs.masks.enabled_among.Goals.{After-lowest_bit-i, then-is_enabled, else-is_enabled}

-- the lowest number that is left is of the mask
held : (c : After-lowest_bit-i) → bit c.args.moves c.lowest_bit-i.result ≡ true
held c = c.loop-left.invariant.1 _ (lowest-held c.loop-left.left _ c.lowest_bit-i.ensures.0 (omega arith) (omega arith))

pub loop-left-init : goal.loop-left-init
loop-left-init c = (le_refl _, λ j e. e, passed_none _ _ _ (λ j e. (and_both (bit c.args.moves j) _ e).0))

pub is_enabled-requires-clause-i_bound : goal.is_enabled-requires-clause-i_bound
is_enabled-requires-clause-i_bound c = c.requires.by_index _ (held (goal.at.is_enabled-requires-clause-i_bound c).After-lowest_bit-i)

pub loop-left-preserved : goal.loop-left-preserved
loop-left-preserved c =
    let i = c.lowest_bit-i.result in
    let left = c.loop-left.left in
    let next = c.without_lowest-left in
    let here = held (goal.at.loop-left-preserved c).After-lowest_bit-i in
    let is = sym c.is_enabled.ensures in
    let cut : (j : ℕ) → bit next.result j ≡ (bit left j && not (eqb j i)) = λ j. next.ensures.0 j ∙ ap (λ (x : ℕ). bit left j && not (eqb j x)) (sym c.lowest_bit-i.ensures.0) in (
      omega arith,
      λ j e. c.loop-left.invariant.1 j (and_both (bit left j) _ (sym (cut j) ∙ e)).0,
      elim c.if-is_enabled.branch [
        | then-is_enabled w ↦
            w.found-is ∙ w.with_bit-found.ensures ∙ ap (λ (x : ℕ). with_bit x i) c.loop-left.invariant.2
            ∙ passed_yes _ _ left _ i cut (c.requires.by_index i here).0 (laid_accepted _ c.requires.plan_value).interactions≤ (both_and here (is ∙ w.if-is_enabled.true))
        | else-is_enabled w ↦
            w.found-is ∙ c.loop-left.invariant.2
            ∙ passed_no _ _ left _ i cut (ap (λ (x : Bool). bit c.args.moves i && x) (is ∙ w.if-is_enabled.false) ∙ and-false (bit c.args.moves i))
      ],
    )

pub returns : goal.returns
returns c = grind (arith, passed_all)
