use mathlib.Core.Path.{◌≡◌, sym, ap, subst, ◌∙◌}
use Prim.Native.Nat.{ℕ, ◌≤◌, ◌<◌}
use native.Mathlib.Omega.{arith}
use mathlib.Core.Bool.{Bool, true, not, ◌&&◌}
use lib.Bits.{bit_and, and_le_l}
use lib.Dec.{eqb, ltb}
use Rattle.semantics.specs.Bytes.{bit, mask, with_bit}
use Rattle.semantics.specs.Plan.{interactions}
use Rattle.semantics.proofs.Basics.{and_both}
use Rattle.words.proofs.BitLaws.{bit_and_lem}
use Rattle.layout.proofs.Sections.{laid_accepted}
use Rattle.words.proofs.Gather.{passed, passed_none, passed_all, lowest-held, held_inside, still_inside, passed_yes, passed_no}
use Rattle.ranks.proofs.ClimbLaws.{beside, beside_in, beside_yes, beside_no, beside_bit, beside_le}
use Rattle.ranks.proofs.among.lower_beside.Goals.{After-first_bits, After-lowest_bit-j, then-not-lies_below, else-not-lies_below}
use Rattle.ranks.proofs.among.lower_beside.Goals as goal

pub first_bits-requires : goal.first_bits-requires
first_bits-requires c = omega (arith, c.requires.moves_bound.1, (laid_accepted _ c.requires.plan_value).interactions≤)

-- what is left at first: the numbers of the mask that are lower than n
lower : (c : After-first_bits) → (j : ℕ) → bit (bit_and c.args.moves c.first_bits.result) j ≡ (bit c.args.moves j && ltb j c.args.n)
lower c j = bit_and_lem c.args.moves c.first_bits.result j ∙ ap (λ (b : Bool). bit c.args.moves j && b) (c.first_bits.ensures j)

-- the lowest of what is left is one of these
named : (c : After-lowest_bit-j) → (bit c.args.moves c.lowest_bit-j.result && ltb c.lowest_bit-j.result c.args.n) ≡ true
named c =
    let l = c.loop-left in
    let i = c.lowest_bit-j.result in
    sym (lower (goal.at.After-lowest_bit-j c).After-first_bits i) ∙ l.invariant.1 i (lowest-held l.left i c.lowest_bit-j.ensures.0 (omega (arith, l.invariant.0)) (omega arith))

inside : (c : After-lowest_bit-j) → c.lowest_bit-j.result < interactions c.args.plan.now
inside c =
    let i = c.lowest_bit-j.result in
    held_inside _ c.args.moves i c.requires.moves_bound.0 (and_both (bit c.args.moves i) (ltb i c.args.n) (named c)).0

pub loop-left-init : goal.loop-left-init
loop-left-init c =
    let a = c.args in
    let p = a.plan.now in (
      and_le_l a.moves c.first_bits.result,
      λ j e. e,
      passed_none (interactions p) (bit_and a.moves c.first_bits.result) (beside p a.moves a.n) (λ j e. lower (goal.at.loop-left-init c).After-first_bits j ∙ beside_in p a.moves a.n j e),
    )

pub lies_below-requires : goal.lies_below-requires
lies_below-requires c =
    let low : c.lowest_bit-j.result < interactions c.args.plan.now = inside (goal.at.lies_below-requires c).After-lowest_bit-j in
    (laid_accepted _ c.requires.plan_value, omega (arith, low, c.requires.moves_bound.1), omega (arith, low, c.requires.moves_bound.1))

pub loop-left-preserved : goal.loop-left-preserved
loop-left-preserved c =
    let here = (goal.at.loop-left-preserved c).After-lowest_bit-j in
    let p = c.args.plan.now in
    let m = c.args.moves in
    let n = c.args.n in
    let i = c.lowest_bit-j.result in
    let left = c.loop-left.left in
    let next = c.without_lowest-left.result in
    let cut : (j : ℕ) → bit next j ≡ (bit left j && not (eqb j i)) = λ j. c.without_lowest-left.ensures.0 j ∙ ap (λ (x : ℕ). bit left j && not (eqb j x)) (sym c.lowest_bit-j.ensures.0) in (
      omega (arith, c.without_lowest-left.ensures.1, c.loop-left.invariant.0),
      still_inside (interactions p) (beside p m n) left next i cut (bit_and m c.first_bits.result) c.loop-left.invariant.1,
      elim c.if-not-lies_below.branch [
        | then-not-lies_below w ↦ w.out-is ∙ w.with_bit-out.ensures ∙ ap (λ (x : ℕ). with_bit x i) c.loop-left.invariant.2 ∙ passed_yes (interactions p) (beside p m n) left next i cut
            (inside here) (laid_accepted _ c.requires.plan_value).interactions≤ (beside_yes p m n i (named here) (sym c.lies_below.ensures ∙ w.if-not-lies_below.true))
        | else-not-lies_below w ↦ w.out-is ∙ c.loop-left.invariant.2 ∙ passed_no (interactions p) (beside p m n) left next i cut (beside_no p m n i (sym c.lies_below.ensures ∙ w.if-not-lies_below.false))
      ],
    )

pub returns : goal.returns
returns c =
    let l = c.loop-left in
    let p = c.args.plan.now in
    let m = c.args.moves in
    let n = c.args.n in
    let e : l.out ≡ mask (interactions p) (beside p m n) =
    l.invariant.2 ∙ ap (passed (interactions p) (beside p m n)) (omega arith) ∙ passed_all (interactions p) (beside p m n) in (
      λ j. ap (λ (x : ℕ). bit x j) e ∙ beside_bit p m n (interactions p) c.requires.moves_bound.1 j,
      subst (λ (x : ℕ). x ≤ m) (sym e) (beside_le p m n (interactions p) c.requires.moves_bound.1),
    )
