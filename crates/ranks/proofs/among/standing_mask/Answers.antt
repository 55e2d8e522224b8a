use Rattle.words.proofs.Gather.{passed, passed_none, passed_all, lowest-held, held_inside, still_inside, passed_yes, passed_no}
use Rattle.ranks.proofs.StandingLaws.{stands_in, stands-yes, stands_no}
use Rattle.layout.proofs.Sections.{laid_accepted}
use Rattle.semantics.specs.Bytes.{bit, with_bit}
use Rattle.semantics.specs.Plan.{interactions}
use Rattle.ranks.specs.Standing.{stands, standing}
use native.Mathlib.Omega.{arith}
use native.Mathlib.Nat.{le_refl}
use Prim.Native.Nat.{ℕ, ◌<◌}
use lib.Dec.{eqb}
use mathlib.Core.Bool.{true, not, ◌&&◌}
use mathlib.Core.Path.{◌≡◌, ap, sym, ◌∙◌}
use Rattle.ranks.proofs.among.standing_mask.Goals.{After-lowest_bit-i, then-not-is_outranked, else-not-is_outranked}
use Rattle.ranks.proofs.among.standing_mask.Goals as goal

pub loop-left-init : goal.loop-left-init
loop-left-init c = (le_refl _, λ j e. e, passed_none _ _ _ (stands_in _ _))

-- the lowest of what is left is in the mask
held : (c : After-lowest_bit-i) → bit c.args.moves c.lowest_bit-i.result ≡ true
held c = c.loop-left.invariant.1 c.lowest_bit-i.result (lowest-held c.loop-left.left c.lowest_bit-i.result c.lowest_bit-i.ensures.0 (omega arith) (omega arith))

inside : (c : After-lowest_bit-i) → c.lowest_bit-i.result < interactions c.args.plan.now
inside c = held_inside _ c.args.moves c.lowest_bit-i.result c.requires.moves_bound (held c)

pub is_outranked-requires-clause-i_bound : goal.is_outranked-requires-clause-i_bound
is_outranked-requires-clause-i_bound c = inside (goal.at.is_outranked-requires-clause-i_bound c).After-lowest_bit-i

pub loop-left-preserved : goal.loop-left-preserved
loop-left-preserved c =
    let p = c.args.plan.now in
    let m = c.args.moves in
    let i = c.lowest_bit-i.result in
    let left = c.loop-left.left in
    let next = c.without_lowest-left.result in
    let here = (goal.at.loop-left-preserved c).After-lowest_bit-i in
    let cut : (j : ℕ) → bit next j ≡ (bit left j && not (eqb j i)) = λ j. c.without_lowest-left.ensures.0 j ∙ ap (λ (x : ℕ). bit left j && not (eqb j x)) (sym c.lowest_bit-i.ensures.0) in (
      omega arith,
      still_inside (interactions p) (stands p m) left next i cut m c.loop-left.invariant.1,
      elim c.if-not-is_outranked.branch [
        | then-not-is_outranked w ↦ w.out-is ∙ w.with_bit-out.ensures ∙ ap (λ (x : ℕ). with_bit x i) c.loop-left.invariant.2 ∙ passed_yes (interactions p) (stands p m) left next i cut
            (inside here) (laid_accepted _ c.requires.plan_value).interactions≤ (stands-yes p m i (held here) (sym c.is_outranked.ensures ∙ w.if-not-is_outranked.true))
        | else-not-is_outranked w ↦ w.out-is ∙ c.loop-left.invariant.2 ∙ passed_no (interactions p) (stands p m) left next i cut (stands_no p m i (sym c.is_outranked.ensures ∙ w.if-not-is_outranked.false))
      ],
    )

pub returns : goal.returns
unfolding standing
returns c =
    let f = stands c.args.plan.now c.args.moves in
    c.loop-left.invariant.2 ∙ ap (passed (interactions c.args.plan.now) f) (omega arith) ∙ passed_all (interactions c.args.plan.now) f
