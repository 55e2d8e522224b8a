use mathlib.Core.Path.{◌≡◌, refl, sym, ap, ap₂, ◌∙◌}
use Prim.Native.Nat.{ℕ, ◌<◌}
use native.Mathlib.Nat.{le_refl}
use native.Mathlib.Omega.{arith}
use mathlib.Core.Bool.{Bool, true, not, ◌&&◌, and-true}
use mathlib.Core.Logic.{⊎_elim}
use lib.Bits.{bit_or}
use lib.Dec.{eqb}
use Rattle.semantics.specs.Bytes.{implies, every, lowest, bit, with_bit}
use Rattle.semantics.specs.Plan.{Plan, interactions, rank_row}
use Rattle.semantics.proofs.Basics.{absurd_bool, and_both, both_and, or_cases, or_left, or_right, eq-eqb}
use Rattle.semantics.proofs.Masks.{bit-zero}
use Rattle.words.proofs.BitLaws.{bit_or_lem}
use Rattle.words.proofs.SubsetLaws.{union_inside}
use Rattle.words.proofs.Gather.{lowest-held, with_held}
use Rattle.ranks.specs.RankRow.{covers, Reached}
use Rattle.ranks.proofs.RankRows.{bounded_at}
use Rattle.ranks.proofs.RankWalk.{Tried, left_start, tried, left_next, left_done, closed-covers}
use Rattle.ranks.proofs.order.is_closed.Goals as goal
use Rattle.ranks.proofs.order.is_closed.Goals.{After-inside, After-inside-in-loop-left, After-lowest_bit, After-lowest_bit-in-loop-left, After-highest_bit-high}

-- a mask without its lowest number
cut : (m j r : ℕ) → j ≡ lowest 64 (bit m) → ((k : ℕ) → bit r k ≡ (bit m k && not (eqb k (lowest 64 (bit m))))) → (k : ℕ) → bit r k ≡ (bit m k && not (eqb k j))
cut m j r e b k = b k ∙ ap (λ (x : ℕ). bit m k && not (eqb k x)) (sym e)

-- both rows lie in the row where their union does
inside_both : (p : Plan) (row i j u v : ℕ) (r : Bool) → r ≡ every 64 (λ k. implies (bit (bit_or u v) k) (bit row k))
    → u ≡ rank_row p i → v ≡ rank_row p j → r ≡ (covers p row i && covers p row j)
unfolding covers
inside_both p row i j u v r e f g =
    e ∙ ap (λ (m : ℕ). every 64 (λ k. implies (bit m k) (bit row k))) (ap₂ bit_or f g) ∙ union_inside 64 (rank_row p i) (rank_row p j) row

-- what the rows of two tried numbers hold, and the second of them, is reached
reached_both : (p : Plan) (row i j : ℕ) → Tried p row i → Tried p row j
    → (k : ℕ) → bit (with_bit (bit_or (rank_row p i) (rank_row p j)) j) k ≡ true → Reached p row k
reached_both p row i j t u k b =
    ⊎_elim
    (λ e. or_cases (bit (rank_row p i) k) (bit (rank_row p j) k) (sym (bit_or_lem (rank_row p i) (rank_row p j) k) ∙ e)
    (λ d. t k (or_right (eqb k i) (bit (rank_row p i) k) d)) (λ d. u k (or_right (eqb k j) (bit (rank_row p j) k) d)))
    (λ e. u k (or_left (eqb k j) (bit (rank_row p j) k) (eq-eqb k j e)))
    (with_held _ j k b)

-- a number of the row is an interaction
named : (c : After-lowest_bit) → (j : ℕ) → j < 64 → bit c.args.row j ≡ true → j < interactions c.args.plan.now
named c = bounded_at c.args.plan.now c.args.row c.requires.1

first_in : (c : After-lowest_bit) → bit c.args.row c.lowest_bit.result ≡ true
first_in c = lowest-held c.args.row c.lowest_bit.result c.lowest_bit.ensures.0 (omega arith) (omega arith)

-- what `inside` answers of it
seen : (c : After-inside) → c.inside.result ≡ covers c.args.plan.now c.args.row c.lowest_bit.result
seen c = unfold covers in c.inside.ensures ∙ ap (λ (m : ℕ). every 64 (λ k. implies (bit m k) (bit c.args.row k))) c.rank_row-above.ensures

-- what is left without it
rest_cut : (c : After-lowest_bit-in-loop-left) → (k : ℕ) → bit c.without_lowest-rest.result k ≡ (bit c.loop-left.left k && not (eqb k c.lowest_bit-in-loop-left.result))
rest_cut c =
    cut c.loop-left.left c.lowest_bit-in-loop-left.result c.without_lowest-rest.result c.lowest_bit-in-loop-left.ensures.0 c.without_lowest-rest.ensures.0

-- the lowest and the highest of what is left are numbers of the row
low_in : (c : After-lowest_bit-in-loop-left) → bit c.args.row c.lowest_bit-in-loop-left.result ≡ true
low_in c =
    let l = c.loop-left in
    let low : ℕ = c.lowest_bit-in-loop-left.result in
    l.invariant.inside low (lowest-held l.left low c.lowest_bit-in-loop-left.ensures.0 (omega arith) (omega arith))

high_in : (c : After-highest_bit-high) → bit c.args.row c.highest_bit-high.result ≡ true
high_in c =
    let l = c.loop-left in
    let high : ℕ = c.highest_bit-high.result in
    l.invariant.inside high (and_both (bit l.left high) (not (eqb high c.lowest_bit-in-loop-left.result)) (sym (rest_cut (goal.at.After-highest_bit-high c).After-lowest_bit-in-loop-left high) ∙ c.highest_bit-high.ensures.0)).0

-- what `inside` answers of both
seen_both : (c : After-inside-in-loop-left) → c.inside-in-loop-left.result ≡ (covers c.args.plan.now c.args.row c.lowest_bit-in-loop-left.result && covers c.args.plan.now c.args.row c.highest_bit-high.result)
seen_both c =
    inside_both c.args.plan.now c.args.row c.lowest_bit-in-loop-left.result c.highest_bit-high.result _ _ _ c.inside-in-loop-left.ensures c.rank_row-low.ensures c.rank_row.ensures

pub returns-then-row-eq0 : goal.returns-then-row-eq0
returns-then-row-eq0 c =
    let a = c.args in
    (λ t. left_done a.plan.now a.row a.row (left_start a.plan.now a.row) c.if-row-eq0.true, λ e. refl)

pub rank_row-above-requires : goal.rank_row-above-requires
rank_row-above-requires c =
    (c.requires.0, (named (goal.at.rank_row-above-requires c).After-lowest_bit) c.lowest_bit.result c.lowest_bit.ensures.1 (first_in (goal.at.rank_row-above-requires c).After-lowest_bit))

pub returns-then-not-inside : goal.returns-then-not-inside
returns-then-not-inside c =
    let plan : Plan = c.args.plan.now in
    let row : ℕ = c.args.row in (
      λ t. absurd_bool t refl,
      λ e. absurd_bool (closed-covers plan row e c.lowest_bit.result c.lowest_bit.ensures.1 (first_in (goal.at.returns-then-not-inside c).After-lowest_bit)) (sym (seen (goal.at.returns-then-not-inside c).After-inside) ∙ c.if-not-inside.true),
    )

pub loop-left-init : goal.loop-left-init
loop-left-init c =
    let plan : Plan = c.args.plan.now in
    let row : ℕ = c.args.row in
    let j = c.lowest_bit.result in
    let t : Tried plan row j = tried plan row j c.lowest_bit.ensures.1 (first_in (goal.at.loop-left-init c).After-lowest_bit) (sym (seen (goal.at.loop-left-init c).After-inside) ∙ c.if-not-inside.false) in
    left_next plan row row j c.rank_row-above.result c.without_lowest.result c.without-left.result (left_start plan row) t
    (λ k b. t k (or_right (eqb k j) (bit (rank_row plan j) k) (ap (λ (m : ℕ). bit m k) (sym c.rank_row-above.ensures) ∙ b)))
    c.without_lowest.ensures.1 (cut row j c.without_lowest.result c.lowest_bit.ensures.0 c.without_lowest.ensures.0) c.without-left.ensures.1 c.without-left.ensures.0

pub rank_row-low-requires : goal.rank_row-low-requires
rank_row-low-requires c =
    (c.requires.0, named (goal.at.rank_row-low-requires c).After-lowest_bit c.lowest_bit-in-loop-left.result c.lowest_bit-in-loop-left.ensures.1 (low_in (goal.at.rank_row-low-requires c).After-lowest_bit-in-loop-left))

-- the lowest is the last
pub returns-then-rest-eq0 : goal.returns-then-rest-eq0
returns-then-rest-eq0 c =
    let plan : Plan = c.args.plan.now in
    let row : ℕ = c.args.row in
    let low : ℕ = c.lowest_bit-in-loop-left.result in
    let low-in = low_in (goal.at.returns-then-rest-eq0 c).After-lowest_bit-in-loop-left in
    let seen_last : c.inside-then-rest-eq0.result ≡ covers plan row low =
    unfold covers in c.inside-then-rest-eq0.ensures ∙ ap (λ (m : ℕ). every 64 (λ k. implies (bit m k) (bit row k))) c.rank_row-low.ensures in
    let l = c.loop-left in
    let rest = c.without_lowest-rest.result in (
      λ t. left_done plan row rest
          (left_next plan row l.left low 0 rest rest l.invariant (tried plan row low c.lowest_bit-in-loop-left.ensures.1 low-in (sym seen_last ∙ t))
          (λ k b. absurd (absurd_bool b (bit-zero k))) c.without_lowest-rest.ensures.1 (rest_cut (goal.at.returns-then-rest-eq0 c).After-lowest_bit-in-loop-left) (le_refl rest)
          (λ k. sym (ap (λ (x : Bool). bit rest k && not x) (bit-zero k) ∙ and-true (bit rest k))))
          c.if-rest-eq0.true,
      λ e. seen_last ∙ closed-covers plan row e low c.lowest_bit-in-loop-left.ensures.1 low-in,
    )

pub rank_row-requires : goal.rank_row-requires
rank_row-requires c =
    (c.requires.0, named (goal.at.rank_row-requires c).After-lowest_bit c.highest_bit-high.result c.highest_bit-high.ensures.2 (high_in (goal.at.rank_row-requires c).After-highest_bit-high))

pub returns-then-not-inside-2 : goal.returns-then-not-inside-2
returns-then-not-inside-2 c =
    let plan : Plan = c.args.plan.now in
    let row : ℕ = c.args.row in
    let low : ℕ = c.lowest_bit-in-loop-left.result in
    let low-in = low_in (goal.at.returns-then-not-inside-2 c).After-lowest_bit-in-loop-left in
    let high : ℕ = c.highest_bit-high.result in
    let high-in = high_in (goal.at.returns-then-not-inside-2 c).After-highest_bit-high in
    let within = closed-covers plan row in (
      λ t. absurd_bool t refl,
      λ e. absurd_bool (both_and (within e low c.lowest_bit-in-loop-left.ensures.1 low-in) (within e high c.highest_bit-high.ensures.2 high-in))
          (sym (seen_both (goal.at.returns-then-not-inside-2 c).After-inside-in-loop-left) ∙ c.if-not-inside-2.true),
    )

pub loop-left-preserved : goal.loop-left-preserved
loop-left-preserved c =
    let plan : Plan = c.args.plan.now in
    let row : ℕ = c.args.row in
    let low : ℕ = c.lowest_bit-in-loop-left.result in
    let high : ℕ = c.highest_bit-high.result in
    let high-in = high_in (goal.at.loop-left-preserved c).After-highest_bit-high in
    let low-in = low_in (goal.at.loop-left-preserved c).After-lowest_bit-in-loop-left in
    let union : bit_or c.rank_row-low.result c.rank_row.result ≡ bit_or (rank_row plan low) (rank_row plan high) =
    ap₂ bit_or c.rank_row-low.ensures c.rank_row.ensures in
    let both : (covers plan row low ≡ true) × (covers plan row high ≡ true) =
    and_both (covers plan row low) (covers plan row high) (sym (seen_both (goal.at.loop-left-preserved c).After-inside-in-loop-left) ∙ c.if-not-inside-2.false) in
    let reached : (k : ℕ) → bit c.with_bit.result k ≡ true → Reached plan row k =
    λ k b. reached_both plan row low high (tried plan row low c.lowest_bit-in-loop-left.ensures.1 low-in both.0)
    (tried plan row high c.highest_bit-high.ensures.2 high-in both.1) k
    (ap (λ (m : ℕ). bit (with_bit m high) k) (sym union) ∙ ap (λ (m : ℕ). bit m k) (sym c.with_bit.ensures) ∙ b) in
    let l = c.loop-left in
    left_next plan row l.left low c.with_bit.result c.without_lowest-rest.result c.without-left-in-loop-left.result l.invariant (tried plan row low c.lowest_bit-in-loop-left.ensures.1 low-in both.0) reached
    c.without_lowest-rest.ensures.1 (rest_cut (goal.at.loop-left-preserved c).After-lowest_bit-in-loop-left) c.without-left-in-loop-left.ensures.1 c.without-left-in-loop-left.ensures.0

pub returns : goal.returns
returns c =
    let plan : Plan = c.args.plan.now in
    let row : ℕ = c.args.row in
    let l = c.loop-left in
    (λ t. left_done plan row l.left l.invariant (omega arith), λ e. refl)
