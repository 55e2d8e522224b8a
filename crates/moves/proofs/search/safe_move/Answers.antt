use mathlib.Core.Path.{◌≡◌, refl, sym, ap, ◌∙◌}
use mathlib.Core.Bool.{true}
use mathlib.Core.Logic.{◌⊎◌, inl, inr, ⊎_elim}
use Prim.Native.Nat.{ℕ, ◌+◌, ◌<◌, ◌^◌}
use native.Mathlib.Nat.{lt_of_le_of_lt}
use native.Mathlib.Omega.{arith}
use Rattle.semantics.specs.Bytes.{bit}
use Rattle.semantics.specs.Code.{State}
use Rattle.semantics.specs.Plan.{interactions, below}
use Rattle.semantics.specs.Move.{Configuration, enabled, after, good}
use Rattle.semantics.proofs.Basics.{bool_cases}
use Rattle.semantics.proofs.Ranking.{commit_enabled}
use Rattle.choices.specs.Choices.{chosen_table, ChosenIn}
use Rattle.choices.proofs.ChoiceLaws.{table_in}
use Rattle.ranks.proofs.StandingLaws.{stands_in}
use Rattle.layout.specs.Runs.{state_of, configuration_in}
use Rattle.moves.specs.declared.search.Sought.{Sought}
use Rattle.moves.proofs.SearchLaws.{ends_good}
use Rattle.moves.proofs.SeekLaws.{Seeks, LeftOrAbove, OnPath, path_empty, path_bad, reached_up, seeks_start, top-held, top_inside, seeks_next, seeks_less, seeks_found, seeks_none, best_is}
use borrow.Author.Rules.{rules}
use Rattle.moves.proofs.search.safe_move.Goals as goal
use Rattle.moves.proofs.search.safe_move.Goals.{After-climb-top, After-foot, After-good, After-loop-s, After-narrowed-next, At-loop-s}

-- what is open are interactions
open_inside : (c : At-loop-s) → c.loop-s.s.open < 2 ^ interactions c.args.plan.now
open_inside c = lt_of_le_of_lt c.loop-s.invariant.0.open≤ c.requires.moves_bound.0

-- the climb begins at an open move that is left or lies above one that is
at_foot : (c : After-foot) → LeftOrAbove c.args.plan.now c.loop-s.s.open c.loop-s.s.left c.foot.result
at_foot c =
    let k = c.loop-s.invariant in
    ⊎_elim (k.2 c.foot.result) (λ t. (k.0.left_open c.foot.result t, (c.foot.result, t, inl refl))) c.foot.ensures

-- and so is what it comes to
risen : (c : After-climb-top) → (n : ℕ) → bit c.loop-s.s.open n ≡ true → (n ≡ c.foot.result) ⊎ (below c.args.plan.now c.foot.result n ≡ true) → LeftOrAbove c.args.plan.now c.loop-s.s.open c.loop-s.s.left n
risen c =
    λ n. reached_up c.args.plan.now c.requires.plan_value c.loop-s.s.open c.loop-s.s.left (open_inside (goal.at.After-climb-top c).At-loop-s) c.loop-s.invariant.0.left_open c.foot.result n (at_foot (goal.at.After-climb-top c).After-foot)

inside : (c : After-climb-top) → c.climb-top.result.number < interactions c.args.plan.now
inside c =
    top_inside c.args.plan.now (configuration_in c.args.run.now) c.args.moves c.requires.moves_bound.0 c.requires.moves_bound.1 c.requires.by_index c.loop-s.s c.loop-s.s c.climb-top.result.path c.climb-top.result.number
    c.loop-s.invariant.0 c.climb-top.ensures.number_value.0

-- a move made of what the trial holds is made of the run
same : (c : At-loop-s) → (n : ℕ) → after c.args.plan.now (configuration_in c.loop-s.trial) n ≡ after c.args.plan.now (configuration_in c.args.run.now) n
same c = λ n. ap (λ (x : Configuration). after c.args.plan.now x n) c.loop-s.invariant.1

-- what is asked for an enabled move to be made in the trial
may_try : (c : At-loop-s) → (n : ℕ) → let p = c.args.plan.now in n < interactions p → enabled p (state_of c.args.run.now.state) n ≡ true
    → (n < interactions p) × ChosenIn p (state_of c.loop-s.trial.state) c.args.chosen.now n × (enabled p (state_of c.loop-s.trial.state) n ≡ true)
may_try c n l on =
    let p = c.args.plan.now in
    let e = c.loop-s.invariant.1 in
    (l, table_in p _ n c.requires.plan_value l _ (c.requires.chosen_value.0 ∙ ap (λ (x : Configuration). chosen_table p x.state) (sym e)), ap (λ (x : Configuration). enabled p x.state n) e ∙ on)

-- whether it ends good, by what is tested
judged : (c : After-good) → c.good.result ≡ good c.args.plan.now (after c.args.plan.now (configuration_in c.args.run.now) c.climb-top.result.number)
judged c =
    c.good.ensures
    ∙ ends_good c.args.plan.now _ (after c.args.plan.now (configuration_in c.args.run.now) c.climb-top.result.number) (c.after.ensures.run_after.0 ∙ (same (goal.at.After-good c).At-loop-s) c.climb-top.result.number)

-- what is known when it was judged
known : (c : After-narrowed-next) → Seeks c.args.plan.now (configuration_in c.args.run.now) c.args.moves c.narrowed-next.result
known c =
    seeks_next c.args.plan.now (configuration_in c.args.run.now) c.args.moves c.requires.moves_bound.0 c.requires.moves_bound.1 c.requires.by_index c.loop-s.s c.narrowed-next.result
    c.climb-top.result.path c.climb-top.result.number c.loop-s.invariant.0 c.climb-top.ensures.number_value.0 c.good.result (judged (goal.at.After-narrowed-next c).After-good) c.narrowed-next.ensures.0 c.narrowed-next.ensures.1

-- after the loop nothing is left
none_left : (c : After-loop-s) → c.loop-s.s.left ≡ 0
none_left c = omega arith

pub loop-s-init : goal.loop-s-init
loop-s-init c = (
  seeks_start c.args.plan.now (configuration_in c.args.run.now) c.args.moves c.requires.moves_bound.0 c.requires.moves_bound.1 c.requires.by_index,
  ap (λ (s : State). record { state = s; oracles = c.args.run.now.oracles }) c.requires.trial_value,
  path_empty c.args.plan.now c.args.moves c.args.moves 0 refl,
  refl,
)

pub after-requires-clause-i_bound : goal.after-requires-clause-i_bound
after-requires-clause-i_bound c =
    let at = goal.at.after-requires-clause-i_bound c in
    let n = c.climb-top.result.number in
    let named : bit c.args.moves n ≡ true =
    top-held c.args.plan.now (configuration_in c.args.run.now) c.args.moves c.requires.moves_bound.0 c.requires.moves_bound.1 c.requires.by_index c.loop-s.s c.loop-s.s c.climb-top.result.path n
    c.loop-s.invariant.0 c.climb-top.ensures.number_value.0 in
    may_try at.At-loop-s n (inside at.After-climb-top) (c.requires.moves_bound.1 n named)

pub narrowed-next-requires-clause-left_bound : goal.narrowed-next-requires-clause-left_bound
narrowed-next-requires-clause-left_bound c =
    (lt_of_le_of_lt c.loop-s.invariant.0.left≤ c.requires.moves_bound.0, inside (goal.at.narrowed-next-requires-clause-left_bound c).After-climb-top)

pub returns-then-eq-clause-number_value : goal.returns-then-eq-clause-number_value
returns-then-eq-clause-number_value c =
    let n = c.climb-top.result.number in
    let k = (known (goal.at.returns-then-eq-clause-number_value c).After-narrowed-next) in
    let (e, l) = seeks_found c.args.plan.now (configuration_in c.args.run.now) c.args.moves c.narrowed-next.result k c.if-next-eq0.true n (best_is _ n (sym c.eq.ensures ∙ c.if-eq.true)) in
    (e, l, c.after.ensures.run_after.0 ∙ (same (goal.at.returns-then-eq-clause-number_value c).At-loop-s) n)

pub loop-s-smaller : goal.loop-s-smaller
loop-s-smaller c =
    let word : c.args.moves < 2 ^ 64 = search rules in
    let sought : Sought = c.loop-s.s in
    let at_top : LeftOrAbove c.args.plan.now c.loop-s.s.open c.loop-s.s.left c.climb-top.result.number =
    (risen (goal.at.loop-s-smaller c).After-climb-top) c.climb-top.result.number (stands_in _ c.loop-s.s.open c.climb-top.result.number c.climb-top.ensures.number_value.0) c.climb-top.ensures.number_value.1 in
    let less : c.narrowed-next.result.open + c.narrowed-next.result.left < c.loop-s.s.open + c.loop-s.s.left =
    seeks_less c.args.plan.now (configuration_in c.args.run.now) c.args.moves c.requires.moves_bound.0 c.requires.moves_bound.1 c.requires.by_index sought c.narrowed-next.result
    c.climb-top.result.path c.climb-top.result.number c.loop-s.invariant.0 c.climb-top.ensures.number_value.0 word at_top.1.0 at_top.1.1 at_top.1.2 c.good.result
    c.narrowed-next.ensures.0 c.narrowed-next.ensures.1 in
    less

pub loop-s-preserved : goal.loop-s-preserved
loop-s-preserved c =
    let sought : Sought = c.loop-s.s in
    let steps : OnPath c.args.plan.now c.loop-s.s.open c.loop-s.s.left c.climb-top.result.path =
    λ j t. ⊎_elim (c.loop-s.invariant.2 j) (λ (w, b). (risen (goal.at.loop-s-preserved c).After-climb-top) j w (inr b)) (c.climb-top.ensures.by_index j t) in
    let onward : let r = c.narrowed-next.result in OnPath c.args.plan.now r.open r.left r.path =
    let p = c.args.plan.now in
    bool_cases c.good.result (λ t. path_empty p _ _ c.narrowed-next.result.path (c.narrowed-next.ensures.0 t).path_none)
    (λ f. path_bad p sought c.narrowed-next.result c.climb-top.result.path c.climb-top.result.number (open_inside (goal.at.loop-s-preserved c).At-loop-s) c.climb-top.ensures.number_value.0 steps (c.narrowed-next.ensures.1 f)) in
    ((known (goal.at.loop-s-preserved c).After-narrowed-next), refl, onward, c.after.ensures.marks_kept ∙ c.loop-s.invariant.3)

pub returns-in_err-n-clause-number_value : goal.returns-in_err-n-clause-number_value
returns-in_err-n-clause-number_value c =
    rw c.from_residual.ensures
    (seeks_none c.args.plan.now (configuration_in c.args.run.now) c.args.moves c.loop-s.s c.loop-s.invariant.0 (none_left (goal.at.returns-in_err-n-clause-number_value c).After-loop-s) c.in_err-n.was)

pub after-requires-2-clause-i_bound : goal.after-requires-2-clause-i_bound
after-requires-2-clause-i_bound c =
    let n = c.in_ok-n.n in
    let (l, m) = c.loop-s.invariant.0.best_allowed n c.in_ok-n.was in
    may_try (goal.at.after-requires-2-clause-i_bound c).At-loop-s n l (commit_enabled c.args.plan.now (configuration_in c.args.run.now) n m)

pub returns-clause-number_value : goal.returns-clause-number_value
returns-clause-number_value c =
    let n = c.in_ok-n.n in
    let (e, l) = seeks_found c.args.plan.now (configuration_in c.args.run.now) c.args.moves c.loop-s.s c.loop-s.invariant.0 (none_left (goal.at.returns-clause-number_value c).After-loop-s) n c.in_ok-n.was in
    (e, l, c.after-2.ensures.run_after.0 ∙ (same (goal.at.returns-clause-number_value c).At-loop-s) n)
