use mathlib.Core.Path.{◌≡◌, sym, ap, ◌∙◌}
use native.Mathlib.Omega.{arith}
use Rattle.semantics.specs.Bytes.{entries}
use Rattle.semantics.specs.Refusal.{refusal}
use Rattle.semantics.specs.Move.{Configuration, good, replay}
use Rattle.semantics.specs.Load.{list_rules}
use Rattle.semantics.specs.Image.{image}
use Rattle.semantics.specs.Calls.{list, called}
use Rattle.semantics.proofs.LogEntries.{entries_long}
use Rattle.layout.specs.Runs.{configuration_in}
use Rattle.moves.proofs.SearchLaws.{ends_good}
use Rattle.engine.specs.Answers.{answered}
use Rattle.engine.proofs.CallLaws.{parts}
use Rattle.engine.proofs.ReadLaws.{Read, ends_refused, passed_on, none, lane_is, in_range}
use Rattle.walks.proofs.ListLaws.{entries_few, stop_few, list_22, list-stopped, list-low, list-made}
use Rattle.walks.proofs.list.hand_in_on.Goals as goal
use Rattle.walks.proofs.list.hand_in_on.Goals.{After-reaches, Else-not-list_ok, In_ok-read}

read : (c : In_ok-read) → Read c.args.plan.now c.args.image.now c.load-run.result c.in_ok-read.field-0
read c = record { none_is = c.in_ok-read.ensures.refusal_value; run_is = c.load-run.ensures; known = c.in_ok-read.ensures.known }

-- past 22
listed : (c : Else-not-list_ok) → refusal (list_rules c.args.moves.now) ≡ 0
listed c = c.if-not-list_ok.ensures

-- the states after the last entry say whether it ends good
ends : (c : After-reaches) → c.reaches.result ≡ good c.args.plan.now (replay c.args.plan.now (configuration_in c.load-run.result) (entries c.args.moves.now))
ends c = c.reaches.ensures ∙ ends_good c.args.plan.now _ _ c.in_default.ensures.run_after

pub returns-in_err-read : goal.returns-in_err-read
returns-in_err-read c =
    let a = c.args in
    passed_on answered (called a.plan.now a.image.now (list a.moves.now)) a.image.now _ c.from_residual.result c.from_residual.ensures.1
    (ends_refused a.plan.now a.image.now (list a.moves.now) _ c.in_err-read.ensures.refusal_value)

pub returns-then-not-list_ok : goal.returns-then-not-list_ok
returns-then-not-list_ok c =
    parts (list_22 _ _ c.args.moves.now (none (read (goal.at.returns-then-not-list_ok c).In_ok-read)) c.if-not-list_ok.ensures)

pub walk-requires-clause-oracles_value : goal.walk-requires-clause-oracles_value
walk-requires-clause-oracles_value c = in_range (read (goal.at.walk-requires-clause-oracles_value c).In_ok-read)

pub overflow_cast-result : goal.overflow_cast-result
overflow_cast-result c =
    omega (arith, stop_few _ _ c.args.moves.now (listed (goal.at.overflow_cast-result c).Else-not-list_ok) _ c.in-Err.ensures.index_value.1)

pub returns-in-Err : goal.returns-in-Err
returns-in-Err c =
    let at = goal.at.returns-in-Err c in
    let r = read at.In_ok-read in
    let (short, index, cause) = c.in-Err.ensures.index_value in
    parts (list-stopped _ _ c.args.moves.now (none r) (listed at.Else-not-list_ok) _ (lane_is r) _ index short)

pub overflow_cast-count : goal.overflow_cast-count
overflow_cast-count c = omega (arith, entries_few c.args.moves.now (listed (goal.at.overflow_cast-count c).Else-not-list_ok))

pub returns-then-not-reaches : goal.returns-then-not-reaches
returns-then-not-reaches c =
    let at = goal.at.returns-then-not-reaches c in
    let r = read at.In_ok-read in
    parts (list-low _ _ c.args.moves.now (none r) (listed at.Else-not-list_ok) _ (lane_is r) _ (sym (entries_long c.args.moves.now)) c.in_default.ensures.index_value.1 _ (ends at.After-reaches) c.if-not-reaches.true)

pub returns : goal.returns
returns c =
    let at = goal.at.returns c in
    let r = read at.In_ok-read in
    let e = parts (list-made _ _ c.args.moves.now (none r) (listed at.Else-not-list_ok) _ (lane_is r) _ (sym (entries_long c.args.moves.now)) c.in_default.ensures.index_value.1 _ (ends at.After-reaches) c.if-not-reaches.false) in
    (e.0, c.store.ensures ∙ ap (λ (d : Configuration). image c.args.plan.now d 0) c.in_default.ensures.run_after ∙ e.1)
