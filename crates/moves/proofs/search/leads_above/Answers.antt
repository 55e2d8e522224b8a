use mathlib.Core.Path.{◌≡◌, sym, ap, ◌∙◌}
use mathlib.Core.Bool.{true, not, ◌&&◌}
use Prim.Native.Nat.{ℕ, ◌<◌, ◌^◌}
use Rattle.semantics.specs.Bytes.{bit, mask}
use Rattle.semantics.specs.Plan.{interactions, below}
use Rattle.semantics.specs.Move.{enabled}
use Rattle.layout.proofs.Sections.{laid_accepted}
use Rattle.choices.proofs.ChoiceLaws.{table_in}
use Rattle.words.proofs.Gather.{held_inside}
use Rattle.ranks.proofs.StandingLaws.{above_inside}
use Rattle.layout.specs.Runs.{state_of, configuration_in}
use Rattle.moves.proofs.SearchLaws.{above_held, above_leads}
use borrow.Author.Rules.{rules}
use Rattle.moves.proofs.search.leads_above.Goals as goal
use Rattle.moves.proofs.search.leads_above.Goals.{After-enabled_among-above}

-- the mask has the enabled ones above
made : (c : After-enabled_among-above) → let p = c.args.plan.now in c.enabled_among-above.result ≡ mask (interactions p) (λ j. below p c.args.i j && enabled p (state_of c.args.run.now.state) j)
unfolding below
made c =
    let p = c.args.plan.now in
    c.enabled_among-above.ensures ∙ ap (λ (x : ℕ). mask (interactions p) (λ j. bit x j && enabled p (state_of c.args.run.now.state) j)) c.rank_row-row.ensures

pub enabled_among-above-requires-clause-by_index : goal.enabled_among-above-requires-clause-by_index
unfolding below
enabled_among-above-requires-clause-by_index c =
    let word : c.rank_row-row.result < 2 ^ 64 = search rules in
    let p = c.args.plan.now in
    let m = c.rank_row-row.result in
    let inside : (j : ℕ) → bit m j ≡ true → j < interactions p = λ j e. above_inside p c.args.i j c.requires.plan_value c.requires.i_bound.0 (held_inside 64 m j word e) (ap (λ (x : ℕ). bit x j) (sym c.rank_row-row.ensures) ∙ e) in
    λ j e. (inside j e, table_in _ _ _ c.requires.plan_value (inside j e) _ c.requires.i_bound.1)

pub none_reaches-requires-clause-by_index : goal.none_reaches-requires-clause-by_index
none_reaches-requires-clause-by_index c =
    let m = made (goal.at.none_reaches-requires-clause-by_index c).After-enabled_among-above in
    λ j e. let (l, _, on) = above_held c.args.plan.now c.args.v (configuration_in c.args.run.now) c.args.i c.enabled_among-above.result m j e in (l, on)

pub returns : goal.returns
returns c =
    let m = made (goal.at.returns c).After-enabled_among-above in
    ap not c.none_reaches.ensures
    ∙ above_leads c.args.plan.now c.args.v (configuration_in c.args.run.now) c.args.i c.enabled_among-above.result m (laid_accepted _ c.requires.plan_value).interactions≤
