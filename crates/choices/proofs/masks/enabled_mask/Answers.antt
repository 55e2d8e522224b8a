use mathlib.Core.Path.{◌≡◌, sym, ap, subst, ◌∙◌}
use mathlib.Core.Bool.{◌&&◌}
use Prim.Native.Nat.{ℕ, ◌^◌, ◌<◌}
use lib.Dec.{ltb}
use Rattle.semantics.specs.Bytes.{bit, mask}
use Rattle.semantics.specs.Plan.{interactions}
use Rattle.semantics.specs.Code.{site}
use Rattle.semantics.specs.Move.{enabled}
use Rattle.semantics.proofs.Basics.{ltb-true, lt-ltb}
use Rattle.semantics.proofs.Masks.{mask_same, mask_lt}
use Rattle.choices.proofs.ChoiceLaws.{table_in}
use Rattle.choices.proofs.masks.enabled_mask.Goals as goal
use Rattle.choices.proofs.masks.enabled_mask.Goals.{After-first_bits-all}

-- the mask has the numbers of the plan's interactions
all : (c : After-first_bits-all) (j : ℕ) → bit c.first_bits-all.result j ≡ ltb j (interactions c.args.plan.now)
all c j = c.first_bits-all.ensures j ∙ ap (ltb j) c.interactions.ensures.0

pub enabled_among-requires-clause-by_index : goal.enabled_among-requires-clause-by_index
enabled_among-requires-clause-by_index c j e =
    let l : j < interactions c.args.plan.now = ltb-true _ _ (sym (all (goal.at.enabled_among-requires-clause-by_index c).After-first_bits-all j) ∙ e) in
    (l, table_in _ _ _ c.requires.plan_value l _ c.requires.chosen_value)

pub returns : goal.returns
returns c =
    let n = interactions c.args.plan.now in
    let on = enabled c.args.plan.now (site c.args.state.now.locations c.args.state.now.last_ports c.args.state.now.values) in
    let e : c.enabled_among.result ≡ mask n on
    = c.enabled_among.ensures ∙ mask_same n on _ (λ j l. ap (◌&& on j) (all (goal.at.returns c).After-first_bits-all j ∙ lt-ltb _ _ l)) in
    (e, subst (λ (m : ℕ). m < 2 ^ n) (sym e) (mask_lt n on))
