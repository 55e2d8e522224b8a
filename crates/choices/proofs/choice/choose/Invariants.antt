use Rattle.choices.specs.Choices.{chosen_below}
use mathlib.Core.Path.{◌≡◌}
use Rattle.semantics.specs.Plan.{transitions}
use lib.ListN.{length}
use Rattle.semantics.specs.Code.{site}
use Rattle.choices.proofs.choice.choose.Given as goal

abbrev pub invariant-loop-t : goal.invariant-loop-t
invariant-loop-t l = (l.t-end ≡ transitions l.plan) × (length l.out ≡ 256) × (l.out ≡ chosen_below l.plan (site l.state.locations l.state.last_ports l.state.values) l.t)
