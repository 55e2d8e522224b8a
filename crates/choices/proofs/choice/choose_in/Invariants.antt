use mathlib.Core.Path.{◌≡◌}
use Prim.Native.Nat.{◌+◌, ◌≤◌}
use lib.ListN.{length}
use Rattle.semantics.specs.Plan.{transitions}
use Rattle.semantics.specs.Code.{site}
use Rattle.choices.proofs.ChoiceLaws.{FoundIn}
use Rattle.choices.proofs.choice.choose_in.Given as goal

abbrev pub invariant-loop-t : goal.invariant-loop-t
invariant-loop-t l = (l.t-end ≡ transitions l.plan) × (l.row + 24 ≤ length l.plan) × FoundIn l.plan (site l.state.locations l.state.last_ports l.state.values) l.i l.out l.t
