use Rattle.words.proofs.Gather.{passed}
use Rattle.semantics.specs.Bytes.{bit}
use Rattle.semantics.specs.Plan.{interactions}
use Rattle.semantics.specs.Code.{site}
use Rattle.semantics.specs.Move.{enabled}
use Prim.Native.Nat.{ℕ, ◌≤◌}
use mathlib.Core.Bool.{true, ◌&&◌}
use mathlib.Core.Path.{◌≡◌}
use Rattle.choices.proofs.masks.enabled_among.Given as goal

abbrev pub invariant-loop-left : goal.invariant-loop-left
invariant-loop-left l = (l.left ≤ l.moves) × ((j : ℕ) → bit l.left j ≡ true → bit l.moves j ≡ true)
    × (l.found ≡ passed (interactions l.plan) (λ j. bit l.moves j && enabled l.plan (site l.state.locations l.state.last_ports l.state.values) j) l.left)

abbrev pub decreases-loop-left : goal.decreases-loop-left
decreases-loop-left l = l.left
