use mathlib.Core.Path.{◌≡◌}
use Rattle.semantics.specs.Code.{guard_holds, site}
use Rattle.semantics.specs.Plan.{proposition_of}
use Rattle.semantics.specs.Bytes.{mask}
use Rattle.moves.proofs.judge.letter.Given as goal

abbrev pub invariant-loop-k : goal.invariant-loop-k
invariant-loop-k l = l.out ≡ mask l.k (λ j. guard_holds l.plan (site l.state.locations l.state.last_ports l.state.values) (proposition_of l.plan j))
