use mathlib.Core.Path.{◌≡◌}
use Rattle.semantics.specs.Plan.{destination, port_in, takes_part}
use Rattle.choices.specs.Choices.{chosen_by}
use Rattle.moves.specs.Parts.{set_below}
use Rattle.moves.proofs.fire.arrive.Given as goal

abbrev pub invariant-loop-c : goal.invariant-loop-c
invariant-loop-c l = (l.locations ≡ set_below (takes_part l.plan l.i) (λ k. destination l.plan (chosen_by l.plan l.chosen l.i k)) l.initial.locations l.c) × (l.ports ≡ set_below (takes_part l.plan l.i) (port_in l.plan l.i) l.initial.ports l.c)
