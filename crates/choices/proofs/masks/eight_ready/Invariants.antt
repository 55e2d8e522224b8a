use Prim.Native.Nat.{◌+◌, ◌/◌}
use Rattle.words.proofs.MaskWalk.{Walk}
use Rattle.choices.specs.Choices.{port_ready}
use Rattle.choices.proofs.masks.eight_ready.Given as goal

abbrev pub invariant-loop-left : goal.invariant-loop-left
invariant-loop-left l = Walk l.initial.left (λ j. port_ready l.plan l.chosen l.i (l.base + j / 8)) l.left

abbrev pub decreases-loop-left : goal.decreases-loop-left
decreases-loop-left l = l.left
