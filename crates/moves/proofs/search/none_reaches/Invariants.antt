use Rattle.layout.specs.Runs.{configuration_in}
use Rattle.moves.proofs.SearchLaws.{falls_short}
use Rattle.words.proofs.MaskWalk.{Walk}
use Rattle.moves.proofs.search.none_reaches.Given as goal

-- none of the moves passed leads to it
abbrev pub invariant-loop-left : goal.invariant-loop-left
invariant-loop-left l = Walk l.moves (falls_short l.plan l.v (configuration_in l.run)) l.left

abbrev pub decreases-loop-left : goal.decreases-loop-left
decreases-loop-left l = l.left
