use mathlib.Core.Path.{◌≡◌}
use Prim.Native.Nat.{◌+◌}
use Rattle.layout.specs.Runs.{configuration_in}
use Rattle.moves.proofs.SeekLaws.{Seeks, OnPath}
use Rattle.moves.proofs.search.safe_move.Given as goal

-- what the search knows, and the trial is as the run again
abbrev pub invariant-loop-s : goal.invariant-loop-s
invariant-loop-s l = Seeks l.plan (configuration_in l.run) l.moves l.s
    × (configuration_in l.trial ≡ configuration_in l.run)
    × OnPath l.plan l.s.open l.s.left l.s.path
    × (l.trial.marks ≡ l.initial.trial.marks)

abbrev pub decreases-loop-s : goal.decreases-loop-s
decreases-loop-s l = l.s.open + l.s.left
