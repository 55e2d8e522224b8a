use Rattle.std.proofs.Common.{◌≡◌, ◌++◌, map, take, drop}
use Rattle.roster.specs.Scan.{moved_on}
use Rattle.roster.proofs.rows.grow.Given as goal

-- the first records have moved on
abbrev pub invariant-loop-a : goal.invariant-loop-a
invariant-loop-a l = l.roster ≡ map (moved_on l.turn) (take l.a-index l.initial.roster) ++ drop l.a-index l.initial.roster
