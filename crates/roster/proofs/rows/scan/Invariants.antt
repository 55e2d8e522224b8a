use Rattle.std.proofs.Common.{◌≡◌}
use Rattle.roster.specs.Scan.{scan_to}
use Rattle.roster.proofs.rows.scan.Given as goal

-- the first i records are read
abbrev pub invariant-loop-i : goal.invariant-loop-i
invariant-loop-i l = l.s ≡ scan_to l.i l.roster
