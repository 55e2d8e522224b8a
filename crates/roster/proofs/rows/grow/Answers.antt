use Rattle.std.proofs.Common.{arith}
use Rattle.std.proofs.lemmas.Grind.{common_steps}
use Rattle.std.proofs.lemmas.List.Edits.{map_over_more}
use Rattle.roster.specs.Scan.{moved_on}
use Rattle.roster.proofs.rows.grow.Goals as goal

pub loop-a-preserved : goal.loop-a-preserved
loop-a-preserved c = grind (arith, common_steps, map_over_more (moved_on c.args.turn))
