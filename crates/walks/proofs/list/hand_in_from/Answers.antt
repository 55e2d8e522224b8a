use Rattle.semantics.specs.Calls.{list}
use Rattle.engine.proofs.CallLaws.{parts}
use Rattle.engine.proofs.ReadLaws.{ends_refused}
use Rattle.walks.proofs.list.hand_in_from.Goals as goal

pub returns-in_default : goal.returns-in_default
returns-in_default c = parts (ends_refused _ _ (list c.args.moves.now) _ c.unreadable.ensures)
