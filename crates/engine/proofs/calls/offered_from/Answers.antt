use Rattle.engine.proofs.ReadLaws.{reply_on, offer_low}
use Rattle.engine.proofs.calls.offered_from.Goals as goal

pub returns-in_err-lane : goal.returns-in_err-lane
returns-in_err-lane c = reply_on _ _ _ _ _ c.from_residual.ensures.1 c.in_err-lane.ensures.refusal_value

pub standing_mask-requires-clause-moves_bound : goal.standing_mask-requires-clause-moves_bound
standing_mask-requires-clause-moves_bound c = offer_low _ _ _ c.in_ok-lane.ensures.refusal_value c.in_ok-lane.ensures.known
