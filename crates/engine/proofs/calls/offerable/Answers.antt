use mathlib.Core.Path.{ap}
use Rattle.semantics.specs.Calls.{accepted, packed, offered}
use Rattle.engine.proofs.CallLaws.{parts}
use Rattle.engine.proofs.ReadLaws.{Seen, ends_refused, passed_on, ends_offered}
use Rattle.engine.proofs.calls.offerable.Goals as goal

pub returns-in_err-seen : goal.returns-in_err-seen
returns-in_err-seen c = ap packed (passed_on (λ _. accepted) _ _ _ _ c.from_residual.ensures.1 (ends_refused _ c.args.image.now offered _ c.in_err-seen.ensures.refusal_value)).0

pub returns : goal.returns
unfolding packed
returns c =
    let n = c.in_ok-seen in
    let seen : Seen c.args.plan.now c.args.image.now n.field-0 = record { none_is = n.ensures.refusal_value; known = n.ensures.known } in
    ap packed (parts (ends_offered seen)).0
