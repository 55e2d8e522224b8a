use mathlib.Core.Path.{ap, ◌∙◌}
use Rattle.semantics.specs.Calls.{Answer, offered_bits}
use Rattle.yard.proofs.Packing.{bits_said}
use Rattle.yard.proofs.yard_offered_bits.Goals as goal

pub returns : goal.returns
unfolding offered_bits
returns c = c.unwrap_or.ensures ∙ bits_said c.offered.result ∙ ap (λ (a : Answer). a.bits) c.offered.ensures
