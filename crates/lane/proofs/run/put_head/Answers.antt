use mathlib.Core.Path.{refl, ◌∙◌}
use native.Mathlib.Omega.{arith}
use Rattle.semantics.specs.Image.{head}
use Rattle.words.proofs.SpliceLaws.{splice-next}
use Rattle.lane.proofs.run.put_head.Goals as goal

pub returns : goal.returns
unfolding head
returns c =
    splice-next c.args.image.now _ _ 4 _ _ refl (omega arith) c.put_bytes.ensures c.put_bytes-2.ensures
    ∙ rw (
      c.component_byte.ensures,
      c.variable_byte.ensures,
      c.interaction_byte.ensures,
      c.number_byte.ensures,
      c.number_byte-2.ensures,
      c.number_byte-3.ensures,
      c.number_byte-4.ensures,
    )
