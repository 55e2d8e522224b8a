use mathlib.Core.Path.{◌≡◌}
use lib.ListN.{length, take}
use Rattle.semantics.specs.Image.{image_length, value_place, value_bytes}
use Rattle.words.specs.Splice.{splice}
use Rattle.lane.proofs.run.put_values.Given as goal

abbrev pub invariant-loop-v : goal.invariant-loop-v
invariant-loop-v l = (length l.image ≡ image_length) × (l.image ≡ splice l.initial.image (value_place 0) (value_bytes (take l.v l.values)))
