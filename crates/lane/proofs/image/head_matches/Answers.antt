use mathlib.Core.Path.{◌≡◌}
use mathlib.Core.Bool.{◌&&◌, and_assoc, and-true}
use mathlib.Core.List.{[], ◌∷◌}
use lib.Dec.{eqb}
use Rattle.semantics.specs.Bytes.{byte, all_of, every}
use Rattle.semantics.specs.Plan.{Plan, components, variables, interactions, number_byte}
use Rattle.semantics.specs.Image.{Image, head, oracle_byte, head_matches}
use Rattle.lane.proofs.image.head_matches.Goals as goal

-- the tests of a head, part by part
head-tests : (p : Plan) (b : Image)
    → (((all_of (eqb (byte b 0) 89 ∷ eqb (byte b 1) 65 ∷ eqb (byte b 2) 82 ∷ eqb (byte b 3) 68 ∷ []) && eqb (byte b 4) 1)
    && all_of (eqb (byte b 5) (components p) ∷ eqb (byte b 6) (variables p) ∷ eqb (byte b 7) (interactions p) ∷ []))
    && all_of (eqb (byte b 12) (number_byte p 0) ∷ eqb (byte b 13) (number_byte p 1) ∷ eqb (byte b 14) (number_byte p 2) ∷ eqb (byte b 15) (number_byte p 3) ∷ []))
    ≡ head_matches p b
unfolding head_matches oracle_byte head every all_of
head-tests p b = simp (and_assoc, and-true)

pub returns : goal.returns
returns c =
    rw (c.tagged.ensures, c.counts_match.ensures, c.number_matches.ensures)
    (head-tests c.args.plan.now c.args.image.now)
