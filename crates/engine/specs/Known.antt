-- What is known of a lane: the masks of one whose plan and image are not refused, and that a run is what its image holds.
use Rattle.std.specs.Prelude.{◌≡◌, ℕ, Bool, not, ◌&&◌}
use Rattle.semantics.specs.Bytes.{mask}
use Rattle.semantics.specs.Code.{State}
use Rattle.semantics.specs.Plan.{Plan, interactions}
use Rattle.semantics.specs.Move.{enabled}
use Rattle.semantics.specs.Image.{Image, marks_of, configuration_of}
use Rattle.layout.specs.declared.run.Run.{Run}
use Rattle.layout.specs.Runs.{configuration_in}
use Rattle.engine.specs.declared.reading.Reading.{Reading}

-- The masks of a lane in the state s with these marks.
pub record Known (p : Plan) (s : State) (marked : ℕ → Bool) (e : Reading) : Type 0 where
  pub enabled_is : e.enabled ≡ mask (interactions p) (enabled p s)
  pub free_is : e.free ≡ mask (interactions p) (λ j. enabled p s j && not (marked j))

-- The configuration and the marks of the run are those that the image holds.
abbrev pub Holds : Image → Run → Type 0
Holds b r = (configuration_in r ≡ configuration_of b) × (r.marks ≡ marks_of b)
