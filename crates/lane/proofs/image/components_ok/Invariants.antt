use mathlib.Core.Bool.{◌&&◌}
use mathlib.Core.Path.{◌≡◌}
use Rattle.semantics.specs.Image.{location_ok, last_port_ok}
use Rattle.semantics.specs.Bytes.{every}
use Rattle.layout.specs.Runs.{state_of}
use Rattle.lane.proofs.image.components_ok.Given as goal

abbrev pub invariant-loop-c : goal.invariant-loop-c
invariant-loop-c l = (l.ok ≡ (every l.c (location_ok l.plan (state_of l.state)) && every l.c (last_port_ok l.plan (state_of l.state))))
