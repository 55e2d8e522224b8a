-- The run record as the state and the configuration that it holds.
use Rattle.std.specs.Prelude.{ℕ, List}
use Rattle.semantics.specs.Code.{State, site}
use Rattle.semantics.specs.Move.{Configuration}
use Rattle.layout.specs.declared.run.Run.{Run}
use Rattle.layout.specs.declared.run.RunState.{RunState}

-- The state of the components.
abbrev pub state_of : RunState → State
state_of s = site s.locations s.last_ports s.values

-- The configuration of a state and the oracles' states.
abbrev pub with_oracles : RunState → List ℕ → Configuration
with_oracles s o = record { state = state_of s; oracles = o }

-- The configuration that a run stands in.
abbrev pub configuration_in : Run → Configuration
configuration_in r = with_oracles r.state r.oracles
