use mathlib.Core.Path.{◌≡◌, refl}
use native.Mathlib.Omega.{arith}
use lib.ListN.{get_or}
use Rattle.semantics.specs.Plan.{next}
use Rattle.semantics.proofs.Oracles.{first_reads}
use Rattle.oracle.proofs.States.{next_known}
use Rattle.oracle.proofs.row.next_states.Goals as goal

pub returns-then-added_oracles-eq0 : goal.returns-then-added_oracles-eq0
returns-then-added_oracles-eq0 c =
    let a = c.args in
    let read : c.next-next.result ≡ next a.plan.now 0 (get_or a.states 0 0) a.a = cc in
    rw (read, ← first_reads a.plan.now a.states a.a (omega arith))
    (refl, next_known a.plan.now c.requires.plan_value a.states a.a c.requires.states_value.0 c.requires.states_value.1)
