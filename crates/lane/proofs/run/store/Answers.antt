use borrow.Author.Rules.{rules}
use Rattle.layout.specs.Runs.{configuration_in}
use Rattle.lane.proofs.Writing.{written}
use Rattle.lane.proofs.run.store.Goals as goal

pub returns : goal.returns
returns c =
    let a = c.args in
    let s = a.run.now.state in
    written a.plan.now (configuration_in a.run.now) a.run.now.marks a.image.now (search rules) s.locations_long s.ports_long s.values_long
    c.put_head.ensures c.put_u64.ensures c.put_bytes.ensures c.put_bytes-2.ensures c.put_values.ensures
