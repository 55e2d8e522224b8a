use Rattle.words.proofs.BitLaws.{top_bit}
use Rattle.words.proofs.bits.highest_bit.Goals as goal

pub returns : goal.returns
returns c =
    let e = c.ilog2.ensures in
    let h = top_bit c.ilog2.result c.args.m e.power_le e.next_power_gt in
    (h.0, h.1, e.bound)
