use Prim.Native.Nat.{◌-◌}
use Rattle.words.proofs.BitLaws.{bit_clear}
use lib.Bits.{and_le_r}
use native.Mathlib.Omega.{arith}
use Rattle.words.proofs.bits.without_lowest.Goals as goal

pub returns : goal.returns
returns c =
    let m = c.args.m in
    (bit_clear 64 m c.requires (omega arith), omega (arith, and_le_r m (m - 1)))
