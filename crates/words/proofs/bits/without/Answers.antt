use Prim.Native.Nat.{◌-◌, ◌^◌}
use native.Mathlib.Omega.{arith}
use lib.Bits.{and_le_l}
use Rattle.words.proofs.SubsetLaws.{bit_without}
use Rattle.words.proofs.bits.without.Goals as goal

pub returns : goal.returns
returns c =
    let a = c.args in
    (λ k. bit_without 64 a.a a.b k (omega arith) (omega arith), and_le_l a.a (2 ^ 64 - 1 - a.b))
