use mathlib.Core.Path.{sym, ap, ◌∙◌}
use mathlib.Core.Bool.{◌&&◌}
use Prim.Native.Nat.{ℕ, ◌/◌}
use lib.Bits.{and_mask}
use lib.Dec.{leb, ltb, eqb}
use lib.ListN.{length}
use Rattle.words.proofs.TestLaws.{tests}
use Rattle.walks.proofs.ListLaws.{list-number}
use Rattle.walks.proofs.list.list_ok.Goals as goal

pub returns : goal.returns
returns c =
    let l = c.args.moves.now in
    let n : ℕ = length l in
    list-number l _ (ap (λ (odd : ℕ). (ltb 0 n && eqb odd 0) && leb (n / 2) 8) (and_mask n 1) ∙ sym (tests _ _))
