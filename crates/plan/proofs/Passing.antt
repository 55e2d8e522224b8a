-- The rule of the added oracles, where a plan has none.
use mathlib.Core.Path.{◌≡◌, sym, subst}
use Prim.Native.Nat.{ℕ, suc}
use mathlib.Core.Bool.{true}
use Rattle.semantics.specs.Bytes.{every}
use Rattle.semantics.specs.Plan.{Plan, added_oracles}
use Rattle.semantics.specs.Rules.{table_ok}
use Rattle.semantics.proofs.Basics.{every-none}

pub none_added : (p : Plan) → added_oracles p ≡ 0 → every (added_oracles p) (λ k. table_ok p (suc k)) ≡ true
none_added p e = subst (λ (n : ℕ). every n (λ k. table_ok p (suc k)) ≡ true) (sym e) (every-none (λ k. table_ok p (suc k)))
