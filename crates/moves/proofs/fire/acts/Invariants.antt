use lib.ListN.{length}
use mathlib.Core.Path.{◌≡◌}
use mathlib.Core.List.{List}
use Prim.Native.Nat.{ℕ}
use Rattle.semantics.specs.Code.{site}
use Rattle.moves.specs.Parts.{acts_below}
use Rattle.moves.proofs.fire.acts.Given as goal

abbrev pub invariant-loop-c : goal.invariant-loop-c
invariant-loop-c l = (length l.values ≡ 64) × ((n m : List ℕ) → site n m l.values ≡ acts_below l.plan l.chosen l.i l.c (site n m l.initial.values))
