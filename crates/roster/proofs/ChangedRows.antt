-- A roster of which the first i records were changed, as `rows::grow` leaves it after i turns of its loop.
use mathlib.Core.Path.{◌≡◌, refl, ap}
use Prim.Native.Nat.{ℕ, zero, suc, ◌<◌}
use native.Mathlib.Omega.{arith}
use mathlib.Core.List.{List, [], ◌∷◌, map}
use lib.ListN.{length, get_or, set}
use Rattle.roster.specs.declared.record.Lane.{Lane}
use Rattle.roster.specs.Roster.{no_lane}

unfoldable pub map_to : (Lane → Lane) → ℕ → List Lane → List Lane
map_to g zero ys = ys
map_to g (suc i) [] = []
map_to g (suc i) (y ∷ ys) = g y ∷ map_to g i ys

pub map_to_none : (g : Lane → Lane) (ys : List Lane) → map_to g 0 ys ≡ ys
unfolding map_to
map_to_none g ys = refl

pub map_to_long : (g : Lane → Lane) (i : ℕ) (ys : List Lane) → length (map_to g i ys) ≡ length ys
unfolding map_to
map_to_long g zero ys = refl
map_to_long g (suc i) [] = refl
map_to_long g (suc i) (y ∷ ys) = ap suc (map_to_long g i ys)

pub map_to_next : (g : Lane → Lane) (i : ℕ) (ys : List Lane) → i < length ys
    → set (map_to g i ys) i (g (get_or (map_to g i ys) i no_lane)) ≡ map_to g (suc i) ys
unfolding map_to
map_to_next g i [] l = absurd (omega arith)
map_to_next g zero (y ∷ ys) l = refl
map_to_next g (suc i) (y ∷ ys) l = ap (λ (t : List Lane). g y ∷ t) (map_to_next g i ys (omega arith))

pub map_to_all : (g : Lane → Lane) (ys : List Lane) → map_to g (length ys) ys ≡ map g ys
unfolding map_to
map_to_all g [] = refl
map_to_all g (y ∷ ys) = ap (λ (t : List Lane). g y ∷ t) (map_to_all g ys)
