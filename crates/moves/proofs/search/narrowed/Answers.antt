use mathlib.Core.Path.{◌≡◌, refl, ap, ◌∙◌}
use Prim.Native.Nat.{ℕ, ◌<◌}
use native.Mathlib.Nat.{le_trans}
use mathlib.Core.Bool.{Bool, not, ◌&&◌}
use lib.Dec.{eqb}
use Rattle.semantics.specs.Bytes.{bit}
use Rattle.semantics.proofs.Basics.{absurd_bool}
use Rattle.layout.proofs.Sections.{laid_accepted}
use Rattle.moves.proofs.SeekLaws.{one_bit}
use Rattle.moves.proofs.search.narrowed.Goals as goal

pub returns : goal.returns
returns c =
    let fits : c.args.top.number < 64 =
    le_trans c.requires.left_bound.1 (laid_accepted _ c.requires.plan_value).interactions≤ in
    let cut : (m r : ℕ) → ((j : ℕ) → bit r j ≡ (bit m j && not (bit c.with_bit-one.result j)))
    → (j : ℕ) → bit r j ≡ (bit m j && not (eqb j c.args.top.number)) =
    λ m r e j. e j ∙ ap (λ (b : Bool). bit m j && not b) (ap (λ (x : ℕ). bit x j) c.with_bit-one.ensures ∙ one_bit c.args.top.number j fits) in (
      λ t. absurd_bool t c.if-good.false,
      λ _.
          record {
            open_bits = cut c.args.s.open c.without.result c.without.ensures.0;
            open≤ = c.without.ensures.1;
            left_bits = cut c.args.s.left c.without-2.result c.without-2.ensures.0;
            left≤ = c.without-2.ensures.1;
            path_bits = cut c.args.top.path c.without-3.result c.without-3.ensures.0;
            best_same = refl;
          },
    )
