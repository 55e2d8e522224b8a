use mathlib.Core.Path.{◌≡◌, refl, sym, ◌∙◌}
use Prim.Native.Nat.{ℕ, ◌≤◌}
use native.Mathlib.Omega.{arith}
use mathlib.Core.List.{List, [], ◌∷◌}
use lib.Dec.{eqb}
use lib.ListN.{length, take}
use lib.Pointwise.{pointwise}
use Rattle.semantics.specs.Bytes.{byte, all_of}
use Rattle.semantics.proofs.Basics.{same_test, eqb-true, eq-eqb}
use Rattle.words.proofs.bytes.tagged.Goals as goal

turned : (a b : ℕ) → eqb a b ≡ eqb b a
turned a b = same_test (eqb a b) (eqb b a) (λ e. eq-eqb b a (sym (eqb-true a b e))) (λ e. eq-eqb a b (sym (eqb-true b a e)))

begins : (t s : List ℕ) → length t ≡ 4 → 4 ≤ length s
    → pointwise eqb t (take (length t) s)
    ≡ all_of (eqb (byte s 0) (byte t 0) ∷ eqb (byte s 1) (byte t 1) ∷ eqb (byte s 2) (byte t 2) ∷ eqb (byte s 3) (byte t 3) ∷ [])
unfolding all_of
begins (a ∷ b ∷ c ∷ d ∷ []) (x ∷ y ∷ z ∷ w ∷ s) e h = rw (turned a x, turned b y, turned c z, turned d w) refl
begins [] s e h = absurd (omega arith)
begins (a ∷ []) s e h = absurd (omega arith)
begins (a ∷ b ∷ []) s e h = absurd (omega arith)
begins (a ∷ b ∷ c ∷ []) s e h = absurd (omega arith)
begins (a ∷ b ∷ c ∷ d ∷ x ∷ t) s e h = absurd (omega arith)
begins (a ∷ b ∷ c ∷ d ∷ []) [] e h = absurd (omega arith)
begins (a ∷ b ∷ c ∷ d ∷ []) (x ∷ []) e h = absurd (omega arith)
begins (a ∷ b ∷ c ∷ d ∷ []) (x ∷ y ∷ []) e h = absurd (omega arith)
begins (a ∷ b ∷ c ∷ d ∷ []) (x ∷ y ∷ z ∷ []) e h = absurd (omega arith)

pub returns : goal.returns
returns c = c.starts_with.ensures.value ∙ begins c.args.tag.now c.args.s.now c.told-tag c.requires
