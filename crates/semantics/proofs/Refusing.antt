-- Laws of the first broken rule of a list, for lists whose numbers are not 0.
use mathlib.Core.Path.{◌≡◌, refl, sym, ap, ◌∙◌}
use Prim.Native.Nat.{ℕ, zero, suc}
use native.Mathlib.Nat.{suc-ne-zero}
use mathlib.Core.Bool.{Bool, true, false, not, cond, ◌&&◌}
use mathlib.Core.List.{List, [], ◌∷◌, ◌++◌}
use lib.Dec.{eqb}
use Rattle.semantics.specs.Refusal.{Rule, unless, refusal}
use Rattle.semantics.proofs.Basics.{bool_cases, absurd_bool, and_both, not_yes, eq-eqb, Each}

-- no rule of the list has the number 0
unfoldable pub numbered : List Rule → Bool
numbered [] = true
numbered (r ∷ rs) = not (eqb r.number 0) && numbered rs

abbrev pub tests : List Rule → List Bool
tests [] = []
tests (r ∷ rs) = r.kept ∷ tests rs

unless-kept : (b : Bool) (n k : ℕ) → b ≡ true → unless b n k ≡ k
unfolding unless
unless-kept b n k e = ap (λ (x : Bool). cond x k n) e

unless-broken : (b : Bool) (n k : ℕ) → b ≡ false → unless b n k ≡ n
unfolding unless
unless-broken b n k e = ap (λ (x : Bool). cond x k n) e

-- nothing is refused: every rule is kept
pub none-refused : (rs : List Rule) → numbered rs ≡ true → refusal rs ≡ 0 → Each (tests rs)
unfolding refusal numbered
none-refused [] h e = tt
none-refused (r ∷ rs) h e =
    let n = and_both (not (eqb r.number 0)) (numbered rs) h in
    bool_cases r.kept (λ k. (k, none-refused rs n.1 (sym (unless-kept r.kept r.number (refusal rs) k) ∙ e)))
    (λ k. absurd_bool (eq-eqb r.number 0 (sym (unless-broken r.kept r.number (refusal rs) k) ∙ e)) (not_yes (eqb r.number 0) n.0))

pub all_kept : (rs : List Rule) → Each (tests rs) → refusal rs ≡ 0
unfolding refusal
all_kept [] h = refl
all_kept (r ∷ rs) h = unless-kept r.kept r.number (refusal rs) h.0 ∙ all_kept rs h.1

-- rules that are all kept may be left out before others
pub refusal-after : (rs qs : List Rule) → Each (tests rs) → refusal (rs ++ qs) ≡ refusal qs
unfolding refusal
refusal-after [] qs h = refl
refusal-after (r ∷ rs) qs h = unless-kept r.kept r.number (refusal (rs ++ qs)) h.0 ∙ refusal-after rs qs h.1

unless_both : (b : Bool) (m x y n : ℕ) → unless b m x ≡ n → (x ≡ n → y ≡ n) → unless b m y ≡ n
unfolding unless
unless_both true m x y n e f = f e
unless_both false m x y n e f = e

-- what the first rules refuse is refused whatever comes after them
pub refused-first : (rs qs : List Rule) (n : ℕ) → refusal rs ≡ n → (n ≡ 0 → ⊥) → refusal (rs ++ qs) ≡ n
unfolding refusal
refused-first [] qs n e h = absurd (h (sym e))
refused-first (r ∷ rs) qs n e h =
    unless_both r.kept r.number (refusal rs) (refusal (rs ++ qs)) n e (λ q. refused-first rs qs n q h)

-- so where nothing is refused the first rules refuse nothing
pub refusal_before : (rs qs : List Rule) → refusal (rs ++ qs) ≡ 0 → refusal rs ≡ 0
refusal_before rs qs e = first (refusal rs) refl
  where
    first : (n : ℕ) → refusal rs ≡ n → n ≡ 0
    first zero q = refl
    first (suc n) q = sym (refused-first rs qs (suc n) q (suc-ne-zero n)) ∙ e
