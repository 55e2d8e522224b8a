-- The depth that the rules of a span count, as the checker holds it.
use Rattle.words.proofs.TestLaws.{rest_decides}
use Rattle.std.specs.Prelude.{Some, None}
use Rattle.std.specs.Option.{option_eq}
use Rattle.std.proofs.lemmas.Option.{none-some, same_Some}
use mathlib.Core.Path.{◌≡◌, refl, sym, ap, ◌∙◌}
use Prim.Native.Nat.{ℕ, suc, ◌+◌, ◌/◌, ◌%◌, ◌≤◌, ◌<◌}
use native.Mathlib.Numerals.{add-one}
use native.Mathlib.Omega.{arith}
use mathlib.Core.Bool.{Bool, true, false, not, cond, ◌&&◌}
use mathlib.Core.Option as counted
use lib.ListN.{get_or-eq_default}
use lib.Dec.{eqb, leb}
use Rattle.semantics.specs.Bytes.{all_of}
use Rattle.semantics.specs.Plan.{Plan, word, Span, code_words}
use Rattle.semantics.specs.Code.{unknown, instruction, decode, Role, allowed, pops, pushes, depth_after, deeper, depth, ends_at, final_depth, span_ok}
use Rattle.semantics.proofs.Basics.{le-ltb, eqb-true, eqb-false, le_leb, eq-eqb}
use Rattle.semantics.proofs.Spans.{depth_before, depth_low}
use Rattle.checker.specs.Depth.{held}

-- ---- one word

pub depth_after_no : (need give d : ℕ) → None ≡ held (depth_after false need give d)
unfolding depth_after all_of
depth_after_no need give d = refl

-- kinds past 6 break the rules
kind_past : (p : Plan) (r : Role) (names : ℕ → Bool) (k n d : ℕ) → 7 ≤ k → None ≡ held (deeper p r names (instruction k n) (counted.some d))
unfolding instruction deeper allowed depth_after all_of
kind_past p r names k n d h = rw (get_or-eq_default _ unknown h)

-- so do the operators past 7
operator_past : (p : Plan) (r : Role) (names : ℕ → Bool) (n d : ℕ) → 8 ≤ n → None ≡ held (deeper p r names (instruction 6 n) (counted.some d))
unfolding instruction deeper allowed pops pushes
operator_past p r names n d h = rw (le-ltb n 8 h) (depth_after_no _ _ _)

-- the words from 24584 on are of these
pub word_past : (p : Plan) (r : Role) (names : ℕ → Bool) (w d : ℕ) → 24584 ≤ w → None ≡ held (deeper p r names (decode w) (counted.some d))
unfolding decode
word_past p r names w d h = by_kind (eqb (w / 4096) 6) refl
  where
    by_kind : (b : Bool) → eqb (w / 4096) 6 ≡ b → None ≡ held (deeper p r names (instruction (w / 4096) (w % 4096)) (counted.some d))
    by_kind true e = let k : w / 4096 ≡ 6 = eqb-true (w / 4096) 6 e in rw k (operator_past p r names (w % 4096) d (omega arith))
    by_kind false e = kind_past p r names (w / 4096) (w % 4096) d (omega (arith, eqb-false (w / 4096) 6 e))

-- ---- word by word

held_some : (o : counted.Option ℕ) (e : ℕ) → Some e ≡ held o → o ≡ counted.some e
held_some counted.none e h = absurd (none-some e (sym h))
held_some (counted.some d) e h = ap {B = counted.Option ℕ} counted.some (sym (same_Some e d h))

held_none : (o : counted.Option ℕ) → None ≡ held o → o ≡ counted.none
held_none counted.none h = refl
held_none (counted.some d) h = absurd (none-some d h)

never : (o : counted.Option ℕ) → ((x : ℕ) → o ≡ counted.some x → ⊥) → None ≡ held o
never counted.none h = refl
never (counted.some x) h = absurd (h x refl)

module _ (p : Plan) (r : Role) (names : ℕ → Bool) (k i : ℕ) where
  -- the depth after one word more, from the depth d before it
  one_more : (d : ℕ) → depth p r names k i ≡ counted.some d → depth p r names k (suc i) ≡ deeper p r names (decode (word p (k + i))) (counted.some d)
  unfolding depth
  one_more d h = ap (deeper p r names (decode (word p (k + i)))) h

  pub depth_next : (d e : ℕ) → depth p r names k i ≡ counted.some d → Some e ≡ held (deeper p r names (decode (word p (k + i))) (counted.some d))
      → (e ≤ 8) × (depth p r names k (i + 1) ≡ counted.some e)
  depth_next d e h q =
      let now : depth p r names k (suc i) ≡ counted.some e = one_more d h ∙ held_some (deeper p r names (decode (word p (k + i))) (counted.some d)) e q in
      (depth_low p r names k (suc i) e now, ap (depth p r names k) (add-one i) ∙ now)

  -- where a rule is broken, none of the words behind mends it
  pub depth_stops : (d : ℕ) → depth p r names k i ≡ counted.some d → None ≡ held (deeper p r names (decode (word p (k + i))) (counted.some d))
      → (n : ℕ) → i < n → None ≡ held (depth p r names k n)
  depth_stops d h q n b =
      never (depth p r names k n)
      (λ x y. let w = depth_before p r names k n x y (suc i) b in
      counted.none-ne-some w.0 (sym (one_more d h ∙ held_none (deeper p r names (decode (word p (k + i))) (counted.some d)) q) ∙ w.1))

-- the depth that the rules count, against the one that a span must end with
pub ends_at_lem : (f d : ℕ) (o : counted.Option ℕ) → o ≡ counted.some d → ends_at f o ≡ eqb d f
unfolding ends_at
ends_at_lem f d o e = ap (ends_at f) e

pub ends_held : (f : ℕ) (o : counted.Option ℕ) → option_eq eqb (held o) (Some f) ≡ ends_at f o
unfolding ends_at
ends_held f counted.none = refl
ends_held f (counted.some d) = refl

-- ---- a span

-- one that is empty
pub span_empty : (p : Plan) (r : Role) (names : ℕ → Bool) (g : Span) → g.size ≡ 0 → (leb g.start (code_words p) && not r.looks) ≡ span_ok p r names g
unfolding span_ok
span_empty p r names g e =
    let z : g.start ≡ g.start + g.size = omega arith in
    ap (λ (x : ℕ). leb x (code_words p) && not r.looks) z
    ∙ rest_decides (leb (g.start + g.size) (code_words p)) (le_leb g.size 64 (omega arith))
    (ap (λ (b : Bool). cond b (not r.looks) (ends_at (final_depth r) (depth p r names g.start g.size))) (sym (eq-eqb g.size 0 e)))
