-- What the rules of a span give, word by word: each word is allowed and has what it pops, and the stack is as deep as the rules count.
-- What a span may change: the variables that it may name.
use mathlib.Core.Path.{◌≡◌, refl, sym, ap, ◌∙◌, subst}
use Prim.Native.Nat.{ℕ, zero, suc, ◌+◌, ◌-◌, ◌≤◌, ◌<◌, zero-le, suc-le-suc}
use native.Mathlib.Nat.{le_of_suc-le-suc, eq-or-lt_of_le}
use native.Mathlib.Omega.{arith}
use mathlib.Core.Logic.{inl, inr}
use mathlib.Core.Bool.{Bool, true, false, not, cond, true≢false, false≢true}
use mathlib.Core.List.{List, [], ◌∷◌}
use mathlib.Core.Option.{Option, none, some, none-ne-some, some-injective}
use lib.ListN.{length, get_or, drop, length-set, length-drop}
use lib.Seq.{get_or-set_other}
use lib.Dec.{leb, eqb}
use lib.IntN.{ℤ, pos}
use Rattle.semantics.specs.Bytes.{all_of}
use Rattle.semantics.specs.Plan.{Plan, Span, word}
use Rattle.semantics.specs.Code.{State, Instruction, push, extend_top, load, store, located, last_port, operator, unknown, decode, Machine, operator_pops, operator_pushes, perform, ran, acted, Role, allowed, pops, pushes, depth_after, deeper, depth, final_depth, ends_at, span_ok}
use Rattle.semantics.proofs.Basics.{bool_cases, absurd_bool, each, leb-true, ltb-true, eqb-true, eqb-false, ne_eqb}

-- ---- small laws

cond-some : (b : Bool) (x e : ℕ) → cond b (some x) none ≡ some e → (b ≡ true) × (x ≡ e)
cond-some true x e h = (refl, some-injective x e h)
cond-some false x e h = absurd (none-ne-some e h)

-- one value for k values
replaced : (k : ℕ) (xs : List ℤ) (x : ℤ) → length (x ∷ drop k xs) ≡ length xs - k + 1
replaced k xs x = ap suc (length-drop k xs) ∙ one_more (length xs - k)
  where
    one_more : (a : ℕ) → suc a ≡ a + 1
    one_more a = omega arith

-- an operator that is known leaves one value for those that it takes
operator_depth : (n : ℕ) → n < 8 → (xs : List ℤ) (x : ℤ) → length (x ∷ drop (operator_pops n) xs) ≡ length xs - operator_pops n + operator_pushes n
unfolding operator_pops operator_pushes
operator_depth zero h xs x = replaced 2 xs x
operator_depth (suc zero) h xs x = replaced 2 xs x
operator_depth (suc (suc zero)) h xs x = replaced 2 xs x
operator_depth (suc (suc (suc zero))) h xs x = replaced 2 xs x
operator_depth (suc (suc (suc (suc zero)))) h xs x = replaced 2 xs x
operator_depth (suc (suc (suc (suc (suc zero))))) h xs x = replaced 2 xs x
operator_depth (suc (suc (suc (suc (suc (suc zero)))))) h xs x = replaced 1 xs x
operator_depth (suc (suc (suc (suc (suc (suc (suc zero))))))) h xs x = replaced 2 xs x
operator_depth (suc (suc (suc (suc (suc (suc (suc (suc n)))))))) h xs x = absurd (past n h)
  where
    past : (n : ℕ) → suc (suc (suc (suc (suc (suc (suc (suc n))))))) < 8 → ⊥
    past n h = omega arith

-- how deep a stack is after a word that pushes one, pops one, does neither
pushed : (d e : ℕ) → d - 0 + 1 ≡ e → suc d ≡ e
pushed d e h = omega arith

popped : (d e : ℕ) → d - 1 + 0 ≡ e → d - 1 ≡ e
popped d e h = omega arith

kept : (d e : ℕ) → d - 0 + 0 ≡ e → d ≡ e
kept d e h = omega arith

-- a length that is not 0
some_words : (n : ℕ) → (n ≡ 0 → ⊥) → 0 < n
some_words zero f = absurd (f refl)
some_words (suc n) f = suc-le-suc zero-le

not_empty : (n : ℕ) → 0 < n → eqb n 0 ≡ false
not_empty n h = ne_eqb n 0 (λ e. clash n h e)
  where
    clash : (n : ℕ) → 0 < n → n ≡ 0 → ⊥
    clash n h e = omega arith

cond_no : (t b c : Bool) → t ≡ false → cond t b c ≡ true → c ≡ true
cond_no true b c e h = absurd (true≢false e)
cond_no false b c e h = h

-- "A span has .. a depth of at most 8", after every word
depth_after_low : (ok : Bool) (need give d e : ℕ) → depth_after ok need give d ≡ some e → e ≤ 8
unfolding depth_after
depth_after_low ok need give d e h =
    let (t, same) = cond-some (all_of (ok ∷ leb need d ∷ leb (d - need + give) 8 ∷ [])) (d - need + give) e h in
    let (_, (_, (low, _))) = each _ t in
    subst (λ (x : ℕ). x ≤ 8) same (leb-true _ _ low)

-- ---- word by word

module _ (p : Plan) (r : Role) (names : ℕ → Bool) where
  -- a word that keeps the rules takes the depth d to e
  pub record Step (i : Instruction) (d e : ℕ) : Type 0 where
    pub fits : allowed p r names i ≡ true
    pub enough : pops i ≤ d
    pub after : d - pops i + pushes i ≡ e
    pub low : e ≤ 8

  -- the count o before the word i is a number, and the word takes it to e
  pub record Stepped (i : Instruction) (o : Option ℕ) (e : ℕ) : Type 0 where
    pub was : ℕ
    pub counted : o ≡ some was
    pub step : Step i was e

  depth_after_step : (i : Instruction) (d e : ℕ) → depth_after (allowed p r names i) (pops i) (pushes i) d ≡ some e → Step i d e
  unfolding depth_after
  depth_after_step i d e h =
      let (t, same) = cond-some (all_of (allowed p r names i ∷ leb (pops i) d ∷ leb (d - pops i + pushes i) 8 ∷ [])) (d - pops i + pushes i) e h in
      let (fits, (enough, _)) = each _ t in
      record { fits = fits; enough = leb-true _ _ enough; after = same; low = depth_after_low (allowed p r names i) (pops i) (pushes i) d e h }

  -- where the count after a word is a number, the word keeps the rules
  pub stepped : (i : Instruction) (o : Option ℕ) (e : ℕ) → deeper p r names i o ≡ some e → Stepped i o e
  unfolding deeper
  stepped i none e h = absurd (none-ne-some e h)
  stepped i (some d) e h = record { was = d; counted = refl; step = depth_after_step i d e h }

  -- the word after the first n: its step, from the depth after n to the depth after suc n
  pub word_step : (k n e : ℕ) → depth p r names k (suc n) ≡ some e → Stepped (decode (word p (k + n))) (depth p r names k n) e
  unfolding depth
  word_step k n e h = stepped (decode (word p (k + n))) (depth p r names k n) e h

  -- where the depth is counted after n words, it is after fewer
  pub depth_before : (k n e : ℕ) → depth p r names k n ≡ some e → (m : ℕ) → m ≤ n → (d : ℕ) × (depth p r names k m ≡ some d)
  depth_before k zero e h m l = (e, subst (λ (x : ℕ). depth p r names k x ≡ some e) (none_less m l) h)
    where
      none_less : (m : ℕ) → m ≤ 0 → 0 ≡ m
      none_less m l = omega arith
  depth_before k (suc n) e h m l =
      elim (eq-or-lt_of_le l) [
        | inl q ↦ (e, subst (λ (x : ℕ). depth p r names k x ≡ some e) (sym q) h)
        | inr q ↦ let w = word_step k n e h in depth_before k n w.was w.counted m (le_of_suc-le-suc q)
      ]

  -- a depth that is counted is at most 8
  pub depth_low : (k n d : ℕ) → depth p r names k n ≡ some d → d ≤ 8
  unfolding depth
  depth_low k zero d h = subst (λ (x : ℕ). x ≤ 8) (some-injective 0 d h) zero-le
  depth_low k (suc n) d h = (word_step k n d h).step.low

  -- a word that keeps the rules leaves the stack as deep as they count
  pub perform-depth : (i : Instruction) (s : State) (m : Machine) (e : ℕ) → Step i (length m.stack) e → length (perform i s m).stack ≡ e
  unfolding perform pops pushes allowed
  perform-depth (push n) s m e t = pushed (length m.stack) e t.after
  perform-depth (extend_top n) s m e t = replaced 1 m.stack (pos 0) ∙ t.after
  perform-depth (load n) s m e t = pushed (length m.stack) e t.after
  perform-depth (store n) s m e t = length-drop 1 m.stack ∙ popped (length m.stack) e t.after
  perform-depth (located c l) s m e t = pushed (length m.stack) e t.after
  perform-depth (last_port c q) s m e t = pushed (length m.stack) e t.after
  perform-depth (operator n) s m e t = operator_depth n (ltb-true n 8 t.fits) m.stack (pos 0) ∙ t.after
  perform-depth unknown s m e t = kept (length m.stack) e t.after

  -- after n words the stack is as deep as the rules count
  pub ran-depth : (k n d : ℕ) (s : State) → depth p r names k n ≡ some d → length (ran p s k n).stack ≡ d
  unfolding ran depth
  ran-depth k zero d s h = some-injective 0 d h
  ran-depth k (suc n) d s h =
      let w = word_step k n d h in
      perform-depth (decode (word p (k + n))) s (ran p s k n) d
      (subst (λ (x : ℕ). Step (decode (word p (k + n))) x d) (sym (ran-depth k n w.was s w.counted)) w.step)

  ends_some : (d : ℕ) (o : Option ℕ) → ends_at d o ≡ true → o ≡ some d
  unfolding ends_at
  ends_some d none h = absurd (false≢true h)
  ends_some d (some e) h = ap {B = Option ℕ} some (eqb-true e d h)

  -- the depth at the end of a span that keeps the rules and is not empty
  pub span_end : (g : Span) → span_ok p r names g ≡ true → 0 < g.size → depth p r names g.start g.size ≡ some (final_depth r)
  unfolding span_ok
  span_end g h l =
      let (_, (_, (end, _))) = each _ h in
      ends_some (final_depth r) (depth p r names g.start g.size)
      (cond_no (eqb g.size 0) (not r.looks) (ends_at (final_depth r) (depth p r names g.start g.size)) (not_empty g.size l) end)

  no_words : (k n : ℕ) → n ≡ 0 → depth p r names k n ≡ some 0
  unfolding depth
  no_words k n e = ap (λ (x : ℕ). depth p r names k x) e

  -- the depth is counted at the end of a span that keeps the rules
  pub span-depth : (g : Span) → span_ok p r names g ≡ true → (d : ℕ) × (depth p r names g.start g.size ≡ some d)
  span-depth g h =
      bool_cases (eqb g.size 0) (λ e. (0, no_words g.start g.size (eqb-true g.size 0 e)))
      (λ e. (final_depth r, span_end g h (some_words g.size (eqb-false g.size 0 e))))

  -- and after each of its words
  pub span_step : (g : Span) → span_ok p r names g ≡ true → (n : ℕ) → n < g.size
      → (e : ℕ) × (depth p r names g.start (suc n) ≡ some e)
  span_step g h n l = let d = span-depth g h in depth_before g.start g.size d.0 d.1 (suc n) l

  -- so each of its words is allowed
  pub span-word : (g : Span) → span_ok p r names g ≡ true → (n : ℕ) → n < g.size → allowed p r names (decode (word p (g.start + n))) ≡ true
  span-word g h n l = let (e, counted) = span_step g h n l in (word_step g.start n e counted).step.fits

  -- ---- what a span may change

  -- a word that keeps the rules changes no variable but those in names
  perform-frame : (i : Instruction) → allowed p r names i ≡ true → (s : State) (m : Machine) (v : ℕ) → names v ≡ false
      → get_or (perform i s m).values v (pos 0) ≡ get_or m.values v (pos 0)
  unfolding perform allowed
  perform-frame (push n) h s m v f = refl
  perform-frame (extend_top n) h s m v f = refl
  perform-frame (load n) h s m v f = refl
  perform-frame (store n) h s m v f =
      let (_, (named, _)) = each _ h in
      get_or-set_other m.values n v (get_or m.stack 0 (pos 0)) (pos 0) (λ q. absurd_bool (subst (λ (x : ℕ). names x ≡ true) (sym q) named) f)
  perform-frame (located c l) h s m v f = refl
  perform-frame (last_port c q) h s m v f = refl
  perform-frame (operator n) h s m v f = refl
  perform-frame unknown h s m v f = refl

  ran-frame : (k n d : ℕ) (s : State) → depth p r names k n ≡ some d → (v : ℕ) → names v ≡ false
      → get_or (ran p s k n).values v (pos 0) ≡ get_or s.values v (pos 0)
  unfolding ran
  ran-frame k zero d s h v f = refl
  ran-frame k (suc n) d s h v f =
      let w = word_step k n d h in
      perform-frame (decode (word p (k + n))) w.step.fits s (ran p s k n) v f ∙ ran-frame k n w.was s w.counted v f

  -- a span that keeps the rules changes no variable but those in names
  pub frame : (g : Span) → span_ok p r names g ≡ true → (s : State) (v : ℕ) → names v ≡ false
      → get_or (acted p s g).values v (pos 0) ≡ get_or s.values v (pos 0)
  unfolding acted
  frame g h s v f = let d = span-depth g h in ran-frame g.start g.size d.0 s d.1 v f

-- ---- how many values there are

perform_long : (i : Instruction) (s : State) (m : Machine) → length (perform i s m).values ≡ length m.values
unfolding perform
perform_long (push n) s m = refl
perform_long (extend_top n) s m = refl
perform_long (load n) s m = refl
perform_long (store n) s m = length-set m.values n (get_or m.stack 0 (pos 0))
perform_long (located c l) s m = refl
perform_long (last_port c q) s m = refl
perform_long (operator n) s m = refl
perform_long unknown s m = refl

-- running code keeps how many values there are
pub ran_long : (p : Plan) (s : State) (k n : ℕ) → length (ran p s k n).values ≡ length s.values
unfolding ran
ran_long p s k zero = refl
ran_long p s k (suc n) = perform_long (decode (word p (k + n))) s (ran p s k n) ∙ ran_long p s k n

-- so does an action or a transfer
pub acted_long : (p : Plan) (s : State) (g : Span) → length (acted p s g).values ≡ length s.values
unfolding acted
acted_long p s g = ran_long p s g.start g.size
