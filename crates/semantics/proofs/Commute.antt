-- Actions of different components commute, so their order, which 01 leaves open, cannot matter.
-- A span changes the variables that it may name and no other (`frame`), and what it does depends on those alone (`local`).
use mathlib.Core.Path.{◌≡◌, refl, sym, ap, ap₂, ◌∙◌}
use Prim.Native.Nat.{ℕ, zero, suc, ◌+◌, ◌<◌}
use native.Mathlib.Nat.{suc_inj, suc-ne-zero}
use mathlib.Core.Bool.{Bool, true, false}
use mathlib.Core.List.{List, [], ◌∷◌}
use mathlib.Core.Option.{some}
use lib.ListN.{length, get_or, set, drop, length-set}
use lib.Seq.{ext_get_or}
use lib.IntN.{ℤ, pos}
use Rattle.semantics.specs.Plan.{Plan, Span, transitions, component_of, action_of, owner, word}
use Rattle.semantics.specs.Signed.{extend}
use Rattle.semantics.specs.Code.{State, Instruction, push, extend_top, load, store, located, last_port, operator, unknown, decode, operate, operator_pops, Machine, perform, ran, acted, Role, as_update, owned_by, allowed, depth, span_ok}
use Rattle.semantics.specs.Rules.{plan_refusal}
use Rattle.semantics.proofs.Basics.{bool_cases, absurd_bool, each, eqb-true}
use Rattle.semantics.proofs.AcceptedPlan.{accepted_plan, action_ok}
use Rattle.semantics.proofs.Spans.{word_step, span-depth}
pub use Rattle.semantics.proofs.Spans.{frame, acted_long}

-- two lists are as long and hold the same numbers at the places in names
pub record Agree (names : ℕ → Bool) (xs ys : List ℤ) : Type 0 where
  pub same_length : length xs ≡ length ys
  pub same_at : (v : ℕ) → names v ≡ true → get_or xs v (pos 0) ≡ get_or ys v (pos 0)

-- a store keeps that
same_set : (xs ys : List ℤ) (n v : ℕ) (x : ℤ) → length xs ≡ length ys → get_or xs v (pos 0) ≡ get_or ys v (pos 0) → get_or (set xs n x) v (pos 0) ≡ get_or (set ys n x) v (pos 0)
same_set [] [] n v x l e = e
same_set [] (b ∷ ys) n v x l e = absurd (suc-ne-zero (length ys) (sym l))
same_set (a ∷ xs) [] n v x l e = absurd (suc-ne-zero (length xs) l)
same_set (a ∷ xs) (b ∷ ys) zero zero x l e = refl
same_set (a ∷ xs) (b ∷ ys) zero (suc v) x l e = e
same_set (a ∷ xs) (b ∷ ys) (suc n) zero x l e = e
same_set (a ∷ xs) (b ∷ ys) (suc n) (suc v) x l e = same_set xs ys n v x (suc_inj l) e

set-agree : (names : ℕ → Bool) (xs ys : List ℤ) (n : ℕ) (x y : ℤ) → x ≡ y → Agree names xs ys → Agree names (set xs n x) (set ys n y)
set-agree names xs ys n x y q e =
    record {
      same_length = length-set xs n x ∙ e.same_length ∙ sym (length-set ys n y);
      same_at = λ v h. same_set xs ys n v x e.same_length (e.same_at v h) ∙ ap (λ (z : ℤ). get_or (set ys n z) v (pos 0)) q;
    }

-- two machines have the same stack and the same numbers in the variables in names
record Alike (names : ℕ → Bool) (m k : Machine) : Type 0 where
  same_stack : m.stack ≡ k.stack
  same_values : Agree names m.values k.values

module _ (p : Plan) (r : Role) (names : ℕ → Bool) (blind : r.looks ≡ false) where
  -- a word that keeps the rules, and looks at no location and no port, keeps two machines alike
  perform-local : (i : Instruction) → allowed p r names i ≡ true → (a b : State) (m k : Machine) → Alike names m k → Alike names (perform i a m) (perform i b k)
  unfolding perform allowed
  perform-local (push n) h a b m k t = record { same_stack = ap (λ (xs : List ℤ). pos n ∷ xs) t.same_stack; same_values = t.same_values }
  perform-local (extend_top n) h a b m k t =
      record { same_stack = ap (λ (xs : List ℤ). extend (get_or xs 0 (pos 0)) n ∷ drop 1 xs) t.same_stack; same_values = t.same_values }
  perform-local (load n) h a b m k t =
      record { same_stack = ap₂ (λ (x : ℤ) (xs : List ℤ). x ∷ xs) (t.same_values.same_at n h) t.same_stack; same_values = t.same_values }
  perform-local (store n) h a b m k t =
      record {
        same_stack = ap (λ (xs : List ℤ). drop 1 xs) t.same_stack;
        same_values = set-agree names m.values k.values n (get_or m.stack 0 (pos 0)) (get_or k.stack 0 (pos 0))
            (ap (λ (xs : List ℤ). get_or xs 0 (pos 0)) t.same_stack) t.same_values;
      }
  perform-local (located c l) h a b m k t = absurd_bool (each _ h).0 blind
  perform-local (last_port c q) h a b m k t = absurd_bool (each _ h).0 blind
  perform-local (operator n) h a b m k t =
      record {
        same_stack = ap (λ (xs : List ℤ). operate n (get_or xs 1 (pos 0)) (get_or xs 0 (pos 0)) ∷ drop (operator_pops n) xs) t.same_stack;
        same_values = t.same_values;
      }
  perform-local unknown h a b m k t = t

  ran-local : (k n d : ℕ) (a b : State) → depth p r names k n ≡ some d → Agree names a.values b.values → Alike names (ran p a k n) (ran p b k n)
  unfolding ran
  ran-local k zero d a b h e = record { same_stack = refl; same_values = e }
  ran-local k (suc n) d a b h e =
      let w = word_step p r names k n d h in
      perform-local (decode (word p (k + n))) w.step.fits a b (ran p a k n) (ran p b k n) (ran-local k n w.was a b w.counted e)

  -- what a span does depends on the variables in names alone: on two states that agree there it leaves the same stack,
  -- and states that agree there
  pub local : (g : Span) → span_ok p r names g ≡ true → (a b : State) → Agree names a.values b.values
      → ((ran p a g.start g.size).stack ≡ (ran p b g.start g.size).stack) × Agree names (acted p a g).values (acted p b g).values
  unfolding acted
  local g h a b e =
      let d = span-depth p r names g h in
      let t = ran-local g.start g.size d.0 a b d.1 e in
      (t.same_stack, t.same_values)

-- ---- two updates that share no variable

-- where the update g may write and h may not, either order leaves what g alone leaves
own_part : (p : Plan) (names others : ℕ → Bool) (g h : Span) → span_ok p as_update names g ≡ true → span_ok p as_update others h ≡ true
    → ((v : ℕ) → names v ≡ true → others v ≡ false) → (s : State) (v : ℕ) → names v ≡ true
    → get_or (acted p (acted p s g) h).values v (pos 0) ≡ get_or (acted p (acted p s h) g).values v (pos 0)
own_part p names others g h g_ok h_ok apart s v e =
    let a : Agree names s.values (acted p s h).values
    = record { same_length = sym (acted_long p s h); same_at = λ w q. sym (frame p as_update others h h_ok s w (apart w q)) } in
    frame p as_update others h h_ok (acted p s g) v (apart v e) ∙ (local p as_update names refl g g_ok s (acted p s h) a).1.same_at v e

-- updates that may name no common variable leave the same values in either order
values_commute : (p : Plan) (names others : ℕ → Bool) (g h : Span) → span_ok p as_update names g ≡ true → span_ok p as_update others h ≡ true
    → ((v : ℕ) → names v ≡ true → others v ≡ false) → (s : State) → (acted p (acted p s g) h).values ≡ (acted p (acted p s h) g).values
values_commute p names others g h g_ok h_ok apart s =
    ext_get_or (pos 0) (acted p (acted p s g) h).values (acted p (acted p s h) g).values
    (acted_long p (acted p s g) h ∙ acted_long p s g ∙ sym (acted_long p (acted p s h) g ∙ acted_long p s h)) (λ v l. place v)
  where
    back : (v : ℕ) → others v ≡ true → names v ≡ false
    back v e = bool_cases (names v) (λ q. absurd_bool e (apart v q)) (λ q. q)

    place : (v : ℕ) → get_or (acted p (acted p s g) h).values v (pos 0) ≡ get_or (acted p (acted p s h) g).values v (pos 0)
    place v =
        bool_cases (names v) (λ e. own_part p names others g h g_ok h_ok apart s v e)
        (λ e. bool_cases (others v) (λ d. sym (own_part p others names h g h_ok g_ok back s v d))
        (λ d. (frame p as_update others h h_ok (acted p s g) v d ∙ frame p as_update names g g_ok s v e)
        ∙ sym (frame p as_update names g g_ok (acted p s h) v e ∙ frame p as_update others h h_ok s v d)))

-- updates that may name no common variable commute
pub apart_commute : (p : Plan) (names others : ℕ → Bool) (g h : Span) → span_ok p as_update names g ≡ true → span_ok p as_update others h ≡ true
    → ((v : ℕ) → names v ≡ true → others v ≡ false) → (s : State) → acted p (acted p s g) h ≡ acted p (acted p s h) g
unfolding acted
apart_commute p names others g h g_ok h_ok apart s =
    λ i. record { locations = s.locations; last_ports = s.last_ports; values = values_commute p names others g h g_ok h_ok apart s i }

-- a variable has one owner
pub one_owner : (p : Plan) (c d : ℕ) → (c ≡ d → ⊥) → (v : ℕ) → owned_by p c v ≡ true → owned_by p d v ≡ false
unfolding owned_by
one_owner p c d different v e =
    let (_, (c_owns, _)) = each _ e in
    bool_cases (owned_by p d v)
    (λ q. let (_, (d_owns, _)) = each _ q in absurd (different (sym (eqb-true (owner p v) c c_owns) ∙ eqb-true (owner p v) d d_owns))) (λ q. q)

-- the actions of two transitions of different components commute
pub actions_commute : (p : Plan) → plan_refusal p ≡ 0 → (t u : ℕ) → t < transitions p → u < transitions p → (component_of p t ≡ component_of p u → ⊥)
    → (s : State) → acted p (acted p s (action_of p t)) (action_of p u) ≡ acted p (acted p s (action_of p u)) (action_of p t)
actions_commute p z t u ht hu different s =
    let a = accepted_plan p z in
    apart_commute p (owned_by p (component_of p t)) (owned_by p (component_of p u)) (action_of p t) (action_of p u) (action_ok p a t ht) (action_ok p a u hu)
    (one_owner p (component_of p t) (component_of p u) different) s
