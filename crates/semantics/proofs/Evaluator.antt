-- The evaluator stays inside its room: in a span that keeps the rules the stack is never deeper than 8, no word lacks what it pops,
-- and every value, on the stack and in the variables, is a signed 32-bit number.
use mathlib.Core.Path.{◌≡◌, sym, ◌∙◌, subst}
use Prim.Native.Nat.{ℕ, zero, suc, ◌+◌, ◌/◌, ◌%◌, ◌≤◌, ◌<◌}
use native.Mathlib.Omega.{arith}
use mathlib.Core.Bool.{Bool, true}
use mathlib.Core.List.{List, [], ◌∷◌}
use lib.ListN.{length, get_or, set, drop}
use lib.Seq.{get_or-drop}
use lib.IntN.{ℤ, pos}
use lib.Signed.{mag}
use Rattle.semantics.specs.Plan.{Plan, Span, max_variables, variables, transitions, interactions, propositions, guard_of, action_of, interaction_guard, transfer_of, proposition_of, component_of, word}
use Rattle.semantics.specs.Signed.{add, subtract, extend}
use Rattle.semantics.specs.Code.{State, Instruction, push, extend_top, load, store, located, last_port, operator, unknown, instruction, decode, operate, operator_pops, Machine, perform, ran, acted, Role, as_guard, as_update, as_proposition, owned_by, shared_in, declared, pops, final_depth, span_ok}
use Rattle.semantics.specs.Rules.{plan_refusal}
use Rattle.semantics.proofs.Basics.{bool_cases}
use Rattle.semantics.proofs.AcceptedPlan.{accepted_plan, guard_ok, action_ok, interaction_guard_ok, transfer_ok, proposition_ok}
use Rattle.semantics.proofs.Saturation.{saturate_in}
use Rattle.semantics.proofs.SignedBits.{truth_in}
use Rattle.semantics.proofs.Spans.{word_step, depth_before, depth_low, ran-depth, span_end, span-depth, span_step, frame, acted_long}

-- ---- lists of signed 32-bit numbers

-- each number of the list is a signed 32-bit number
pub record Words (vs : List ℤ) : Type 0 where
  pub word_at : (v : ℕ) → mag (get_or vs v (pos 0)) < 2147483648

-- the empty list is one
pub no_words : Words []
no_words = record { word_at = λ v. omega arith }

-- a list of them with one more before it is one
pub one_more_word : {x : ℤ} {xs : List ℤ} → mag x < 2147483648 → Words xs → Words (x ∷ xs)
one_more_word {x} {xs} e w = record { word_at = place }
  where
    place : (v : ℕ) → mag (get_or (x ∷ xs) v (pos 0)) < 2147483648
    place zero = e
    place (suc v) = w.word_at v

-- so is a list of them without its first n
fewer_words : (n : ℕ) (xs : List ℤ) → Words xs → Words (drop n xs)
fewer_words n xs w = record { word_at = λ v. subst (λ (z : ℤ). mag z < 2147483648) (sym (get_or-drop n xs v (pos 0))) (w.word_at (n + v)) }

-- and a list of them with one stored in it
set_word : (xs : List ℤ) (n : ℕ) (x : ℤ) → ((v : ℕ) → mag (get_or xs v (pos 0)) < 2147483648) → mag x < 2147483648
    → (v : ℕ) → mag (get_or (set xs n x) v (pos 0)) < 2147483648
set_word [] n x h e v = h v
set_word (y ∷ ys) zero x h e zero = e
set_word (y ∷ ys) zero x h e (suc v) = h (suc v)
set_word (y ∷ ys) (suc n) x h e zero = h zero
set_word (y ∷ ys) (suc n) x h e (suc v) = set_word ys n x (λ k. h (suc k)) e v

set_words : (xs : List ℤ) (n : ℕ) (x : ℤ) → Words xs → mag x < 2147483648 → Words (set xs n x)
set_words xs n x w e = record { word_at = set_word xs n x w.word_at e }

-- ---- one word of code

-- every operator gives a signed 32-bit number
operate_in : (n : ℕ) (left right : ℤ) → mag (operate n left right) < 2147483648
unfolding operate add subtract
operate_in zero l r = saturate_in _
operate_in (suc zero) l r = saturate_in _
operate_in (suc (suc zero)) l r = truth_in _
operate_in (suc (suc (suc zero))) l r = truth_in _
operate_in (suc (suc (suc (suc zero)))) l r = truth_in _
operate_in (suc (suc (suc (suc (suc zero))))) l r = truth_in _
operate_in (suc (suc (suc (suc (suc (suc zero)))))) l r = truth_in _
operate_in (suc (suc (suc (suc (suc (suc (suc zero))))))) l r = truth_in _
operate_in (suc (suc (suc (suc (suc (suc (suc (suc n)))))))) l r = omega arith

-- what a word pushes as it stands is below 4096
abbrev Small : Instruction → Type 0
Small (push n) = n < 4096
Small (extend_top n) = Unit {0}
Small (load n) = Unit {0}
Small (store n) = Unit {0}
Small (located c l) = Unit {0}
Small (last_port c q) = Unit {0}
Small (operator n) = Unit {0}
Small unknown = Unit {0}

instruction_small : (k n : ℕ) → n < 4096 → Small (instruction k n)
unfolding instruction
instruction_small zero n h = h
instruction_small (suc zero) n h = tt
instruction_small (suc (suc zero)) n h = tt
instruction_small (suc (suc (suc zero))) n h = tt
instruction_small (suc (suc (suc (suc zero)))) n h = tt
instruction_small (suc (suc (suc (suc (suc zero))))) n h = tt
instruction_small (suc (suc (suc (suc (suc (suc zero)))))) n h = tt
instruction_small (suc (suc (suc (suc (suc (suc (suc k))))))) n h = tt

decode_small : (w : ℕ) → Small (decode w)
unfolding decode
decode_small w = instruction_small (w / 4096) (w % 4096) (below w)
  where
    below : (w : ℕ) → w % 4096 < 4096
    below w = omega arith

-- the machine holds signed 32-bit numbers alone
record Sound (m : Machine) : Type 0 where
  on_stack : Words m.stack
  in_values : Words m.values

-- every word of code keeps that
perform_sound : (i : Instruction) → Small i → (s : State) (m : Machine) → Sound m → Sound (perform i s m)
unfolding perform extend
perform_sound (push n) h s m a = record { on_stack = one_more_word (omega arith) a.on_stack; in_values = a.in_values }
perform_sound (extend_top n) h s m a = record { on_stack = one_more_word (saturate_in _) (fewer_words 1 m.stack a.on_stack); in_values = a.in_values }
perform_sound (load n) h s m a = record { on_stack = one_more_word (a.in_values.word_at n) a.on_stack; in_values = a.in_values }
perform_sound (store n) h s m a =
    record { on_stack = fewer_words 1 m.stack a.on_stack; in_values = set_words m.values n (get_or m.stack 0 (pos 0)) a.in_values (a.on_stack.word_at 0) }
perform_sound (located c l) h s m a = record { on_stack = one_more_word (truth_in _) a.on_stack; in_values = a.in_values }
perform_sound (last_port c q) h s m a = record { on_stack = one_more_word (truth_in _) a.on_stack; in_values = a.in_values }
perform_sound (operator n) h s m a =
    record { on_stack = one_more_word (operate_in n _ _) (fewer_words (operator_pops n) m.stack a.on_stack); in_values = a.in_values }
perform_sound unknown h s m a = a

ran_sound : (p : Plan) (s : State) (k n : ℕ) → Words s.values → Sound (ran p s k n)
unfolding ran
ran_sound p s k zero w = record { on_stack = no_words; in_values = w }
ran_sound p s k (suc n) w = perform_sound (decode (word p (k + n))) (decode_small (word p (k + n))) s (ran p s k n) (ran_sound p s k n w)

-- ---- a span

-- what holds after the first n words of the span g, begun in the state s
pub record Inside (p : Plan) (s : State) (g : Span) (n : ℕ) : Type 0 where
  pub shallow : length (ran p s g.start n).stack ≤ 8
  pub fed : n < g.size → pops (decode (word p (g.start + n))) ≤ length (ran p s g.start n).stack
  pub stack_words : Words (ran p s g.start n).stack
  pub value_words : Words (ran p s g.start n).values

-- a span that keeps the rules keeps the evaluator inside its room, after every word
pub inside : (p : Plan) (r : Role) (names : ℕ → Bool) (g : Span) (s : State) → span_ok p r names g ≡ true → Words s.values → (n : ℕ) → n ≤ g.size → Inside p s g n
inside p r names g s h w n l =
    let o = span-depth p r names g h in
    let d = depth_before p r names g.start g.size o.0 o.1 n l in
    record {
      shallow = subst (λ (x : ℕ). x ≤ 8) (sym (ran-depth p r names g.start n d.0 s d.1)) (depth_low p r names g.start n d.0 d.1);
      fed = λ b.
          let e = span_step p r names g h n b in
          let t = word_step p r names g.start n e.0 e.1 in
          subst (λ (x : ℕ). pops (decode (word p (g.start + n))) ≤ x) (sym (ran-depth p r names g.start n t.was s t.counted)) t.step.enough;
      stack_words = (ran_sound p s g.start n w).on_stack;
      value_words = (ran_sound p s g.start n w).in_values;
    }

-- at its end the stack is as deep as the role wants
pub ends : (p : Plan) (r : Role) (names : ℕ → Bool) (g : Span) (s : State) → span_ok p r names g ≡ true → 0 < g.size
    → length (ran p s g.start g.size).stack ≡ final_depth r
ends p r names g s h l = ran-depth p r names g.start g.size (final_depth r) s (span_end p r names g h l)

-- after every word of every span of the plan the evaluator is inside its room, on every state of signed 32-bit numbers
pub record Roomy (p : Plan) : Type 0 where
  pub guard : (t : ℕ) → t < transitions p → (s : State) → Words s.values → (n : ℕ) → n ≤ (guard_of p t).size → Inside p s (guard_of p t) n
  pub action : (t : ℕ) → t < transitions p → (s : State) → Words s.values → (n : ℕ) → n ≤ (action_of p t).size → Inside p s (action_of p t) n
  pub interaction-guard : (i : ℕ) → i < interactions p → (s : State) → Words s.values → (n : ℕ) → n ≤ (interaction_guard p i).size
      → Inside p s (interaction_guard p i) n
  pub transfer : (i : ℕ) → i < interactions p → (s : State) → Words s.values → (n : ℕ) → n ≤ (transfer_of p i).size → Inside p s (transfer_of p i) n
  pub proposition : (k : ℕ) → k < propositions p → (s : State) → Words s.values → (n : ℕ) → n ≤ (proposition_of p k).size
      → Inside p s (proposition_of p k) n

-- the evaluator stays inside its room on every accepted plan
pub evaluator_inside : (p : Plan) → plan_refusal p ≡ 0 → Roomy p
evaluator_inside p e =
    let a = accepted_plan p e in
    record {
      guard = λ t h s w n l. inside p as_guard (owned_by p (component_of p t)) (guard_of p t) s (guard_ok p a t h) w n l;
      action = λ t h s w n l. inside p as_update (owned_by p (component_of p t)) (action_of p t) s (action_ok p a t h) w n l;
      interaction-guard = λ i h s w n l. inside p as_guard (shared_in p i) (interaction_guard p i) s (interaction_guard_ok p a i h) w n l;
      transfer = λ i h s w n l. inside p as_update (shared_in p i) (transfer_of p i) s (transfer_ok p a i h) w n l;
      proposition = λ k h s w n l. inside p as_proposition (declared p) (proposition_of p k) s (proposition_ok p a k h) w n l;
    }

-- ---- an update

-- what an update keeps
pub record Valued (p : Plan) (vs : List ℤ) : Type 0 where
  pub long : length vs ≡ max_variables
  pub words : Words vs
  pub unused : (v : ℕ) → variables p ≤ v → get_or vs v (pos 0) ≡ pos 0

-- an action or a transfer keeps sixty-four signed 32-bit numbers, with zeros past the plan's variables
pub acted-valued : (p : Plan) (names : ℕ → Bool) (g : Span) (s : State) → span_ok p as_update names g ≡ true → ((v : ℕ) → names v ≡ true → v < variables p)
    → Valued p s.values → Valued p (acted p s g).values
unfolding acted
acted-valued p names g s h own a =
    record {
      long = acted_long p s g ∙ a.long;
      words = (ran_sound p s g.start g.size a.words).in_values;
      unused = λ v l. frame p as_update names g h s v (bool_cases (names v) (λ e. absurd (clash v (variables p) (own v e) l)) (λ e. e)) ∙ a.unused v l;
    }
  where
    clash : (v n : ℕ) → v < n → n ≤ v → ⊥
    clash v n h l = omega arith
