-- A plan and the same plan with one oracle more: the counts and the tables that they share, and so the same moves (02, job 1).
use mathlib.Core.Path.{◌≡◌, refl, ap, ap₂, ◌∙◌}
use Prim.Native.Nat.{ℕ, zero, suc, ◌+◌, ◌-◌, ◌*◌, ◌≤◌, ◌<◌}
use native.Mathlib.Nat.{add-zero, add_assoc}
use native.Mathlib.Omega.{arith}
use mathlib.Core.Bool.{Bool, true}
use mathlib.Core.List.{List, [], ◌∷◌}
use lib.Dec.{ltb}
use lib.IntN.{ℤ, pos}
use Rattle.semantics.specs.Bytes.{byte, u16, u32, all_of}
use Rattle.semantics.specs.Signed.{signed}
use Rattle.semantics.specs.Plan.{Plan, Span, span_at, max_components, max_variables, components, variables, transitions, interactions, propositions, code_words, added_oracles, first_oracle, oracle_states}
use Rattle.semantics.specs.Plan.{section, section_size, component_at, variable_at, transition_at, interaction_at, proposition_at}
use Rattle.semantics.specs.Plan.{guard_of, port_in, takes_part, word}
use Rattle.semantics.specs.Code.{State, site, Machine, Role, decode, perform, ran, guard_holds, acted, span_ok}
use Rattle.semantics.specs.Rules.{plan_refusal}
use Rattle.semantics.specs.Move.{ready, chosen, chosen_in, enabled, acted_below, fired, letter, initial_state}
use Rattle.semantics.proofs.Basics.{bool_cases, each, leb-true, ltb-true, every_same, lowest_same, table_same, row_end}
use Rattle.semantics.proofs.Masks.{mask_same}
use Rattle.semantics.proofs.AcceptedPlan.{Accepted, accepted_plan, counts_of_lem, guard_ok, action_ok, interaction_guard_ok, transfer_ok, proposition_ok}
use Rattle.semantics.proofs.OneMove.{uses}
use Rattle.semantics.proofs.Sound.{part}

-- the plan p' is p with one oracle more: the same counts, one more oracle behind the others, and each section begins with p's bytes (only the
-- oracles' grows)
pub record OneMore (p p' : Plan) : Type 0 where
  pub one_more : added_oracles p' ≡ suc (added_oracles p)
  pub same_counts : (k : ℕ) → 10 ≤ k → k < 26 → byte p' k ≡ byte p k
  pub same_states : (k : ℕ) → k < added_oracles p → byte p' (43 + k) ≡ byte p (43 + k)
  pub same_sections : (n k : ℕ) → n < 8 → k < section_size p n → byte p' (section p' n + k) ≡ byte p (section p n + k)

-- ---- the same bytes

-- the n bytes of p' from a' on are those of p from a on
pub record Alike (p p' : Plan) (a a' n : ℕ) : Type 0 where
  pub at : (k : ℕ) → k < n → byte p' (a' + k) ≡ byte p (a + k)

module _ {p p' : Plan} {a a' n : ℕ} (s : Alike p p' a a' n) where
  -- so are those past the first k
  past : (k : ℕ) → Alike p p' (a + k) (a' + k) (n - k)
  past k = record { at = λ j l. rw (add_assoc a' k j, add_assoc a k j) (s.at (k + j) (omega arith)) }

  pub same_byte : 0 < n → byte p' a' ≡ byte p a
  same_byte h = simp add-zero at (s.at 0 h)

  same_u16 : 2 ≤ n → u16 p' a' ≡ u16 p a
  unfolding u16
  same_u16 h = cc (same_byte (omega arith), s.at 1 (omega arith))

  same_u32 : 4 ≤ n → u32 p' a' ≡ u32 p a
  unfolding u32
  same_u32 h = cc (same_byte (omega arith), s.at 1 (omega arith), s.at 2 (omega arith), s.at 3 (omega arith))

same_span : {p p' : Plan} {a a' n : ℕ} → Alike p p' a a' n → 4 ≤ n → span_at p' a' ≡ span_at p a
same_span s h = λ i. record { start = same_u16 s (omega arith) i; size = same_u16 (past s 2) (omega arith) i }

-- two states of the same lists
same_site : {l l' q q' : List ℕ} {v v' : List ℤ} → l' ≡ l → q' ≡ q → v' ≡ v → site l' q' v' ≡ site l q v
same_site a b c = λ i. site (a i) (b i) (c i)

module _ (p p' : Plan) (m : OneMore p p') where
  -- ---- the counts

  -- bytes 10 to 25
  header : Alike p p' 10 10 16
  header = record { at = λ k l. m.same_counts (10 + k) (omega arith) (omega arith) }

  pub same_components : components p' ≡ components p
  same_components = same_u16 header (omega arith)

  pub same_variables : variables p' ≡ variables p
  same_variables = same_u16 (past header 2) (omega arith)

  pub same_transitions : transitions p' ≡ transitions p
  same_transitions = same_u16 (past header 4) (omega arith)

  pub same_propositions : propositions p' ≡ propositions p
  same_propositions = same_u16 (past header 8) (omega arith)

  pub same_first_states : oracle_states p' 0 ≡ oracle_states p 0
  unfolding oracle_states
  same_first_states = same_u16 (past header 10) (omega arith)

  pub same_first_oracle : first_oracle p' ≡ first_oracle p
  same_first_oracle = same_u16 (past header 12) (omega arith)

  -- ---- the rows of the tables

  -- row r of a section of so many rows, each of width bytes, has the same bytes
  pub row : (n width count r : ℕ) → n < 8 → section_size p n ≡ width * count → r < count
      → Alike p p' (section p n + width * r) (section p' n + width * r) width
  row n width count r h e l =
      let end = row_end width r count l in
      record {
        at = λ k j. rw (add_assoc (section p' n) (width * r) k, add_assoc (section p n) (width * r) k)
            (m.same_sections n (width * r + k) h (omega (arith, e, end)));
      }

  -- a row of each table but the oracles', and a word of the code
  component-row : (c : ℕ) → c < components p → Alike p p' (component_at p c) (component_at p' c) 4
  unfolding section_size
  component-row c h = row 0 4 (components p) c (omega arith) refl h

  variable_row : (v : ℕ) → v < variables p → Alike p p' (variable_at p v) (variable_at p' v) 8
  unfolding section_size
  variable_row v h = row 1 8 (variables p) v (omega arith) refl h

  transition-row : (t : ℕ) → t < transitions p → Alike p p' (transition_at p t) (transition_at p' t) 12
  unfolding section_size
  transition-row t h = row 2 12 (transitions p) t (omega arith) refl h

  interaction-row : (i : ℕ) → i < interactions p → Alike p p' (interaction_at p i) (interaction_at p' i) 24
  unfolding section_size
  interaction-row i h = row 3 24 (interactions p) i (omega arith) refl h

  proposition_row : (k : ℕ) → k < propositions p → Alike p p' (proposition_at p k) (proposition_at p' k) 4
  unfolding section_size
  proposition_row k h = row 5 4 (propositions p) k (omega arith) refl h

  same_word : (k : ℕ) → k < code_words p → word p' k ≡ word p k
  unfolding section_size
  same_word k h = same_u16 (row 7 2 (code_words p) k (omega arith) refl h) (omega arith)

  -- ---- code

  -- words of p run alike
  same_ran : (s : State) (k n : ℕ) → k + n ≤ code_words p → ran p' s k n ≡ ran p s k n
  unfolding ran
  same_ran s k zero h = refl
  same_ran s k (suc n) h =
      ap₂ (λ (w : ℕ) (t : Machine). perform (decode w) s t) (same_word (k + n) (omega arith)) (same_ran s k n (omega arith))

  -- so does a span that keeps the rules of p
  module _ (r : Role) (names : ℕ → Bool) {g g' : Span} (e : g' ≡ g) (ok : span_ok p r names g ≡ true) (s : State) where
    ran-span : ran p' s g.start g.size ≡ ran p s g.start g.size
    unfolding span_ok
    ran-span = let (_, (fits, _)) = each _ ok in same_ran s g.start g.size (leb-true _ _ fits)

    same_holds : guard_holds p' s g' ≡ guard_holds p s g
    unfolding guard_holds
    same_holds = ap (guard_holds p' s) e ∙ rw ran-span

    same_acted : acted p' s g' ≡ acted p s g
    unfolding acted
    same_acted = ap (acted p' s) e ∙ rw ran-span

  -- the same starting state
  pub same_initial : initial_state p' ≡ initial_state p
  unfolding initial_state
  same_initial =
      same_site
      (table_same 0 max_components _ _
      (λ c h. rw same_components
      (bool_cases (ltb c (components p)) (λ t. rw t (same_byte (past (component-row c (ltb-true _ _ t)) 1) (omega arith))) (λ t. rw t))))
      refl
      (table_same (pos 0) max_variables _ _
      (λ v h. rw same_variables
      (bool_cases (ltb v (variables p)) (λ t. rw t (ap signed (same_u32 (past (variable_row v (ltb-true _ _ t)) 4) (omega arith)))) (λ t. rw t))))

  module _ (z : plan_refusal p ≡ 0) where
    accepted : Accepted p
    accepted = accepted_plan p z

    -- the same event of a state
    pub same_letter : (s : State) → letter p' s ≡ letter p s
    unfolding letter
    same_letter s =
        rw same_propositions
        (mask_same (propositions p) _ _ (λ k h. same_holds _ _ (same_span (proposition_row k h) (omega arith)) (proposition_ok p accepted k h) s))

    -- ---- the same moves

    -- the same components take part
    same_takes_part : (i c : ℕ) → i < interactions p → c < max_components → takes_part p' i c ≡ takes_part p i c
    unfolding takes_part
    same_takes_part i c l h = rw ((interaction-row i l).at c (omega arith))

    -- the same transitions are ready
    same_ready : (s : State) (c q t : ℕ) → t < transitions p → ready p' s c q t ≡ ready p s c q t
    unfolding ready
    same_ready s c q t h =
        let r = transition-row t h in
        let guard : guard_holds p' s (guard_of p' t) ≡ guard_holds p s (guard_of p t) = same_holds _ _ (same_span (past r 4) (omega arith)) (guard_ok p accepted t h) s in
        rw (same_byte r (omega arith), same_byte (past r 1) (omega arith), same_byte (past r 2) (omega arith), guard)

    -- a component uses the same transition
    same_chosen : (s : State) (i c : ℕ) → i < interactions p → c < max_components → chosen_in p' s i c ≡ chosen_in p s i c
    unfolding chosen_in chosen
    same_chosen s i c l h =
        rw (same_transitions, (interaction-row i l).at c (omega arith)) (lowest_same (transitions p) _ _ (same_ready s c (port_in p i c)))

    -- the same interactions are enabled
    pub same_enabled : (s : State) (i : ℕ) → i < interactions p → enabled p' s i ≡ enabled p s i
    unfolding enabled
    same_enabled s i l =
        ap₂ (λ (a b : Bool). all_of (a ∷ b ∷ []))
        (same_holds _ _ (same_span (past (interaction-row i l) 16) (omega arith)) (interaction_guard_ok p accepted i l) s)
        (rw (same_components, same_transitions)
        (every_same (components p) _ _
        (λ c h. let k : c < max_components = omega (arith, (counts_of_lem p accepted.counts).components≤) in
        rw (same_takes_part i c l k, same_chosen s i c l k))))

    -- ---- the same state after a move

    module _ (s : State) (i : ℕ) (l : i < interactions p) (e : enabled p s i ≡ true) where
      -- the transition that a component taking part uses is one of the plan's
      used : (c : ℕ) → c < max_components → takes_part p i c ≡ true → chosen_in p s i c < transitions p
      used c h t = (uses p s i c e (part p accepted i c l h t).component< t).known

      -- the transfer and the actions make the same state
      same_acted_below : (n : ℕ) → n ≤ max_components → acted_below p' s i n ≡ acted_below p s i n
      unfolding acted_below
      same_acted_below zero h = same_acted _ _ (same_span (past (interaction-row i l) 20) (omega arith)) (transfer_ok p accepted i l) s
      same_acted_below (suc n) h =
          rw (same_takes_part i n l h, same_chosen s i n l h, same_acted_below n (omega arith))
          (bool_cases (takes_part p i n)
          (λ t. let u = used n h t in
          rw t (same_acted _ _ (same_span (past (transition-row (chosen_in p s i n) u) 8) (omega arith)) (action_ok p accepted (chosen_in p s i n) u) (acted_below p s i n)))
          (λ t. rw t))

      -- an enabled interaction leads to the same state
      pub same_move : fired p' s i ≡ fired p s i
      unfolding fired
      same_move =
          same_site
          (table_same 0 max_components _ _
          (λ c h. rw (same_takes_part i c l h, same_chosen s i c l h)
          (bool_cases (takes_part p i c) (λ t. rw t (same_byte (past (transition-row (chosen_in p s i c) (used c h t)) 3) (omega arith))) (λ t. rw t))))
          (table_same 0 max_components _ _ (λ c h. rw (same_takes_part i c l h, (interaction-row i l).at c (omega arith))))
          (rw same_components (ap (λ (r : State). r.values) (same_acted_below (components p) (counts_of_lem p accepted.counts).components≤)))
