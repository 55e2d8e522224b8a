-- One pass over the transitions, each taking its slot where that is still open, gives the table of the lowest ones; where those of one interaction alone are considered, its part of the table.
use mathlib.Core.Path.{◌≡◌, refl, sym, ap, ap₂, ◌∙◌, subst}
use Prim.Native.Nat.{ℕ, suc, ◌+◌, ◌*◌, ◌/◌, ◌%◌, ◌≤◌, ◌<◌}
use native.Mathlib.Nat.{le_refl, le_trans, le_antisymm}
use native.Mathlib.Numerals.{add-one}
use native.Mathlib.Omega.{arith}
use mathlib.Core.Bool.{Bool, true, false, cond, ◌&&◌}
use mathlib.Core.List.{List}
use lib.ListN.{length, get_or, set, replicate, length-set, length-replicate, get_or-replicate}
use lib.Seq.{get_or-set_same, get_or-set_other}
use lib.Dec.{ltb, eqb}
use Rattle.semantics.specs.Bytes.{lowest}
use Rattle.semantics.specs.Plan.{Plan, components, transitions, interactions, component_of, source, port_of, guard_of, port_in, takes_part}
use Rattle.semantics.specs.Code.{State, guard_holds}
use Rattle.semantics.specs.Rules.{plan_refusal}
use Rattle.semantics.specs.Move.{ready, chosen, chosen_in}
use Rattle.semantics.proofs.Basics.{bool_cases, absurd_bool, same_test, and_both, both_and, each, all_of_lem, ltb-true, ltb-false, lt-ltb, le-ltb, eqb-true, eqb_same, eq-eqb, ne_eqb, lowest_le, length-table, get_or-table, table_is, table_same}
use Rattle.layout.proofs.Sections.{laid_accepted}
use Rattle.code.proofs.TakenSpans.{guard_taken}
use Rattle.choices.specs.Choices.{chosen_table, slot_of, ripe, noted, lowest_or, chosen_below, chosen_by, ChosenIn}
use Rattle.choices.proofs.PlanLaws.{component_lt, port_lt, part_lt}

-- before a transition is considered, the table of a plan that has a header has none
pub unset_none : (p : Plan) (r : ℕ) → r ≡ cond (ltb (length p) 48) 0 (transitions p) → 48 ≤ length p → replicate 256 r ≡ replicate 256 (transitions p)
unset_none p r e h = ap (replicate 256) (e ∙ rw (le-ltb (length p) 48 h) refl)

-- ---- the lowest number, or another

or_none : (d : ℕ) (f : ℕ → Bool) → lowest_or d 0 f ≡ d
unfolding lowest_or lowest
or_none d f = refl

pick-lowest : (n : ℕ) (f : ℕ → Bool) → cond (ltb (lowest n f) n) (lowest n f) n ≡ lowest n f
pick-lowest n f =
    bool_cases (ltb (lowest n f) n) (λ e. rw e refl) (λ e. rw e (le_antisymm (ltb-false (lowest n f) n e) (lowest_le n f)))

or_all : (n : ℕ) (f : ℕ → Bool) → lowest_or n n f ≡ lowest n f
unfolding lowest_or
or_all n f = pick-lowest n f

or_step : (d n k : ℕ) (t b : Bool) → ltb k n ≡ t → n < d
    → cond (ltb (cond t k (cond b n (suc n))) (suc n)) (cond t k (cond b n (suc n))) d ≡ cond (eqb (cond t k d) d && b) n (cond t k d)
or_step d n k true b e h =
    let l : k < n = ltb-true k n e in
    let y : ltb k (suc n) ≡ true = lt-ltb k (suc n) (omega arith) in
    let z : eqb k d ≡ false = ne_eqb k d (λ q. apart k n d l h q) in
    rw (y, z) refl
  where
    apart : (k n d : ℕ) → k < n → n < d → k ≡ d → ⊥
    apart k n d l h q = omega arith
or_step d n k false true e h = rw (lt-ltb n (suc n) (le_refl (suc n)), eqb_same d) refl
or_step d n k false false e h = rw (le-ltb (suc n) (suc n) (le_refl (suc n)), eqb_same d) refl

-- one number more: it is taken where none was found before it
or_next : (d n : ℕ) (f : ℕ → Bool) → n < d → lowest_or d (suc n) f ≡ cond (eqb (lowest_or d n f) d && f n) n (lowest_or d n f)
unfolding lowest_or lowest
or_next d n f h = or_step d n (lowest n f) (ltb (lowest n f) n) (f n) refl h

-- ---- what one transition does

-- how a transition that is not taken leaves what was
cond_no : {A : Type 0} (a b : Bool) (x y : A) → b ≡ false → cond (a && b) x y ≡ y
cond_no true b x y e = rw e refl
cond_no false b x y e = refl

module _ (p : Plan) (s : State) (t : ℕ) (out : List ℕ) where
  noted-length : length out ≡ 256 → length (noted p s t out) ≡ 256
  unfolding noted
  noted-length h =
      bool_cases (eqb (get_or out (slot_of p t) 0) (transitions p) && ripe p s t)
      (λ e. rw e (length-set out (slot_of p t) t ∙ h)) (λ e. rw e h)

  -- an entry afterwards
  noted-at : length out ≡ 256 → slot_of p t < 256 → (k : ℕ)
      → get_or (noted p s t out) k 0 ≡ cond (eqb (get_or out k 0) (transitions p) && (eqb k (slot_of p t) && ripe p s t)) t (get_or out k 0)
  unfolding noted
  noted-at h l k = bool_cases (eqb k (slot_of p t)) same other
    where
      same : eqb k (slot_of p t) ≡ true
          → get_or (cond (eqb (get_or out (slot_of p t) 0) (transitions p) && ripe p s t) (set out (slot_of p t) t) out) k 0
          ≡ cond (eqb (get_or out k 0) (transitions p) && (eqb k (slot_of p t) && ripe p s t)) t (get_or out k 0)
      same e =
          let q : k ≡ slot_of p t = eqb-true _ _ e in
          subst (λ (j : ℕ). get_or (cond (eqb (get_or out (slot_of p t) 0) (transitions p) && ripe p s t) (set out (slot_of p t) t) out) j 0
          ≡ cond (eqb (get_or out j 0) (transitions p) && (eqb j (slot_of p t) && ripe p s t)) t (get_or out j 0)) (sym q)
          (rw (eqb_same (slot_of p t))
          (bool_cases (eqb (get_or out (slot_of p t) 0) (transitions p) && ripe p s t)
          (λ b. rw b (get_or-set_same out (slot_of p t) t 0 (subst (λ (n : ℕ). slot_of p t < n) (sym h) l))) (λ b. rw b refl)))

      stays : (a b c : Bool) → c ≡ false → cond (a && (c && b)) t (get_or out k 0) ≡ get_or out k 0
      stays true b c e = rw e refl
      stays false b c e = refl

      other : eqb k (slot_of p t) ≡ false
          → get_or (cond (eqb (get_or out (slot_of p t) 0) (transitions p) && ripe p s t) (set out (slot_of p t) t) out) k 0
          ≡ cond (eqb (get_or out k 0) (transitions p) && (eqb k (slot_of p t) && ripe p s t)) t (get_or out k 0)
      other e =
          bool_cases (eqb (get_or out (slot_of p t) 0) (transitions p) && ripe p s t)
          (λ b. rw b (get_or-set_other out (slot_of p t) k t 0 (λ q. absurd_bool (eq-eqb _ _ q) e))) (λ b. rw b refl)
          ∙ sym (stays (eqb (get_or out k 0) (transitions p)) (ripe p s t) (eqb k (slot_of p t)) e)

-- a transition is ready at its own slot alone, and there when it is ripe
slot_back : (k a b : ℕ) → a ≡ k / 16 → b ≡ k % 16 → k ≡ 16 * a + b
slot_back k a b x y = omega arith

slot_high : (k a b : ℕ) → b < 16 → k ≡ 16 * a + b → a ≡ k / 16
slot_high k a b h e = omega arith

slot_low : (k a b : ℕ) → b < 16 → k ≡ 16 * a + b → b ≡ k % 16
slot_low k a b h e = omega arith

ready_is : (p : Plan) (s : State) (t k : ℕ) → port_of p t < 16 → ready p s (k / 16) (k % 16) t ≡ (eqb k (slot_of p t) && ripe p s t)
unfolding ready ripe
ready_is p s t k h =
    same_test (ready p s (k / 16) (k % 16) t) (eqb k (slot_of p t) && ripe p s t)
    (λ e.
    let (own, (here, (port, (guard, _)))) = each _ e in
    let c : component_of p t ≡ k / 16 = eqb-true _ _ own in
    both_and (eq-eqb k (slot_of p t) (slot_back k (component_of p t) (port_of p t) c (eqb-true _ _ port)))
    (both_and (subst (λ (x : ℕ). eqb (source p t) (get_or s.locations x 0) ≡ true) (sym c) here) guard))
    (λ e.
    let (slot, able) = and_both (eqb k (slot_of p t)) (ripe p s t) e in
    let q : k ≡ slot_of p t = eqb-true _ _ slot in
    let c : component_of p t ≡ k / 16 = slot_high k (component_of p t) (port_of p t) h q in
    let (here, guard) = and_both (eqb (source p t) (get_or s.locations (component_of p t) 0)) (guard_holds p s (guard_of p t)) able in
    all_of_lem _ (
      eq-eqb _ _ c,
      (
        subst (λ (x : ℕ). eqb (source p t) (get_or s.locations x 0) ≡ true) c here,
        (eq-eqb _ _ (slot_low k (component_of p t) (port_of p t) h q), (guard, tt)),
      ),
    ))

-- the same, for a component and a port
ready_at : (p : Plan) (s : State) (t c q : ℕ) → port_of p t < 16 → q < 16 → ready p s c q t ≡ (eqb (16 * c + q) (slot_of p t) && ripe p s t)
ready_at p s t c q h l =
    ap₂ (λ (x y : ℕ). ready p s x y t) (slot_high (16 * c + q) c q l refl) (slot_low (16 * c + q) c q l refl) ∙ ready_is p s t (16 * c + q) h

-- a transition through another port than its component's in interaction i is ready for no part of it
unready : (p : Plan) (s : State) (i t c : ℕ) → (port_in p i (component_of p t) ≡ port_of p t → ⊥) → ready p s c (port_in p i c) t ≡ false
unfolding ready
unready p s i t c f =
    bool_cases (ready p s c (port_in p i c) t)
    (λ e.
    let (own, (_, (port, _))) = each _ e in
    absurd (f (ap (port_in p i) (eqb-true _ _ own) ∙ sym (eqb-true _ _ port))))
    (λ e. e)

-- ---- the pass

pub chosen_none : (p : Plan) (s : State) → replicate 256 (transitions p) ≡ chosen_below p s 0
unfolding chosen_below
chosen_none p s =
    table_is 0 (replicate 256 (transitions p)) 256 (λ k. lowest_or (transitions p) 0 (ready p s (k / 16) (k % 16)))
    (length-replicate 256 (transitions p))
    (λ k h. get_or-replicate 256 k (transitions p) 0 h ∙ sym (or_none (transitions p) (ready p s (k / 16) (k % 16))))

chosen-length : (p : Plan) (s : State) (n : ℕ) → length (chosen_below p s n) ≡ 256
unfolding chosen_below
chosen-length p s n = length-table 256 (λ k. lowest_or (transitions p) n (ready p s (k / 16) (k % 16)))

slot_lt : (a b : ℕ) → a < 16 → b < 16 → 16 * a + b < 256
slot_lt a b h l = omega arith

chosen-next : (p : Plan) (s : State) (t : ℕ) → plan_refusal p ≡ 0 → t < transitions p → noted p s t (chosen_below p s t) ≡ chosen_below p s (suc t)
unfolding chosen_below
chosen-next p s t h l =
    table_is 0 (noted p s t (chosen_below p s t)) 256 (λ k. lowest_or (transitions p) (suc t) (ready p s (k / 16) (k % 16)))
    (noted-length p s t (chosen_below p s t) (chosen-length p s t)) entry
  where
    entry : (k : ℕ) → k < 256 → get_or (noted p s t (chosen_below p s t)) k 0 ≡ lowest_or (transitions p) (suc t) (ready p s (k / 16) (k % 16))
    entry k m =
        noted-at p s t (chosen_below p s t) (chosen-length p s t) (slot_lt _ _ (component_lt p h t l) (port_lt p h t l)) k
        ∙ ap₂ (λ (x : ℕ) (b : Bool). cond (eqb x (transitions p) && b) t x)
        (get_or-table 256 (λ j. lowest_or (transitions p) t (ready p s (j / 16) (j % 16))) 0 k m) (sym (ready_is p s t k (port_lt p h t l)))
        ∙ sym (or_next (transitions p) t (ready p s (k / 16) (k % 16)) l)

pub chosen_step : (p : Plan) (s : State) (t : ℕ) (out r : List ℕ) → plan_refusal p ≡ 0 → t < transitions p → out ≡ chosen_below p s t → r ≡ noted p s t out
    → r ≡ chosen_below p s (t + 1)
chosen_step p s t out r h l d e = e ∙ ap (noted p s t) d ∙ chosen-next p s t h l ∙ ap (chosen_below p s) (sym (add-one t))

pub chosen_all : (p : Plan) (s : State) (n : ℕ) (out : List ℕ) → n ≡ transitions p → out ≡ chosen_below p s n → out ≡ chosen_table p s
unfolding chosen_below chosen_table chosen
chosen_all p s n out e h =
    h ∙ ap (chosen_below p s) e
    ∙ table_same 0 256 (λ k. lowest_or (transitions p) (transitions p) (ready p s (k / 16) (k % 16))) (λ k. chosen p s (k / 16) (k % 16))
    (λ k l. or_all (transitions p) (ready p s (k / 16) (k % 16)))

-- ---- reading the table

chosen_at : (p : Plan) (s : State) (c q : ℕ) → c < 16 → q < 16 → get_or (chosen_table p s) (16 * c + q) 0 ≡ chosen p s c q
unfolding chosen_table
chosen_at p s c q h l =
    get_or-table 256 (λ k. chosen p s (k / 16) (k % 16)) 0 (16 * c + q) (slot_lt c q h l)
    ∙ ap₂ (chosen p s) (sym (slot_high (16 * c + q) c q l refl)) (sym (slot_low (16 * c + q) c q l refl))

-- a component that takes part has its place in the table
part_place : (p : Plan) (i c : ℕ) → plan_refusal p ≡ 0 → i < interactions p → c < components p → takes_part p i c ≡ true → (c < 16) × (port_in p i c < 16)
part_place p i c h l m t = let n : c < 16 = le_trans m (laid_accepted p h).components≤ in (n, (part_lt p h i c l n t).1)

-- the table has the transitions that each interaction uses
pub table_in : (p : Plan) (s : State) (i : ℕ) → plan_refusal p ≡ 0 → i < interactions p → (out : List ℕ) → out ≡ chosen_table p s → ChosenIn p s out i
unfolding chosen_in
table_in p s i h l out e =
    record {
      used =
          λ c m t.
          let w = part_place p i c h l m t in
          ap (λ (q : List ℕ). get_or q (16 * c + port_in p i c) 0) e ∙ chosen_at p s c (port_in p i c) w.0 w.1;
    }

-- ---- the pass for one interaction

-- For each part of interaction i the table has the lowest of the transitions below n that it can use.
abbrev pub LowestBelow : Plan → State → ℕ → List ℕ → ℕ → Type 0
LowestBelow p s i out n = (c : ℕ) → c < components p → takes_part p i c ≡ true → chosen_by p out i c ≡ lowest_or (transitions p) n (ready p s c (port_in p i c))

-- The table when the transitions below n that go through a port of interaction i were considered.
pub record FoundIn (p : Plan) (s : State) (i : ℕ) (out : List ℕ) (n : ℕ) : Type 0 where
  pub long : length out ≡ 256
  pub found : LowestBelow p s i out n

module _ (p : Plan) (s : State) (i : ℕ) where
  pub found_none : (out : List ℕ) → plan_refusal p ≡ 0 → i < interactions p → out ≡ replicate 256 (transitions p) → FoundIn p s i out 0
  found_none out h l e =
      record {
        long = ap (λ (q : List ℕ). length q) e ∙ length-replicate 256 (transitions p);
        found =
            λ c m t.
            let w = part_place p i c h l m t in
            ap (λ (q : List ℕ). get_or q (16 * c + port_in p i c) 0) e
            ∙ get_or-replicate 256 (16 * c + port_in p i c) (transitions p) 0 (slot_lt c (port_in p i c) w.0 w.1)
            ∙ sym (or_none (transitions p) (ready p s c (port_in p i c)));
      }

  -- all transitions were considered
  pub lowest_below_all : (out : List ℕ) (n : ℕ) → n ≡ transitions p → LowestBelow p s i out n → ChosenIn p s out i
  unfolding chosen_in chosen
  lowest_below_all out n e f =
      record {
        used =
            λ c m t.
            f c m t ∙ ap (λ (k : ℕ). lowest_or (transitions p) k (ready p s c (port_in p i c))) e
            ∙ or_all (transitions p) (ready p s c (port_in p i c));
      }

  pub found_all : (out : List ℕ) (n : ℕ) → n ≡ transitions p → FoundIn p s i out n → ChosenIn p s out i
  found_all out n e f = lowest_below_all out n e f.found

  module _ (out : List ℕ) (t : ℕ) (m : t < transitions p) (f : LowestBelow p s i out t) where
    -- transition t was considered
    pub lowest_below_step : (r : List ℕ) → plan_refusal p ≡ 0 → i < interactions p → length out ≡ 256 → r ≡ noted p s t out → LowestBelow p s i r (t + 1)
    lowest_below_step r h l n e c q u =
        let w = part_place p i c h l q u in
        let k = 16 * c + port_in p i c in
        let g = ready p s c (port_in p i c) in
        ap (λ (x : List ℕ). get_or x k 0) e
        ∙ noted-at p s t out n (slot_lt _ _ (component_lt p h t m) (port_lt p h t m)) k
        ∙ ap₂ (λ (x : ℕ) (b : Bool). cond (eqb x (transitions p) && b) t x) (f c q u) (sym (ready_at p s t c (port_in p i c) (port_lt p h t m) w.1))
        ∙ sym (or_next (transitions p) t g m) ∙ ap (λ (x : ℕ). lowest_or (transitions p) x g) (sym (add-one t))

    -- transition t is not of the interaction
    pub lowest_below_skip : (port_in p i (component_of p t) ≡ port_of p t → ⊥) → LowestBelow p s i out (t + 1)
    lowest_below_skip e c q u =
        let g = ready p s c (port_in p i c) in
        let k = lowest_or (transitions p) t g in
        f c q u ∙ sym (or_next (transitions p) t g m ∙ cond_no (eqb k (transitions p)) (g t) t k (unready p s i t c e))
        ∙ ap (λ (x : ℕ). lowest_or (transitions p) x g) (sym (add-one t))

  module _ (out : List ℕ) (t : ℕ) (m : t < transitions p) (f : FoundIn p s i out t) where
    -- the same, and the table keeps its length
    pub found_step : (r : List ℕ) → plan_refusal p ≡ 0 → i < interactions p → r ≡ noted p s t out → length r ≡ 256 → FoundIn p s i r (t + 1)
    found_step r h l e n = record { long = n; found = lowest_below_step out t m f.found r h l f.long e }

    pub found_skip : (port_in p i (component_of p t) ≡ port_of p t → ⊥) → FoundIn p s i out (t + 1)
    found_skip e = record { long = f.long; found = lowest_below_skip out t m f.found e }

-- whether the transition is named, and what becomes of the table in either case
pub found_join : (p : Plan) (s : State) (i : ℕ) (out : List ℕ) (t : ℕ) → t < transitions p → FoundIn p s i out t → plan_refusal p ≡ 0 → i < interactions p
    → (named : Bool) (r : List ℕ) → (named ≡ true → (r ≡ noted p s t out) × (length r ≡ 256)) → (named ≡ false → r ≡ out)
    → (named ≡ false → port_in p i (component_of p t) ≡ port_of p t → ⊥) → FoundIn p s i r (t + 1)
found_join p s i out t l f h q true r a b o = found_step p s i out t l f r h q (a refl).0 (a refl).1
found_join p s i out t l f h q false r a b o = subst (λ (x : List ℕ). FoundIn p s i x (t + 1)) (sym (b refl)) (found_skip p s i out t l f (o refl))

-- what the functions of choice.rt stand on
pub ruleset choosing = (laid_accepted, component_lt, port_lt, guard_taken, chosen_none, chosen_step, chosen_all, found_none, found_step, found_skip, found_all)
