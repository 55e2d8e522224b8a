-- One move done part by part from the table of choices is the move of the definitions.
use mathlib.Core.Path.{◌≡◌, refl, sym, ap, ap₂, ◌∙◌, subst}
use Prim.Native.Nat.{ℕ, zero, suc, ◌+◌, ◌*◌, ◌≤◌, ◌<◌}
use native.Mathlib.Nat.{le_refl, le_of_lt, not-suc-le-zero}
use native.Mathlib.Numerals.{add-one}
use native.Mathlib.Omega.{arith}
use mathlib.Core.Bool.{Bool, true, false, not, cond}
use mathlib.Core.List.{List}
use lib.ListN.{length, get_or, set, length-set}
use lib.Seq.{get_or-set_same, get_or-set_other}
use lib.Dec.{ltb}
use lib.IntN.{ℤ}
use Rattle.semantics.specs.Bytes.{table}
use Rattle.semantics.specs.Plan.{Plan, components, transitions, interactions, span_at, destination, action_of, interaction_at, port_in, takes_part, transfer_of}
use Rattle.semantics.specs.Code.{State, acted, site}
use Rattle.semantics.specs.Rules.{plan_refusal}
use Rattle.semantics.specs.Move.{chosen_in, enabled, acted_below, fired}
use Rattle.semantics.proofs.Basics.{bool_cases, below_suc, ltb-true, ltb-false, eq-eqb, ne_eqb, table_is}
use Rattle.semantics.proofs.OneMove.{uses}
use Rattle.layout.proofs.Sections.{laid_accepted}
use Rattle.code.proofs.TakenSpans.{transfer_taken, action_taken}
use Rattle.choices.specs.Choices.{chosen_by, ChosenIn}
use Rattle.moves.specs.Parts.{AllChosen, act_part, acts_below, set_where, set_below}
use Rattle.choices.proofs.PlanLaws.{part_lt}

-- ---- a list written place by place

set_where_length : (b : Bool) (l : List ℕ) (k x : ℕ) → length (set_where b l k x) ≡ length l
unfolding set_where
set_where_length true l k x = length-set l k x
set_where_length false l k x = refl

set_where_other : (b : Bool) (l : List ℕ) (k x j : ℕ) → (j ≡ k → ⊥) → get_or (set_where b l k x) j 0 ≡ get_or l j 0
unfolding set_where
set_where_other true l k x j h = get_or-set_other l k j x 0 h
set_where_other false l k x j h = refl

set_where_at : (b : Bool) (l : List ℕ) (k x : ℕ) → k < length l → get_or (set_where b l k x) k 0 ≡ cond b x (get_or l k 0)
unfolding set_where
set_where_at true l k x h = get_or-set_same l k x 0 h
set_where_at false l k x h = refl

module _ (f : ℕ → Bool) (g : ℕ → ℕ) (l : List ℕ) where
  pub set_below_length : (n : ℕ) → length (set_below f g l n) ≡ length l
  unfolding set_below
  set_below_length zero = refl
  set_below_length (suc n) = set_where_length (f n) (set_below f g l n) n (g n) ∙ set_below_length n

  -- a place that was not come to
  set_below_over : (n k : ℕ) → n ≤ k → get_or (set_below f g l n) k 0 ≡ get_or l k 0
  unfolding set_below
  set_below_over zero k h = refl
  set_below_over (suc n) k h =
      set_where_other (f n) (set_below f g l n) n (g n) k (λ e. apart n k h e) ∙ set_below_over n k (omega arith)
    where
      apart : (n k : ℕ) → suc n ≤ k → k ≡ n → ⊥
      apart n k h e = omega arith

  -- a place that was
  set_below_in : (n k : ℕ) → n ≤ length l → k < n → get_or (set_below f g l n) k 0 ≡ cond (f k) (g k) (get_or l k 0)
  unfolding set_below
  set_below_in zero k m h = absurd (not-suc-le-zero h)
  set_below_in (suc n) k m h =
      below_suc h
      (λ q. set_where_other (f n) (set_below f g l n) n (g n) k (λ e. apart n k q e) ∙ set_below_in n k (omega arith) q)
      (λ e.
      subst (λ (j : ℕ). get_or (set_where (f n) (set_below f g l n) n (g n)) j 0 ≡ cond (f j) (g j) (get_or l j 0)) (sym e)
      (set_where_at (f n) (set_below f g l n) n (g n) (subst (λ (z : ℕ). n < z) (sym (set_below_length n)) m)
      ∙ ap (λ (z : ℕ). cond (f n) (g n) z) (set_below_over n n (le_refl n))))
    where
      apart : (n k : ℕ) → k < n → k ≡ n → ⊥
      apart n k h e = omega arith

  -- all places at which f holds were come to
  set_below_all : (m n : ℕ) (d : ℕ → ℕ) → length l ≡ m → n ≤ m → ((k : ℕ) → k < m → f k ≡ true → (k < n) × (g k ≡ d k))
      → set_below f g l n ≡ table m (λ k. cond (f k) (d k) (get_or l k 0))
  set_below_all m n d e h q =
      table_is 0 (set_below f g l n) m (λ k. cond (f k) (d k) (get_or l k 0)) (set_below_length n ∙ e)
      (λ k r. bool_cases (f k) (λ t. let u = q k r t in set_below_in n k (omega arith) u.0 ∙ rw t u.1) (λ t. here k r t))
    where
      here : (k : ℕ) → k < m → f k ≡ false → get_or (set_below f g l n) k 0 ≡ cond (f k) (d k) (get_or l k 0)
      here k r t =
          bool_cases (ltb k n) (λ z. set_below_in n k (omega arith) (ltb-true k n z) ∙ rw t refl)
          (λ z. set_below_over n k (ltb-false k n z) ∙ rw t refl)

-- none yet, and one place more
pub set_below_none : (f : ℕ → Bool) (g : ℕ → ℕ) (l : List ℕ) → set_below f g l 0 ≡ l
unfolding set_below
set_below_none f g l = refl

pub set_below_next : (f : ℕ → Bool) (g : ℕ → ℕ) (l₀ l r : List ℕ) (n : ℕ) → l ≡ set_below f g l₀ n → r ≡ set_where (f n) l n (g n) → r ≡ set_below f g l₀ (n + 1)
unfolding set_below
set_below_next f g l₀ l r n e d = d ∙ ap (λ (x : List ℕ). set_where (f n) x n (g n)) e ∙ ap (set_below f g l₀) (sym (add-one n))

-- ---- one part

-- a port other than 255 is a part
pub takes_part_lem : (p : Plan) (i c port : ℕ) → port ≡ port_in p i c → (port ≡ 255 → ⊥) → takes_part p i c ≡ true
unfolding takes_part
takes_part_lem p i c port e h = ap not (ne_eqb (port_in p i c) 255 (λ q. h (e ∙ q)))

-- a port is below 16, and 255 is none
takes_part_low : (p : Plan) (i c q : ℕ) → q ≡ port_in p i c → q < 16 → takes_part p i c ≡ true
takes_part_low p i c q e h = takes_part_lem p i c q e (λ d. absurd (omega arith))

takes_none : (p : Plan) (i c : ℕ) → port_in p i c ≡ 255 → takes_part p i c ≡ false
unfolding takes_part
takes_none p i c h = ap not (eq-eqb (port_in p i c) 255 h)

-- a place is written where the component takes part
pub set_where_none : (p : Plan) (i c : ℕ) (l : List ℕ) (k x : ℕ) → port_in p i c ≡ 255 → set_where (takes_part p i c) l k x ≡ l
unfolding set_where
set_where_none p i c l k x h = rw (takes_none p i c h) refl

pub set_where_part : (p : Plan) (i c : ℕ) (l : List ℕ) (k x : ℕ) → port_in p i c < 16 → set_where (takes_part p i c) l k x ≡ set l k x
unfolding set_where
set_where_part p i c l k x h = rw (takes_part_low p i c (port_in p i c) refl h) refl

-- the table has a transition for it
pub chosen_known : (p : Plan) (chosen : List ℕ) (i c : ℕ) → AllChosen p chosen i → c < 16 → port_in p i c < 16 → get_or chosen (16 * c + port_in p i c) 0 < transitions p
chosen_known p chosen i c k l h = k.known c l (takes_part_low p i c (port_in p i c) refl h)

-- and its action is that one's
pub act_part_none : (p : Plan) (chosen : List ℕ) (i c : ℕ) (s : State) → port_in p i c ≡ 255 → act_part p chosen i c s ≡ s
unfolding act_part
act_part_none p chosen i c s h = rw (takes_none p i c h) refl

pub act_part_some : (p : Plan) (chosen : List ℕ) (i c : ℕ) (s : State) → port_in p i c < 16
    → act_part p chosen i c s ≡ site s.locations s.last_ports (acted p s (action_of p (chosen_by p chosen i c))).values
unfolding act_part acted
act_part_some p chosen i c s h = rw (takes_part_low p i c (port_in p i c) refl h) refl

-- none yet, and one component more
pub acts_none : (p : Plan) (chosen : List ℕ) (i : ℕ) (s : State) → acts_below p chosen i 0 s ≡ s
unfolding acts_below
acts_none p chosen i s = refl

pub acts_next : (p : Plan) (chosen : List ℕ) (i n : ℕ) (s₀ s r : State) → s ≡ acts_below p chosen i n s₀ → r ≡ act_part p chosen i n s → r ≡ acts_below p chosen i (n + 1) s₀
unfolding acts_below
acts_next p chosen i n s₀ s r e d = d ∙ ap (act_part p chosen i n) e ∙ ap (λ (k : ℕ). acts_below p chosen i k s₀) (sym (add-one n))

-- ---- the move

module _ (p : Plan) (s : State) (i : ℕ) (chosen : List ℕ) (a : plan_refusal p ≡ 0) (h : i < interactions p) (q : ChosenIn p s chosen i) where
  chosen_is : (c : ℕ) → c < 16 → takes_part p i c ≡ true → chosen_by p chosen i c ≡ chosen_in p s i c
  chosen_is c l t = q.used c (part_lt p a i c h l t).0 t

  -- where the interaction is enabled, the table has a transition for each part
  pub all_chosen : enabled p s i ≡ true → AllChosen p chosen i
  all_chosen e =
      record {
        known =
            λ c l t.
            subst (λ (x : ℕ). x < transitions p) (sym (chosen_is c l t)) (uses p s i c e (part_lt p a i c h l t).0 t).known;
      }

  acts_acted : (n : ℕ) → n ≤ 16 → acts_below p chosen i n (acted p s (transfer_of p i)) ≡ acted_below p s i n
  unfolding acts_below act_part acted_below
  acts_acted zero l = refl
  acts_acted (suc n) l =
      let e : acts_below p chosen i n (acted p s (transfer_of p i)) ≡ acted_below p s i n = acts_acted n (le_of_lt l) in
      bool_cases (takes_part p i n)
      (λ t. rw t (ap₂ (λ (r : State) (u : ℕ). acted p r (action_of p u)) e (chosen_is n l t)))
      (λ t. rw t e)

  -- the transfer, the actions, the destinations and the last ports, in this order
  pub fire_done : (at : ℕ) (v w : List ℤ) (l m : List ℕ) → length s.locations ≡ 16 → length s.last_ports ≡ 16 → at ≡ interaction_at p i
      → v ≡ (acted p s (span_at p (at + 20))).values
      → site s.locations s.last_ports w ≡ acts_below p chosen i (components p) (site s.locations s.last_ports v)
      → l ≡ set_below (takes_part p i) (λ c. destination p (chosen_by p chosen i c)) s.locations (components p)
      → m ≡ set_below (takes_part p i) (port_in p i) s.last_ports (components p)
      → site l m w ≡ fired p s i
  unfolding fired acted
  fire_done at v w l m x y b e d f g =
      let n : components p ≤ 16 = (laid_accepted p a).components≤ in
      let part : (k : ℕ) → k < 16 → takes_part p i k ≡ true → k < components p = λ k r t. (part_lt p a i k h r t).0 in
      ap₂ (λ (x z : List ℕ). site x z w)
      (f ∙ set_below_all (takes_part p i) (λ c. destination p (chosen_by p chosen i c)) s.locations 16 (components p) (λ c. destination p (chosen_in p s i c)) x n
      (λ k r t. (part k r t, ap (destination p) (chosen_is k r t))))
      (g ∙ set_below_all (takes_part p i) (port_in p i) s.last_ports 16 (components p) (port_in p i) y n (λ k r t. (part k r t, refl)))
      ∙ ap (λ (r : State). site (fired p s i).locations (fired p s i).last_ports r.values)
      (d ∙ ap (λ (u : List ℤ). acts_below p chosen i (components p) (site s.locations s.last_ports u))
      (e ∙ ap (λ (j : ℕ). (acted p s (span_at p (j + 20))).values) b) ∙ acts_acted (components p) n)

-- ---- what the functions of fire.rt stand on
pub ruleset firing = (laid_accepted, transfer_taken, action_taken, chosen_known, act_part_none, act_part_some, set_where_none, set_where_part, acts_none, acts_next, set_below_none, set_below_next, set_below_length, all_chosen)
