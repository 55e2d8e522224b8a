-- Laws of the masks of names: what one step of each loop does, and what is left at the end.
use mathlib.Core.Path.{◌≡◌, sym, ap, ap₂, ◌∙◌, subst}
use Prim.Native.Nat.{ℕ, ◌+◌, ◌≤◌, ◌<◌}
use native.Mathlib.Omega.{arith}
use mathlib.Core.Bool.{Bool, true, false, not, ◌&&◌, ◌||◌, and-true}
use mathlib.Core.List.{List}
use lib.ListN.{length, get_or, set, length-set}
use lib.Seq.{get_or-set_same, get_or-set_other}
use lib.Dec.{leb, ltb, eqb}
use lib.Bits.{bit_or}
use Rattle.semantics.specs.Bytes.{every, some_below, bit, mask, with_bit}
use Rattle.semantics.specs.Plan.{Plan, Span, max_components, max_variables, no_port, code_words, variables, transitions, components, owner, component_of, port_in, takes_part}
use Rattle.semantics.specs.Code.{Role, owned_by, shared_in, span_ok}
use Rattle.semantics.specs.Rules.{variable_ok, transition_ok}
use Rattle.semantics.proofs.Basics.{bool_cases, same_test, and_both, both_and, each, all_of_lem, ltb-true, ltb-false, eqb-true, eqb_same, eqb-false, eq-eqb, ne_eqb, every-at, some_has, some_found}
use Rattle.semantics.proofs.Masks.{bit_mask, bit_mask_over, bit-zero}
use Rattle.words.proofs.BitLaws.{bit_or_lem}
use Rattle.words.proofs.Loops.{some_step, mask_start, mask-yes, mask_no}
use Rattle.words.proofs.TestLaws.{both_hold}
use Rattle.checker.proofs.Depths.{span_empty}
use Rattle.plan.specs.Owned.{Owned, part_mask}
use Rattle.plan.specs.Pair.{pair_ok}

-- ---- the variables that each component owns

-- what the first v variables leave: mask c has the ones among them that component c owns
pub record OwnedBelow (p : Plan) (v : ℕ) (l : List ℕ) : Type 0 where
  pub sixteen : length l ≡ max_components
  pub owns : (c : ℕ) → c < max_components → get_or l c 0 ≡ mask v (λ k. eqb (owner p k) c)

pub owned_none : (p : Plan) (l : List ℕ) → length l ≡ max_components → ((c : ℕ) → get_or l c 0 ≡ 0) → OwnedBelow p 0 l
owned_none p l e z = record { sixteen = e; owns = λ c h. z c ∙ mask_start (λ k. eqb (owner p k) c) }

-- one variable more, at its owner
pub owned_next : (p : Plan) (v o : ℕ) (l : List ℕ) → OwnedBelow p v l → v < max_variables → o < max_components → owner p v ≡ o
    → (n : ℕ) → n ≡ with_bit (get_or l o 0) v → OwnedBelow p (v + 1) (set l o n)
owned_next p v o l f h u e n q = record { sixteen = length-set l o n ∙ f.sixteen; owns = λ c m. bool_cases (eqb c o) (own c) (other c m) }
  where
    Goal : ℕ → Type 0
    Goal c = get_or (set l o n) c 0 ≡ mask (v + 1) (λ k. eqb (owner p k) c)

    own : (c : ℕ) → eqb c o ≡ true → Goal c
    own c t =
        subst Goal (sym (eqb-true c o t))
        (get_or-set_same l o n 0 (subst (λ (x : ℕ). o < x) (sym f.sixteen) u) ∙ q ∙ ap (λ (m : ℕ). with_bit m v) (f.owns o u)
        ∙ mask-yes v (λ k. eqb (owner p k) o) h (eq-eqb (owner p v) o e))

    other : (c : ℕ) → c < max_components → eqb c o ≡ false → Goal c
    other c m t =
        get_or-set_other l o c n 0 (eqb-false c o t) ∙ f.owns c m
        ∙ mask_no v (λ k. eqb (owner p k) c) (ne_eqb (owner p v) c (λ s. eqb-false c o t (sym s ∙ e)))

-- a variable of the plan has an owner below C
pub owner_low : (p : Plan) → components p ≤ max_components → every (variables p) (variable_ok p) ≡ true → (v : ℕ) → v < variables p
    → owner p v < max_components
unfolding variable_ok
owner_low p h e v l =
    let (own, _) = each _ (every-at (variables p) (variable_ok p) e v l) in
    let w : owner p v < components p = ltb-true _ _ own in
    omega arith

-- and a transition of the plan a component
pub component_low : (p : Plan) → components p ≤ max_components → every (transitions p) (transition_ok p) ≡ true → (t : ℕ) → t < transitions p
    → component_of p t < max_components
unfolding transition_ok
component_low p h e t l =
    let (own, _) = each _ (every-at (transitions p) (transition_ok p) e t l) in
    let w : component_of p t < components p = ltb-true _ _ own in
    omega arith

mask-bit : (n : ℕ) (f : ℕ → Bool) (k : ℕ) → bit (mask n f) k ≡ (ltb k n && f k)
mask-bit n f k = bool_cases (ltb k n) (λ e. rw e (bit_mask n f k (ltb-true k n e))) (λ e. rw e (bit_mask_over n f k (ltb-false k n e)))

-- all variables: the masks of the owners
pub owned_all : (p : Plan) (l : List ℕ) → components p ≤ max_components → every (variables p) (variable_ok p) ≡ true → OwnedBelow p (variables p) l
    → Owned p l
unfolding owned_by
owned_all p l h e f =
    record {
      sixteen = f.sixteen;
      low = owner_low p h e;
      owns = λ c v m. ap (λ (x : ℕ). bit x v) (f.owns c m) ∙ mask-bit (variables p) (λ k. eqb (owner p k) c) v ∙ both_hold (ltb v (variables p)) (eqb (owner p v) c);
    }

-- ---- the variables that an interaction's code may name

-- what the first n components give: the variables of those among them that take part
pub Gathered : Plan → ℕ → ℕ → ℕ → Type 0
Gathered p i n m = (v : ℕ) → bit m v ≡ some_below n (λ k. takes_part p i k && owned_by p k v)

pub gathered_none : (p : Plan) (i : ℕ) → Gathered p i 0 0
unfolding Gathered some_below
gathered_none p i v = bit-zero v

part-bit : (p : Plan) (i c m v : ℕ) → bit m v ≡ owned_by p c v → bit (part_mask (port_in p i c) m) v ≡ (takes_part p i c && owned_by p c v)
unfolding takes_part
part-bit p i c m v e = bool_cases (eqb (port_in p i c) no_port) (λ t. rw t (bit-zero v)) (λ t. rw t e)

pub gathered_next : (p : Plan) (i n m o : ℕ) → Gathered p i n m → ((v : ℕ) → bit o v ≡ owned_by p n v)
    → Gathered p i (n + 1) (bit_or m (part_mask (port_in p i n) o))
unfolding Gathered
gathered_next p i n m o g h v =
    bit_or_lem m (part_mask (port_in p i n) o) v ∙ ap₂ ◌||◌ (g v) (part-bit p i n o v (h v)) ∙ sym (some_step n (λ k. takes_part p i k && owned_by p k v))

-- all sixteen
pub gathered_all : (p : Plan) (i m : ℕ) (l : List ℕ) → Owned p l → Gathered p i max_components m → (v : ℕ) → bit m v ≡ shared_in p i v
unfolding Gathered shared_in owned_by
gathered_all p i m l o g v =
    g v
    ∙ same_test (some_below max_components (λ k. takes_part p i k && owned_by p k v)) (shared_in p i v)
    (λ e.
    let (c, _, b) = some_found max_components (λ k. takes_part p i k && owned_by p k v) e in
    let (takes, owns) = and_both (takes_part p i c) (owned_by p c v) b in
    let (declared, (own, _)) = each _ owns in
    all_of_lem _ (declared, (subst (λ (x : ℕ). takes_part p i x ≡ true) (sym (eqb-true _ _ own)) takes, tt)))
    (λ e.
    let (declared, (takes, _)) = each _ e in
    some_has max_components (λ k. takes_part p i k && owned_by p k v) (owner p v) (o.low v (ltb-true _ _ declared))
    (both_and takes (all_of_lem _ (declared, (eqb_same (owner p v), tt)))))

-- ---- spans

-- the same names make the same rules
pub span_names : (p : Plan) (r : Role) (f g : ℕ → Bool) (s : Span) → ((v : ℕ) → f v ≡ g v) → span_ok p r f s ≡ span_ok p r g s
span_names p r f g s e = λ i. span_ok p r (λ v. e v i) s

pub pair_names : (p : Plan) (f g : ℕ → Bool) (a b : ℕ) → ((v : ℕ) → f v ≡ g v) → pair_ok p f a b ≡ pair_ok p g a b
pair_names p f g a b e = λ i. pair_ok p (λ v. e v i) a b

-- a span that is empty and may be keeps the rules where it starts in the code or at its end
pub span_blank : (p : Plan) (r : Role) (f : ℕ → Bool) (s : Span) → r.looks ≡ false → s.size ≡ 0 → leb s.start (code_words p) ≡ span_ok p r f s
span_blank p r f s b e =
    sym (and-true (leb s.start (code_words p))) ∙ ap (λ (x : Bool). leb s.start (code_words p) && not x) (sym b) ∙ span_empty p r f s e
