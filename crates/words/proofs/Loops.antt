-- One turn more of a loop: tests made one after another, a mask built from its lowest bit on, a list filled from the front.
use mathlib.Core.Path.{◌≡◌, refl, sym, ap, ap₂, ◌∙◌, subst}
use Prim.Native.Nat.{ℕ, ◌+◌, ◌≤◌, ◌<◌}
use native.Mathlib.Nat.{le_antisymm}
use native.Mathlib.Numerals.{add-one}
use native.Mathlib.Omega.{arith}
use mathlib.Core.Bool.{Bool, true, false, cond, ◌&&◌, ◌||◌}
use mathlib.Core.List.{List}
use lib.ListN.{length, get_or, set, length-set}
use lib.Seq.{get_or-set_same, get_or-set_other}
use lib.Dec.{ltb, eqb}
use Rattle.semantics.specs.Bytes.{every, some_below, table, bit, mask, with_bit}
use Rattle.semantics.proofs.Basics.{bool_cases, same_test, both_and, or_right, or_no, ltb-true, lt-ltb, eqb-true, eq-eqb, ne_eqb, eqb-false, below_suc, length-table, get_or-table, table_is, table_same}
use Rattle.semantics.proofs.Masks.{bit_mask, bit_mask_over, mask_wider}

-- ---- tests

-- a turn of a loop that keeps the answer in a flag
pub every_step : (n : ℕ) (f : ℕ → Bool) → every (n + 1) f ≡ (every n f && f n)
unfolding every
every_step n f = rw add-one

pub some_step : (n : ℕ) (f : ℕ → Bool) → some_below (n + 1) f ≡ (some_below n f || f n)
unfolding some_below
some_step n f = rw add-one

-- two tests of each number in one flag
pub both_step : (n : ℕ) (f g : ℕ → Bool) → (every (n + 1) f && every (n + 1) g) ≡ ((every n f && every n g) && (f n && g n))
both_step n f g = ap₂ ◌&&◌ (every_step n f) (every_step n g) ∙ swap (every n f) (f n) (every n g) (g n)
  where
    swap : (a b c d : Bool) → ((a && b) && (c && d)) ≡ ((a && c) && (b && d))
    swap true true c d = refl
    swap true false true d = refl
    swap true false false d = refl
    swap false b c d = refl

-- a turn of a loop that stops at the first test that fails
pub every-next : (n : ℕ) (f : ℕ → Bool) → every n f ≡ true → f n ≡ true → every (n + 1) f ≡ true
every-next n f e h = every_step n f ∙ both_and e h

-- all have passed
pub every-done : (i n : ℕ) (f : ℕ → Bool) → every i f ≡ true → i ≤ n → n ≤ i → every n f ≡ true
every-done i n f e h l = subst (λ (k : ℕ). every k f ≡ true) (le_antisymm h l) e

-- ---- a mask

apart : (k n : ℕ) → k < n → k ≡ n → ⊥
apart k n h e = omega arith

beyond : (k n : ℕ) → n + 1 ≤ k → k ≡ n → ⊥
beyond k n h e = omega arith

pub mask_start : (f : ℕ → Bool) → 0 ≡ mask 0 f
unfolding mask
mask_start f = refl

-- the next bit is set
pub mask-yes : (n : ℕ) (f : ℕ → Bool) → n < 64 → f n ≡ true → with_bit (mask n f) n ≡ mask (n + 1) f
unfolding with_bit
mask-yes n f h y =
    mask_wider (n + 1) 64 f (λ j. bit (mask n f) j || eqb j n) (omega arith)
    (λ k l.
    below_suc (subst (λ (x : ℕ). k < x) (add-one n) l)
    (λ m. or_no (bit (mask n f) k) (eqb k n) (ne_eqb k n (apart k n m)) ∙ bit_mask n f k m)
    (λ m. or_right (bit (mask n f) k) (eqb k n) (eq-eqb k n m) ∙ sym (ap f m ∙ y)))
    (λ k l m. or_no (bit (mask n f) k) (eqb k n) (ne_eqb k n (beyond k n l)) ∙ bit_mask_over n f k (omega arith))

-- or left clear
pub mask_no : (n : ℕ) (f : ℕ → Bool) → f n ≡ false → mask n f ≡ mask (n + 1) f
mask_no n f y = sym (mask_wider n (n + 1) f f (omega arith) (λ k l. refl) (λ k l m. ap f (between k n l m) ∙ y))
  where
    between : (k n : ℕ) → n ≤ k → k < n + 1 → k ≡ n
    between k n l m = omega arith

-- ---- a list

-- n entries, of which the first i are those of f
unfoldable pub filled : {A : Type 0} → ℕ → (ℕ → A) → A → ℕ → List A
filled n f d i = table n (λ k. cond (ltb k i) (f k) d)

pub filled_at : {A : Type 0} (n : ℕ) (f : ℕ → A) (d : A) (i k : ℕ) → k < n → get_or (filled n f d i) k d ≡ cond (ltb k i) (f k) d
unfolding filled
filled_at n f d i k h = get_or-table n (λ k. cond (ltb k i) (f k) d) d k h

more : (k i : ℕ) → (k ≡ i → ⊥) → ltb k i ≡ ltb k (i + 1)
more k i h =
    same_test (ltb k i) (ltb k (i + 1)) (λ e. let l : k < i = ltb-true k i e in lt-ltb k (i + 1) (omega arith))
    (λ e. let l : k < i + 1 = ltb-true k (i + 1) e in lt-ltb k i (omega arith))

-- the next entry is stored
pub filled_turn : {A : Type 0} (n : ℕ) (f : ℕ → A) (d : A) (i : ℕ) {out : List A} {v : A} → i < n → out ≡ filled n f d i → v ≡ f i
    → set out i v ≡ filled n f d (i + 1)
unfolding filled
filled_turn {A} n f d i {v = v} h q e =
    let g : ℕ → A = λ k. cond (ltb k i) (f k) d in
    let long : length (table n g) ≡ n = length-table n g in
    ap (λ (l : List A). set l i v) q
    ∙ table_is d (set (table n g) i v) n (λ k. cond (ltb k (i + 1)) (f k) d) (length-set (table n g) i v ∙ long)
    (λ k j.
    bool_cases (eqb k i)
    (λ q.
    let s : k ≡ i = eqb-true k i q in
    rw (s, lt-ltb i (i + 1) (omega arith)) (get_or-set_same (table n g) i v d (subst (λ (x : ℕ). i < x) (sym long) h) ∙ e))
    (λ q. get_or-set_other (table n g) i k v d (eqb-false k i q) ∙ get_or-table n g d k j ∙ ap (λ (b : Bool). cond b (f k) d) (more k i (eqb-false k i q))))

-- all entries are stored
pub filled_all : {A : Type 0} (n : ℕ) (f : ℕ → A) (d : A) → filled n f d n ≡ table n f
unfolding filled
filled_all n f d = table_same d n (λ k. cond (ltb k n) (f k) d) f (λ k j. ap (λ (b : Bool). cond b (f k) d) (lt-ltb k n j))
