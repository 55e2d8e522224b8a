-- The walk over a row that skips what stands above a number tried, and what it shows of all the rows together.
use mathlib.Core.Path.{◌≡◌, refl, sym, ap, ap₂, ◌∙◌, subst}
use Prim.Native.Nat.{ℕ, zero, suc, ◌≤◌, ◌<◌}
use native.Mathlib.Nat.{le_refl, le_trans, le_of_lt, lt_of_le_of_lt, not-suc-le-zero}
use native.Mathlib.Omega.{arith}
use mathlib.Core.Bool.{Bool, true, false, not, ◌&&◌, ◌||◌}
use lib.Dec.{eqb}
use lib.Bits.{bit_and, and_le_l, and_le_r}
use Rattle.semantics.specs.Bytes.{implies, every, bit, mask}
use Rattle.semantics.specs.Plan.{Plan, max_interactions, interactions, rank_row}
use Rattle.semantics.proofs.Basics.{bool_cases, absurd_bool, not_no, and_both, both_and, or_left, implies-yes, implies-at, all_of_lem, every-at, every_all, eqb-true}
use Rattle.semantics.proofs.Masks.{bit-zero, bit_mask, mask_lt}
use Rattle.words.proofs.BitLaws.{bit_and_lem, bits_same}
use Rattle.ranks.specs.RankRow.{covers, closed, row_ok, Reached, Told, RowPassed}
use Rattle.ranks.proofs.RankRows.{bounded_at}

-- ---- one row

-- what is left to try of a row
pub record Left (p : Plan) (row left : ℕ) : Type 0 where
  pub small : left ≤ row
  pub inside : (k : ℕ) → bit left k ≡ true → bit row k ≡ true
  pub passed : (k : ℕ) → bit left k ≡ false → bit row k ≡ true → Reached p row k

pub left_start : (p : Plan) (row : ℕ) → Left p row row
left_start p row = record { small = le_refl row; inside = λ k b. b; passed = λ k f t. absurd (absurd_bool t f) }

-- number j and what stands above it are reached
abbrev pub Tried : Plan → ℕ → ℕ → Type 0
Tried p row j = (k : ℕ) → (eqb k j || bit (rank_row p j) k) ≡ true → Reached p row k

-- so it is where j was tried
pub tried : (p : Plan) (row j : ℕ) → j < max_interactions → bit row j ≡ true → covers p row j ≡ true → Tried p row j
tried p row j s b v k z = record { via = j; small = s; named = b; covered = v; there = z }

-- number j and the numbers of a mask are left out, all of which are reached
pub left_next : (p : Plan) (row left j out mid next : ℕ) → Left p row left → Tried p row j → ((k : ℕ) → bit out k ≡ true → Reached p row k)
    → mid < left → ((k : ℕ) → bit mid k ≡ (bit left k && not (eqb k j))) → next ≤ mid → ((k : ℕ) → bit next k ≡ (bit mid k && not (bit out k))) → Left p row next
left_next p row left j out mid next l t r less cut most e =
    record {
      small = le_trans most (le_trans (le_of_lt less) l.small);
      inside = λ k b. l.inside k (and_both (bit left k) (not (eqb k j)) (sym (cut k) ∙ (and_both (bit mid k) (not (bit out k)) (sym (e k) ∙ b)).0)).0;
      passed = λ k f b. bool_cases (bit left k) (λ y. gone k f y) (λ n. l.passed k n b);
    }
  where
    gone : (k : ℕ) → bit next k ≡ false → bit left k ≡ true → Reached p row k
    gone k f y =
        bool_cases (eqb k j) (λ z. t k (or_left (eqb k j) (bit (rank_row p j) k) z))
        (λ z. r k (not_no (bit out k) (ap (λ (b : Bool). b && not (bit out k)) (sym (cut k ∙ both_and y (ap not z))) ∙ sym (e k) ∙ f)))

-- nothing is left
pub left_done : (p : Plan) (row left : ℕ) → Left p row left → left ≡ 0 → Told p row
left_done p row left l e k t = l.passed k (ap (λ (m : ℕ). bit m k) e ∙ bit-zero k) t

-- a closed row passes each test
pub closed-covers : (p : Plan) (row : ℕ) → closed p row ≡ true → (j : ℕ) → j < max_interactions → bit row j ≡ true → covers p row j ≡ true
unfolding closed
closed-covers p row e j l b = implies-at (bit row j) (covers p row j) (every-at max_interactions (λ y. implies (bit row y) (covers p row y)) e j l) b

-- ---- all the rows

kept : (x y : Bool) → implies x y ≡ true → (x && y) ≡ x
unfolding implies
kept true y e = e
kept false y e = refl

-- a row as a number of 64 bits
abbrev low : ℕ → ℕ
low m = mask 64 (bit m)

-- a row inside another that has a number more is less
proper : (a b j : ℕ) → j < 64 → every 64 (λ k. implies (bit a k) (bit b k)) ≡ true → bit b j ≡ true → bit a j ≡ false → low a < low b
proper a b j l s t f =
    let e : bit_and (low a) (low b) ≡ low a =
    bits_same 64 (bit_and (low a) (low b)) (low a) (lt_of_le_of_lt (and_le_l (low a) (low b)) (mask_lt 64 (bit a))) (mask_lt 64 (bit a))
    (λ k m. bit_and_lem (low a) (low b) k ∙ ap₂ ◌&&◌ (bit_mask 64 (bit a) k m) (bit_mask 64 (bit b) k m)
    ∙ kept (bit a k) (bit b k) (every-at 64 (λ x. implies (bit a x) (bit b x)) s k m) ∙ sym (bit_mask 64 (bit a) k m)) in
    let h : low a ≤ low b = subst (λ (x : ℕ). x ≤ low b) e (and_le_r (low a) (low b)) in
    let n : low a ≡ low b → ⊥ =
    λ q. absurd_bool t (sym (bit_mask 64 (bit b) j l) ∙ ap (λ (x : ℕ). bit x j) (sym q) ∙ bit_mask 64 (bit a) j l ∙ f) in
    omega arith

module _ (p : Plan) (all : (i : ℕ) → i < interactions p → RowPassed p i) where
  -- the row of a number that is reached lies in the row, where the lesser rows are closed
  reached_covers : (i : ℕ) → i < interactions p
      → ((j : ℕ) → j < interactions p → low (rank_row p j) < low (rank_row p i) → closed p (rank_row p j) ≡ true)
      → (k : ℕ) → k < max_interactions → Reached p (rank_row p i) k → covers p (rank_row p i) k ≡ true
  unfolding covers
  reached_covers i h lesser k m r =
      bool_cases (eqb k r.via) (λ z. subst (λ (x : ℕ). covers p (rank_row p i) x ≡ true) (sym (eqb-true k r.via z)) r.covered)
      (λ z. let j : ℕ = r.via in
      let d : bit (rank_row p j) k ≡ true = ap (λ (x : Bool). x || bit (rank_row p j) k) (sym z) ∙ r.there in
      let u : j < interactions p = bounded_at p (rank_row p i) (all i h).within j r.small r.named in
      let less : low (rank_row p j) < low (rank_row p i) = proper (rank_row p j) (rank_row p i) j r.small r.covered r.named (all j u).strict in
      let c : covers p (rank_row p j) k ≡ true = closed-covers p (rank_row p j) (lesser j u less) k m d in
      every_all max_interactions (λ x. implies (bit (rank_row p k) x) (bit (rank_row p i) x))
      (λ x q. implies-yes (bit (rank_row p k) x) (bit (rank_row p i) x)
      (λ t. implies-at (bit (rank_row p j) x) (bit (rank_row p i) x) (every-at max_interactions (λ y. implies (bit (rank_row p j) y) (bit (rank_row p i) y)) r.covered x q)
      (implies-at (bit (rank_row p k) x) (bit (rank_row p j) x) (every-at max_interactions (λ y. implies (bit (rank_row p k) y) (bit (rank_row p j) y)) c x q) t))))

  all_closed : (n i : ℕ) → i < interactions p → low (rank_row p i) < n → closed p (rank_row p i) ≡ true
  unfolding closed
  all_closed zero i h l = absurd (not-suc-le-zero l)
  all_closed (suc n) i h l =
      every_all max_interactions (λ k. implies (bit (rank_row p i) k) (covers p (rank_row p i) k))
      (λ k m. implies-yes (bit (rank_row p i) k) (covers p (rank_row p i) k)
      (λ b. reached_covers i h (λ j u less. all_closed n j u (omega arith)) k m ((all i h).told k b)))

  pub rows_passed : every (interactions p) (row_ok p) ≡ true
  unfolding row_ok
  rows_passed =
      every_all (interactions p) (row_ok p)
      (λ i h. all_of_lem _ ((all i h).within, (ap not (all i h).strict, (all_closed (suc (low (rank_row p i))) i h (le_refl (suc (low (rank_row p i)))), tt))))
