-- Tables: their entries, lists that are tables, and where a row of a table lies.
use mathlib.Core.Path.{◌≡◌, refl, sym, ap, ◌∙◌, subst}
use Prim.Native.Nat.{ℕ, zero, suc, ◌+◌, ◌*◌, ◌^◌, ◌≤◌, ◌<◌}
use native.Mathlib.Nat.{le_of_suc-le-suc, not-suc-le-zero, mul-suc, mul-le-mul_left}
use native.Mathlib.Omega.{arith}
use mathlib.Core.List.{List}
use lib.ListN.{length, get_or, take, drop, replicate, length-take, length-drop}
use lib.Seq.{get_or-take, get_or-drop, ext_get_or}
use lib.Pow.{pow_mono}
use Rattle.semantics.specs.Bytes.{table}

pub length-table : {A : Type 0} (n : ℕ) (f : ℕ → A) → length (table n f) ≡ n
unfolding table
length-table zero f = refl
length-table (suc n) f = ap suc (length-table n (λ k. f (suc k)))

pub get_or-table : {A : Type 0} (n : ℕ) (f : ℕ → A) (d : A) (k : ℕ) → k < n → get_or (table n f) k d ≡ f k
unfolding table
get_or-table zero f d k h = absurd (not-suc-le-zero h)
get_or-table (suc n) f d zero h = refl
get_or-table (suc n) f d (suc k) h = get_or-table n (λ j. f (suc j)) d k (le_of_suc-le-suc h)

-- a list with the entries of a table is the table
pub table_is : {A : Type 0} (d : A) (l : List A) (n : ℕ) (f : ℕ → A) → length l ≡ n → ((k : ℕ) → k < n → get_or l k d ≡ f k) → l ≡ table n f
table_is d l n f e h =
    ext_get_or d l (table n f) (e ∙ sym (length-table n f))
    (λ k m. let j : k < n = subst (λ (x : ℕ). k < x) e m in h k j ∙ sym (get_or-table n f d k j))

pub table_same : {A : Type 0} (d : A) (n : ℕ) (f g : ℕ → A) → ((k : ℕ) → k < n → f k ≡ g k) → table n f ≡ table n g
table_same d n f g h = table_is d (table n f) n g (length-table n f) (λ k j. get_or-table n f d k j ∙ h k j)

-- a part of a list as a table
pub part-table : {A : Type 0} (d : A) (l : List A) (at n : ℕ) → at + n ≤ length l → take n (drop at l) ≡ table n (λ k. get_or l (at + k) d)
part-table d l at n h =
    table_is d (take n (drop at l)) n (λ k. get_or l (at + k) d) (simp (length-take, length-drop) (omega arith))
    (λ k j. get_or-take n (drop at l) k d j ∙ get_or-drop at l k d)

-- a list of zeros
pub zeros_at : (n k : ℕ) → get_or {A = ℕ} (replicate n 0) k 0 ≡ 0
zeros_at zero k = refl
zeros_at (suc n) zero = refl
zeros_at (suc n) (suc k) = zeros_at n k

-- ---- rows

-- row q of a table of rows ends where the rows end or before
pub row_end : (width q count : ℕ) → q < count → width * q + width ≤ width * count
row_end width q count h = rw mul-suc at (mul-le-mul_left width h)

-- four propositions have at most sixteen letters
pub few_letters : (k : ℕ) → k ≤ 4 → 2 ^ k ≤ 16
few_letters k h = pow_mono {i = k} {j = 4} h
