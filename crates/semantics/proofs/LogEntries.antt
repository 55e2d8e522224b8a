-- The entries of a log: from one to the next, and of moves that were written as a log.
use mathlib.Core.Path.{◌≡◌, refl, sym, ap, ap₂, ◌∙◌, subst}
use Prim.Native.Nat.{ℕ, suc, ◌+◌, ◌*◌, ◌/◌, ◌%◌, ◌≤◌, ◌<◌}
use native.Mathlib.Omega.{arith}
use mathlib.Core.List.{List, [], ◌∷◌}
use lib.ListN.{length, get_or, drop, length-append, drop_of_length-le}
use lib.Seq.{drop-cons}
use Rattle.semantics.specs.Bytes.{entries, byte, u16, le_bytes, table}
use Rattle.semantics.specs.Log.{Log, log_of}
use Rattle.semantics.proofs.Basics.{length-table, get_or-table, table_same}
use Rattle.semantics.proofs.Masks.{length-le_bytes}

-- two bytes an entry
pub entries_long : (l : Log) → length (entries l) ≡ length l / 2
unfolding entries
entries_long l = length-table (length l / 2) (λ k. u16 l (2 * k))

-- the entries from number k on begin with the one at byte 2 k
pub entries_from : (l : Log) (k : ℕ) → k < length l / 2 → drop k (entries l) ≡ u16 l (2 * k) ∷ drop (suc k) (entries l)
unfolding entries
entries_from l k h =
    drop-cons (entries l) k 0 (subst (λ (n : ℕ). k < n) (sym (entries_long l)) h)
    ∙ ap (◌∷ drop (suc k) (entries l)) (get_or-table (length l / 2) (λ j. u16 l (2 * j)) 0 k h)

-- past the last there is none
pub entries_end : (l : Log) (k : ℕ) → length l / 2 ≤ k → drop k (entries l) ≡ []
entries_end l k h = drop_of_length-le (entries l) (subst (λ (n : ℕ). n ≤ k) (sym (entries_long l)) h)

-- ---- moves written as a log

pub log_long : (is : List ℕ) → length (log_of is) ≡ 2 * length is
unfolding log_of
log_long [] = refl
log_long (i ∷ is) = length-append (le_bytes 2 i) (log_of is) ∙ ap₂ (λ (m n : ℕ). m + n) (length-le_bytes 2 i) (log_long is) ∙ omega arith

-- behind the first entry of a log stand those of the rest
later : (a b : ℕ) (r : Log) (k : ℕ) → u16 (a ∷ b ∷ r) (2 * suc k) ≡ u16 r (2 * k)
unfolding u16
later a b r k =
    let l : Log = a ∷ b ∷ r in
    let low : 2 * suc k ≡ suc (suc (2 * k)) = omega arith in
    let high : 2 * suc k + 1 ≡ suc (suc (2 * k + 1)) = omega arith in
    ap₂ (λ (x y : ℕ). byte l x + 256 * byte l y) low high

entries-first : (a b : ℕ) (r : Log) → entries (a ∷ b ∷ r) ≡ (a + 256 * b) ∷ entries r
unfolding entries table u16
entries-first a b r =
    let l : Log = a ∷ b ∷ r in
    let half : suc (suc (length r)) / 2 ≡ suc (length r / 2) = omega arith in
    ap (λ (n : ℕ). table n (λ k. u16 l (2 * k))) half
    ∙ ap ((a + 256 * b) ∷◌) (table_same 0 (length r / 2) (λ k. u16 l (2 * suc k)) (λ k. u16 r (2 * k)) (λ k m. later a b r k))

-- "16 bits each": moves below 65536 are read as they were written
pub entries_back : (is : List ℕ) → ((k : ℕ) → get_or is k 0 < 65536) → entries (log_of is) ≡ is
unfolding entries log_of le_bytes table
entries_back [] h = refl
entries_back (i ∷ is) h =
    let x = h 0 in
    let read : i % 256 + 256 * (i / 256 % 256) ≡ i = omega arith in
    entries-first (i % 256) (i / 256 % 256) (log_of is) ∙ ap₂ (λ (n : ℕ) (ns : List ℕ). n ∷ ns) read (entries_back is (λ k. h (suc k)))

-- and a log of bytes with whole entries is what its entries are written as
pub log_back : (l : Log) → ((k : ℕ) → byte l k < 256) → length l % 2 ≡ 0 → log_of (entries l) ≡ l
unfolding log_of le_bytes entries table
log_back [] h e = refl
log_back (a ∷ []) h e = absurd (one_odd e)
  where
    one_odd : 1 % 2 ≡ 0 → ⊥
    one_odd q = omega arith
log_back (a ∷ b ∷ r) h e =
    let x = h 0 in
    let y = h 1 in
    let low : (a + 256 * b) % 256 ≡ a = omega arith in
    let top : (a + 256 * b) / 256 ≡ b = omega arith in
    let high : (a + 256 * b) / 256 % 256 ≡ b = ap (◌% 256) top ∙ omega arith in
    let even : length r % 2 ≡ 0 = omega arith in
    ap log_of (entries-first a b r)
    ∙ ap₂ (λ (m : ℕ) (ns : List ℕ). m ∷ ns) low (ap₂ (λ (m : ℕ) (ns : List ℕ). m ∷ ns) high (log_back r (λ k. h (suc (suc k))) even))
