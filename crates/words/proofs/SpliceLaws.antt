-- Laws of writing over a part of a list.
use mathlib.Core.Path.{◌≡◌, sym, ap, ap₂, ◌∙◌}
use Prim.Native.Nat.{ℕ, ◌+◌, ◌≤◌}
use native.Mathlib.Nat.{add-zero}
use native.Mathlib.Omega.{arith}
use mathlib.Core.List.{List, [], ◌++◌, append_assoc, append-nil}
use lib.ListN.{length, take, drop, length-append, take-append-drop, drop_of_length-le}
use lib.Seq.{length-take-le, take_at, drop-append-add, drop-drop}
use Rattle.words.specs.Splice.{splice}

head-length : (l : List ℕ) (k : ℕ) (vs : List ℕ) → k + length vs ≤ length l → length (take k l ++ vs) ≡ k + length vs
head-length l k vs h = length-append (take k l) vs ∙ ap (λ (n : ℕ). n + length vs) (length-take-le k l (omega arith))

-- two parts, the second where the first ends, are one part
pub splice-splice : (l : List ℕ) (k : ℕ) (p : List ℕ) (j : ℕ) (q : List ℕ) → j ≡ k + length p → k + length p ≤ length l
    → splice (splice l k p) j q ≡ splice l k (p ++ q)
unfolding splice
splice-splice l k p j q e h =
    let t = take k l ++ p in
    let r = drop (k + length p) l in
    let n : length t ≡ j = head-length l k p h ∙ sym e in
    let m : k + length p + length q ≡ k + length (p ++ q) = omega (arith, length-append p q) in
    let after : drop (j + length q) (t ++ r) ≡ drop (k + length (p ++ q)) l =
    ap (λ (i : ℕ). drop (i + length q) (t ++ r)) (sym n) ∙ drop-append-add t r (length q) ∙ drop-drop (length q) (k + length p) l
    ∙ ap (λ (i : ℕ). drop i l) m in
    ap₂ (λ (x y : List ℕ). x ++ q ++ y) (take_at t r j n) after ∙ ap (λ (x : List ℕ). x ++ drop (k + length (p ++ q)) l) (append_assoc (take k l) p q)

-- nothing is written
pub splice-none : (l : List ℕ) (k : ℕ) → splice l k [] ≡ l
unfolding splice
splice-none l k = rw (append-nil (take k l), add-zero k) (take-append-drop k l)

-- a part as long as the list is the whole of it
pub splice_all : (l vs : List ℕ) → length vs ≡ length l → splice l 0 vs ≡ vs
unfolding splice
splice_all l vs e = ap (λ (x : List ℕ). vs ++ x) (drop_of_length-le l {i = 0 + length vs} (omega arith)) ∙ append-nil vs

-- one part more of a list that is written from its start
pub splice-next : (l p q : List ℕ) (k : ℕ) (m n : List ℕ) → length p ≡ k → k ≤ length l → m ≡ splice l 0 p → n ≡ splice m k q → n ≡ splice l 0 (p ++ q)
splice-next l p q k m n e h a b =
    b ∙ ap (λ (x : List ℕ). splice x k q) a ∙ splice-splice l 0 p k q (omega arith) (omega arith)
