-- The image of each lane in the buffer. "No other lane's bytes change": with another image in the place of lane j's, lane j has that image, and every other its own.
use mathlib.Core.Path.{◌≡◌, sym, ap, subst, ◌∙◌}
use Prim.Native.Nat.{ℕ, ◌+◌, ◌*◌, ◌-◌, ◌≤◌, ◌<◌}
use native.Mathlib.Omega.{arith}
use mathlib.Core.List.{List, ◌++◌}
use lib.Dec.{ltb, leb}
use lib.ListN.{length, take, drop, length-drop, take-append-drop}
use lib.Seq.{length-take-le, take_all, take_at, drop_at, take-append-le, drop-append-le, drop-drop}
use borrow.Rule.Slice.PartMut.{same_len_mid, put_same, take_put, drop_put}
use Rattle.semantics.specs.Image.{Image, image_length}
use Rattle.semantics.proofs.Basics.{bool_cases, leb-true, leb-false, ltb-true, ltb-false}
use Rattle.roster.specs.Turn.{part, with_part}
use Rattle.roster.proofs.ServeLaws.{put_is}

-- lane i's image lies in the buffer whole
abbrev pub Inside : List ℕ → ℕ → Type 0
Inside b i = image_length * i + image_length ≤ length b

long : (i : ℕ) → image_length * i + image_length - image_length * i ≡ image_length
long i = omega arith

-- ---- one lane's image

pub part_length : (b : List ℕ) (i : ℕ) → Inside b i → length (part b i) ≡ image_length
unfolding part
part_length b i h =
    length-take-le image_length (drop (image_length * i) b) (subst (λ (k : ℕ). image_length ≤ k) (sym (length-drop (image_length * i) b))
    (room (length b) (image_length * i) h))
  where
    room : (n a : ℕ) → a + image_length ≤ n → image_length ≤ n - a
    room n a g = omega arith

-- and it lies there whole where it is as long as an image
pub part_inside : (b : List ℕ) (i : ℕ) → length (part b i) ≡ image_length → Inside b i
unfolding part
part_inside b i e = bool_cases (leb (image_length * i + image_length) (length b)) (λ t. leb-true _ _ t) (λ t.
    let l = leb-false _ _ t in
    let d = length-drop (image_length * i) b in
    absurd (short (image_length * i) (length b) (length (drop (image_length * i) b)) l d
    (λ g. sym (ap (λ (z : List ℕ). length z) (take_all image_length (drop (image_length * i) b) g)) ∙ e)))
  where
    short : (a n d : ℕ) → n < a + image_length → d ≡ n - a → (d ≤ image_length → d ≡ image_length) → ⊥
    short a n d l q f = let k = f (omega arith) in omega (arith, k)

-- put back as it was
pub same_stays : (b : List ℕ) (i : ℕ) → with_part b i (part b i) ≡ b
unfolding part
same_stays b i =
    ap (λ (m : ℕ). with_part b i (take m (drop (image_length * i) b))) (sym (long i))
    ∙ sym (put_is b (take (image_length * i + image_length - image_length * i) (drop (image_length * i) b)) i)
    ∙ put_same (image_length * i) (image_length * i + image_length - image_length * i) b

-- the buffer stays as long
pub with_length : (b : List ℕ) (i : ℕ) (c : Image) → length c ≡ length (part b i) → length (with_part b i c) ≡ length b
unfolding part
with_length b i c e =
    ap (λ (z : List ℕ). length z) (sym (put_is b c i))
    ∙ same_len_mid (image_length * i) (image_length * i + image_length - image_length * i) b c
    (e ∙ ap (λ (m : ℕ). length (take m (drop (image_length * i) b))) (sym (long i)))

module _ (b : List ℕ) (j : ℕ) (c : Image) (h : Inside b j) (e : length c ≡ image_length) where
  -- the new image is lane j's
  pub part_same : part (with_part b j c) j ≡ c
  unfolding part with_part
  part_same =
      ap (take image_length) (drop_at (take (image_length * j) b) (c ++ drop (image_length * j + image_length) b) (image_length * j)
      (length-take-le (image_length * j) b (omega arith)))
      ∙ take_at c (drop (image_length * j + image_length) b) image_length e

  -- the bytes before and after it stay
  pub before_stays : take (image_length * j) (with_part b j c) ≡ take (image_length * j) b
  before_stays = ap (take (image_length * j)) (sym (put_is b c j)) ∙ take_put (image_length * j) (image_length * j + image_length - image_length * j) b c (omega arith)

  pub after-stays : drop (image_length * j + image_length) (with_part b j c) ≡ drop (image_length * j + image_length) b
  after-stays = ap (drop (image_length * j + image_length)) (sym (put_is b c j)) ∙ drop_put (image_length * j) (image_length * j + image_length) b c
      (omega arith) h (e ∙ sym (long j))

-- an image that ends before place m is had from the bytes before m
front : (m a : ℕ) (z : List ℕ) → m ≤ length z → a + image_length ≤ m → take image_length (drop a z) ≡ take image_length (drop a (take m z))
front m a z h g =
    let l : length (take m z) ≡ m = length-take-le m z h in
    let d : length (drop a (take m z)) ≡ m - a = length-drop a (take m z) ∙ ap (λ (k : ℕ). k - a) l in
    ap (λ (y : List ℕ). take image_length (drop a y)) (sym (take-append-drop m z))
    ∙ ap (take image_length) (drop-append-le a (take m z) (drop m z) (omega (arith, l)))
    ∙ take-append-le image_length (drop a (take m z)) (drop m z) (omega (arith, d))

-- one that begins after place m from the bytes after m
back : (m a : ℕ) (z : List ℕ) → m ≤ a → take image_length (drop a z) ≡ take image_length (drop (a - m) (drop m z))
back m a z h = ap (take image_length) (ap (λ (k : ℕ). drop k z) (split m a h) ∙ sym (drop-drop (a - m) m z))
  where
    split : (m a : ℕ) → m ≤ a → a ≡ m + (a - m)
    split m a g = omega arith

-- "No other lane's bytes change."
pub part_other : (b : List ℕ) (j i : ℕ) (c : Image) → Inside b j → length c ≡ image_length → (i ≡ j → ⊥) → part (with_part b j c) i ≡ part b i
unfolding part
part_other b j i c h e f =
    bool_cases (ltb i j)
    (λ t.
    let l = ltb-true i j t in
    let w = with_length b j c (e ∙ sym (part_length b j h)) in
    front (image_length * j) (image_length * i) (with_part b j c) (omega (arith, w)) (omega (arith, l))
    ∙ ap (λ (y : List ℕ). take image_length (drop (image_length * i) y)) (before_stays b j c h e)
    ∙ sym (front (image_length * j) (image_length * i) b (omega arith) (omega (arith, l))))
    (λ t.
    let l = ltb-false i j t in
    let m : image_length * j + image_length ≤ image_length * i = later i j l f in
    back (image_length * j + image_length) (image_length * i) (with_part b j c) m
    ∙ ap (λ (y : List ℕ). take image_length (drop (image_length * i - (image_length * j + image_length)) y)) (after-stays b j c h e)
    ∙ sym (back (image_length * j + image_length) (image_length * i) b m))
  where
    later : (i j : ℕ) → j ≤ i → (i ≡ j → ⊥) → image_length * j + image_length ≤ image_length * i
    later i j l g = bool_cases (ltb j i) (λ t. let k = ltb-true j i t in omega (arith, k)) (λ t. let k = ltb-false j i t in absurd (g (omega (arith, k, l))))
