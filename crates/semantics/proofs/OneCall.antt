-- 01's sentences on one call that is not refused, as laws of what it answers and leaves; and of the book's turn.
use mathlib.Core.Path.{◌≡◌, refl, sym, ap, ◌∙◌, subst}
use mathlib.Core.Logic.{◌↔◌}
use Prim.Native.Nat.{ℕ, ◌+◌, ◌≤◌, ◌<◌}
use native.Mathlib.Nat.{add_assoc}
use native.Mathlib.Omega.{arith}
use mathlib.Core.Bool.{true, false, not, ◌||◌}
use mathlib.Core.List.{List, [], ◌∷◌, ◌++◌, append_assoc}
use lib.ListN.{length, take, drop, length-append}
use lib.Seq.{take_at, drop_at, length-take-le, get_or-take}
use lib.Dec.{eqb}
use Rattle.semantics.specs.Bytes.{byte, u64, le_bytes, all_of, bit, mask, with_bit}
use Rattle.semantics.specs.Plan.{Plan, max_oracles, interactions}
use Rattle.semantics.specs.Move.{enabled, outranked, eligible, after, good, safe_move}
use Rattle.semantics.specs.Image.{Image, image_length, oracles_place, image, with_marks, marks_of, configuration_of}
use Rattle.semantics.specs.Calls.{committed, cancelled, outcome, offered_mask, tried, settled, offered, try, settle, performed}
use Rattle.semantics.specs.Book.{Book, lane, book_tried}
use Rattle.semantics.proofs.Basics.{not_yes, each, all_of_lem, lt-ltb}
use Rattle.semantics.proofs.Ranking.{eligible-enabled, eligible-top, eligible-from}
use Rattle.semantics.proofs.Masks.{bit_mask, mask_lt, length-le_bytes, u64_back}
use Rattle.semantics.proofs.Images.{u32_past}

-- ---- other marks

-- two images are the same but for the marks, bytes 16 to 23
pub record SameButMarks (a b : Image) : Type 0 where
  pub before : take 16 a ≡ take 16 b
  pub behind : drop 24 a ≡ drop 24 b

same_before : {a b : Image} → SameButMarks a b → (k : ℕ) → k < 16 → byte a k ≡ byte b k
same_before {a} {b} s k l = sym (get_or-take 16 a k 0 l) ∙ ap (λ (x : Image). byte x k) s.before ∙ get_or-take 16 b k 0 l

u64_past : (xs ys : List ℕ) (n k : ℕ) → length xs ≡ n → u64 (xs ++ ys) (n + k) ≡ u64 ys k
unfolding u64
u64_past xs ys n k e = rw (add_assoc n k 4, u32_past xs ys n k e, u32_past xs ys n (k + 4) e)

module _ (b : Image) (m : ℕ) (e : length b ≡ image_length) where
  first_long : length (take 16 b) ≡ 16
  first_long = length-take-le 16 b (subst (λ (k : ℕ). 16 ≤ k) (sym e) (omega arith))

  pub marks_written : m < 18446744073709551616 → marks_of (with_marks b m) ≡ m
  unfolding marks_of with_marks
  marks_written l =
      ap (λ (x : List ℕ). u64 x 16) (append_assoc (take 16 b) (le_bytes 8 m) (drop 24 b))
      ∙ u64_past (take 16 b) (le_bytes 8 m ++ drop 24 b) 16 0 first_long
      ∙ u64_back m (drop 24 b) l

  pub others_same : SameButMarks (with_marks b m) b
  unfolding with_marks
  others_same =
      record {
        before = ap (take 16) (append_assoc (take 16 b) (le_bytes 8 m) (drop 24 b)) ∙ take_at (take 16 b) (le_bytes 8 m ++ drop 24 b) 16 first_long;
        behind = drop_at (take 16 b ++ le_bytes 8 m) (drop 24 b) 24 (length-append (take 16 b) (le_bytes 8 m) ∙ rw (first_long, length-le_bytes 8 m) refl);
      }

-- "its mark is set and no other byte differs": b' is b with one mark more
pub record OneMarkMore (b b' : Image) (i : ℕ) : Type 0 where
  pub marks : (j : ℕ) → j < 64 → bit (marks_of b') j ≡ (bit (marks_of b) j || eqb j i)
  pub others : SameButMarks b' b

-- ---- the calls

module _ (p : Plan) (b : Image) where
  -- "Offered means enabled, unoutranked, unmarked. The offered answer is a 64-bit number with bit i for interaction i."
  pub offered_means : (i : ℕ) → i < interactions p
      → bit (performed p b offered).answer.bits i ≡ true
      ↔ ((enabled p (configuration_of b).state i ≡ true) × (outranked p (configuration_of b).state (bit (marks_of b)) i ≡ false) × (bit (marks_of b) i ≡ false))
  unfolding performed offered_mask
  offered_means i l =
      let s = (configuration_of b).state in
      let m = bit (marks_of b) in
      let is_bit = bit_mask (interactions p) (λ j. all_of (eligible p s m j ∷ not (m j) ∷ [])) i l in (
        (λ h. let (e, (u, _)) = each _ (sym is_bit ∙ h) in (eligible-enabled p s m i e, eligible-top p s m i e, not_yes (m i) u)),
        (λ (e, o, u). is_bit ∙ all_of_lem _ (eligible-from p s m i e o, (ap not u, tt))),
      )

  -- "A good move is committed: new state, new oracle state, marks cleared."
  pub good-committed : (i : ℕ) → good p (after p (configuration_of b) i) ≡ true
      → performed p b (try i) ≡ outcome (committed i) (image p (after p (configuration_of b) i) 0)
  unfolding performed tried
  good-committed i g = rw g refl

  -- "The cancel and restore rule now covers all four" (02, job 1): a cancelled move leaves each oracle's byte as it was.
  pub oracles_restored : (i n : ℕ) → length b ≡ image_length → good p (after p (configuration_of b) i) ≡ false → n < max_oracles
      → byte (performed p b (try i)).image (oracles_place + n) ≡ byte b (oracles_place + n)
  unfolding performed tried
  oracles_restored i n e g l = rw g (same_before (others_same b _ e) (oracles_place + n) (omega arith))

  -- "A bad one is cancelled: its mark is set and no other byte differs." Nor does another mark.
  pub bad_cancelled : (i : ℕ) → length b ≡ image_length → good p (after p (configuration_of b) i) ≡ false
      → ((performed p b (try i)).answer ≡ cancelled i) × OneMarkMore b (performed p b (try i)).image i
  unfolding performed tried with_bit
  bad_cancelled i e g =
      let m : ℕ = mask 64 (λ j. bit (marks_of b) j || eqb j i) in (
        rw g refl,
        record {
          marks = λ j l. rw (g, marks_written b m e (mask_lt 64 (λ k. bit (marks_of b) k || eqb k i))) (bit_mask 64 (λ k. bit (marks_of b) k || eqb k i) j l);
          others = rw g (others_same b m e);
        },
      )

  -- "Settling commits the lowest-numbered move that is enabled, good, and has no enabled good move above it."
  pub safe-committed : safe_move p (configuration_of b) < interactions p
      → performed p b settle ≡ outcome (committed (safe_move p (configuration_of b))) (image p (after p (configuration_of b) (safe_move p (configuration_of b))) 0)
  unfolding performed settled
  safe-committed l = rw (lt-ltb _ _ l) refl

-- ---- the book

-- "any other is crossed off", beside those that are
pub bad_crossed : (p : Plan) (k : Book) (i : ℕ) → good p (after p (lane p k) i) ≡ false
    → (j : ℕ) → (book_tried p k i).book.crossed j ≡ (k.crossed j || eqb j i)
unfolding book_tried
bad_crossed p k i g j = rw g refl
