-- What the buffer's front has is what the input lost: after a read, that of before and what the read gave.
use Rattle.std.proofs.Common.{◌≡◌, ℕ, ◌+◌, ◌≤◌, List, ◌++◌, rules, length, take, sym, ap, subst, ◌∙◌, le_refl, drop_at, length-take-le}
use Rattle.std.proofs.lemmas.Slice.{take-put_mid_below}
use Rattle.std.specs.Io.KnownBytes.{Consumes}
use Rattle.std.proofs.KnownBytes.{Consumes-trans}
use borrow.Rule.Slice.PartMut.{put_mid, post_of}
use lib.Seq.{take-add, take-append-le}
use Rattle.yard_text.proofs.reading.read_up_to.Goals as goal

take_split : (a n k : ℕ) (xs ys : List ℕ) → a ≤ length xs → n ≤ length ys → take a xs ++ take n ys ≡ take (a + n) (put_mid a k xs ys)
take_split a n k xs ys within fits =
    let after = post_of a k xs in
    let new = put_mid a k xs ys in
    let front = take-put_mid_below _ _ _ _ _ (le_refl _) within in
    let rest = ap (take n) (drop_at (take a xs) (ys ++ after) a (length-take-le a xs within)) ∙ take-append-le n ys after fits in
    ap (λ l. l ++ take n ys) (sym front) ∙ ap (λ l. take a new ++ l) (sym rest) ∙ sym (take-add a n new)

pub loop-preserved : goal.loop-preserved
loop-preserved g c =
    (search rules, subst (Consumes _ _) (take_split _ _ _ _ _ c.loop.invariant.0 c.in-Ok.ensures.bound.0) (Consumes-trans _ _ _ _ _ c.loop.invariant.1 c.in-Ok.ensures.bytes.0))
