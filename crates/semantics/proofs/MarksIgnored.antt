-- 02, job 3: settling "past 14 does not depend on the marks". Two images that differ in the marks alone, neither refused, get the same answer and are left the
-- same in every byte, marks included. 02, job 6, has it of a list too.
use mathlib.Core.Path.{◌≡◌, refl, sym, ap, ap₂, ◌∙◌}
use Prim.Native.Nat.{ℕ, ◌<◌}
use native.Mathlib.Omega.{arith}
use mathlib.Core.Bool.{true, false}
use mathlib.Core.List.{List, ◌++◌, append_assoc}
use lib.ListN.{length, take, drop, take-append-drop}
use lib.Seq.{drop-drop}
use lib.Dec.{ltb}
use Rattle.semantics.specs.Bytes.{entries, byte, u32, u64, le_bytes, some_below, bit, mask, table}
use Rattle.semantics.specs.Rules.{plan_rules}
use Rattle.semantics.specs.Run.{commits}
use Rattle.semantics.specs.Plan.{Plan, max_interactions, interactions}
use Rattle.semantics.specs.Move.{Configuration, enabled, safe_move, replay}
use Rattle.semantics.specs.Load.{list_rules, completes}
use Rattle.semantics.specs.Image.{Image, image_length, image, with_marks, marks_of, configuration_of, image_rules}
use Rattle.semantics.specs.Calls.{stalled, penned, Outcome, outcome, settled, handed_in, settle, list, call_rules, performed, called}
use Rattle.semantics.proofs.Basics.{bool_cases, absurd_bool, some-none, part-table}
use Rattle.semantics.proofs.Masks.{mask-none, mask_same, mask-bits}
use Rattle.semantics.proofs.Refusing.{all_kept}
use Rattle.semantics.proofs.RuleLists.{kept_append}
use Rattle.semantics.proofs.LawfulImage.{LawfulImage, lawful_image, marks_kept}
use Rattle.semantics.proofs.ImagesRead.{marked_same}
use Rattle.semantics.proofs.RefusedUnchanged.{Refused, called-performed}
use Rattle.semantics.proofs.RefusalConditions.{calling}
use Rattle.semantics.proofs.OneCall.{SameButMarks}
use Rattle.semantics.proofs.ExactAnswers.{unrefused_exactly}
use Rattle.semantics.proofs.ListExactly.{list-bytes}

-- the entries of an image are bytes, as a slice's are
abbrev pub Bytes : Image → Type 0
Bytes b = (k : ℕ) → byte b k < 256

-- no mark is set: the marks are 0
zero_marks : (m : ℕ) → m < 18446744073709551616 → ((i : ℕ) → i < max_interactions → bit m i ≡ false) → m ≡ 0
zero_marks m h none = sym (mask-bits max_interactions m h) ∙ mask_same max_interactions (λ i. false) (bit m) none ∙ mask-none max_interactions

module _ (b : Image) (long : length b ≡ image_length) (bs : Bytes b) where
  marks_small : marks_of b < 18446744073709551616
  unfolding marks_of u64 u32
  marks_small = omega (arith, bs 16, bs 17, bs 18, bs 19, bs 20, bs 21, bs 22, bs 23)

  -- marks that are 0 are written as they stand
  zero-written : marks_of b ≡ 0 → with_marks b 0 ≡ b
  unfolding with_marks
  zero-written z =
      append_assoc (take 16 b) (le_bytes 8 0) (drop 24 b)
      ∙ ap (λ (x : List ℕ). take 16 b ++ x) (ap (λ (x : List ℕ). x ++ drop 24 b) (sym zeros) ∙ ap (λ (x : List ℕ). take 8 (drop 16 b) ++ x) (sym (drop-drop 8 16 b)) ∙ take-append-drop 8 (drop 16 b))
      ∙ take-append-drop 16 b
    where
      zeros : take 8 (drop 16 b) ≡ le_bytes 8 0
      zeros =
          part-table 0 b 16 8 (rw long (omega arith))
          ∙ unfold marks_of u64 u32 table le_bytes in
          (let at_0 : byte b 16 ≡ 0 = omega (arith, z) in
          let at_1 : byte b 17 ≡ 0 = omega (arith, z) in
          let at_2 : byte b 18 ≡ 0 = omega (arith, z) in
          let at_3 : byte b 19 ≡ 0 = omega (arith, z) in
          let at_4 : byte b 20 ≡ 0 = omega (arith, z) in
          let at_5 : byte b 21 ≡ 0 = omega (arith, z) in
          let at_6 : byte b 22 ≡ 0 = omega (arith, z) in
          let at_7 : byte b 23 ≡ 0 = omega (arith, z) in
          rw (at_0, at_1, at_2, at_3, at_4, at_5, at_6, at_7) refl)

-- ---- other marks alone

module _ (b b' : Image) (same : SameButMarks b b') where
  -- written over, they are no longer told apart
  written_same : (m : ℕ) → with_marks b m ≡ with_marks b' m
  unfolding with_marks
  written_same m = ap₂ (λ (x y : List ℕ). (x ++ le_bytes 8 m) ++ y) same.before same.behind

  same_configuration : length b ≡ image_length → length b' ≡ image_length → configuration_of b ≡ configuration_of b'
  same_configuration e e' = sym (marked_same b 0 e) ∙ ap configuration_of (written_same 0) ∙ marked_same b' 0 e'

module _ (p : Plan) where
  unrefused_lawful : (b : Image) → ¬ Refused (called p b settle).answer → LawfulImage p b
  unfolding call_rules
  unrefused_lawful b f = lawful_image p b (all_kept (call_rules p b settle) ((unrefused_exactly p (calling b settle)).0 f))

  -- where nothing is enabled there is no mark
  unmarked : (b : Image) → LawfulImage p b → Bytes b → ((i : ℕ) → i < interactions p → enabled p (configuration_of b).state i ≡ false) → with_marks b 0 ≡ b
  unmarked b k bs none = zero-written b k.long bs (zero_marks (marks_of b) (marks_small b k.long bs) off)
    where
      off : (i : ℕ) → i < max_interactions → bit (marks_of b) i ≡ false
      off i l =
          bool_cases (bit (marks_of b) i)
          (λ t.
          let m = marks_kept p (configuration_of b) (marks_of b) k.marks i l t in
          absurd_bool m.is_enabled (none i m.number<))
          (λ t. t)

  module _ (b b' : Image) (same : SameButMarks b b') (k : LawfulImage p b) (k' : LawfulImage p b') (bs : Bytes b) (bs' : Bytes b') where
    held_same : configuration_of b ≡ configuration_of b'
    held_same = same_configuration b b' same k.long k'.long

    settled_alike : settled p b ≡ settled p b'
    unfolding settled
    settled_alike =
        let c : Configuration = configuration_of b' in
        bool_cases (ltb (safe_move p c) (interactions p)) (λ t. rw (held_same, t) refl)
        (λ t. bool_cases (some_below (interactions p) (enabled p c.state))
        (λ u. rw (held_same, t, u) (ap (outcome penned) (written_same b b' same (mask (interactions p) (enabled p c.state)))))
        (λ u.
        let none = some-none (interactions p) (enabled p c.state) u in
        rw (held_same, t, u) (ap (outcome stalled) (sym (unmarked b k bs (rw held_same none)) ∙ written_same b b' same 0 ∙ unmarked b' k' bs' none))))

  pub settling_alone : (b b' : Image) → SameButMarks b b' → Bytes b → Bytes b' → ¬ Refused (called p b settle).answer → ¬ Refused (called p b' settle).answer
      → called p b settle ≡ called p b' settle
  unfolding performed
  settling_alone b b' same bs bs' f f' =
      called-performed p b settle f ∙ settled_alike b b' same (unrefused_lawful b f) (unrefused_lawful b' f') bs bs' ∙ sym (called-performed p b' settle f')

  -- "Past 14, marks do not affect a list": two images that differ in the marks alone, neither refused, get the same answer, and where it is a commit the same bytes
  pub list_alone : (b b' : Image) (l : List ℕ) → SameButMarks b b' → ¬ Refused (called p b (list l)).answer → ¬ Refused (called p b' (list l)).answer
      → ((called p b (list l)).answer ≡ (called p b' (list l)).answer)
      × (commits (called p b (list l)).answer ≡ true → (called p b (list l)).image ≡ (called p b' (list l)).image)
  unfolding performed handed_in
  list_alone b b' l same f f' =
      let held = same_configuration b b' same (listed_long b l f) (listed_long b' l f') in
      let alike : (called p b (list l)).answer ≡ (called p b' (list l)).answer
      = ap (λ (o : Outcome). o.answer) (called-performed p b (list l) f) ∙ answered held ∙ sym (ap (λ (o : Outcome). o.answer) (called-performed p b' (list l) f')) in
      (alike, λ w. list-bytes p b l w ∙ ap (λ (c : Configuration). image p (replay p c (entries l)) 0) held ∙ sym (list-bytes p b' l (sym (ap commits alike) ∙ w)))
    where
      listed_long : (b : Image) (l : List ℕ) → ¬ Refused (called p b (list l)).answer → length b ≡ image_length
      listed_long b l f =
          let h = (unrefused_exactly p (calling b (list l))).0 f in
          (lawful_image p b (all_kept (plan_rules p ++ image_rules p b) (unfold call_rules in ((kept_append (plan_rules p ++ image_rules p b) (list_rules l)).0 h).0))).long

      answered : configuration_of b ≡ configuration_of b' → (handed_in p b (entries l)).answer ≡ (handed_in p b' (entries l)).answer
      answered held = rw held (bool_cases (completes p (configuration_of b') (entries l)) (λ t. rw t refl) (λ t. rw t refl))
