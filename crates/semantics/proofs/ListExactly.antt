-- Each answer to a list exactly when its condition holds, on any plan and any image (02, job 6), and the bytes after it.
use mathlib.Core.Path.{◌≡◌, refl, sym, ap, ◌∙◌, subst}
use mathlib.Core.Logic.Iff
use mathlib.Core.Logic.{◌↔◌}
use Prim.Native.Nat.{ℕ, zero, suc, ◌≤◌, ◌<◌, zero-le, suc-le-suc}
use native.Mathlib.Nat.{le_refl, le_trans, le_antisymm, le_of_suc-le-suc, not-suc-le-zero, lt_irrefl}
use mathlib.Core.Bool.{true, false}
use mathlib.Core.List.{List, [], ◌∷◌}
use lib.ListN.{length, get_or, take}
use lib.Dec.{ltb}
use Rattle.semantics.specs.Bytes.{entries}
use Rattle.semantics.specs.Plan.{Plan, interactions, below}
use Rattle.semantics.specs.Move.{Configuration, enabled, after, good, may_commit, replay}
use Rattle.semantics.specs.Load.{entry_allowed, stops_at, completes}
use Rattle.semantics.specs.Image.{Image, image, configuration_of}
use Rattle.semantics.specs.Calls.{Answer, committed, cancelled, Outcome, list, call_rules, called}
use Rattle.semantics.specs.Run.{commits}
use Rattle.semantics.proofs.Basics.{bool_cases, absurd_bool, ltb-true, ltb-false, eqb-false}
use Rattle.semantics.proofs.RuleLists.{Kept}
use Rattle.semantics.proofs.Oracles.{verdict_of}
use Rattle.semantics.proofs.Loads.{EntryAllowed, allowed_exactly, completes_all, completes-good, completes-from, one_entry_exactly}
use Rattle.semantics.proofs.Performed.{Performs, completing, stopping, performs, other_kind}
use Rattle.semantics.proofs.ExactAnswers.{call_exactly, bytes_after, bytes_after_lem}

-- ---- where a list stops

-- entry n is allowed in the state that the entries before it left
abbrev pub AllowedAt : Plan → Configuration → List ℕ → ℕ → Type 0
AllowedAt p c is n = EntryAllowed p (replay p c (take n is)) (get_or is n 0)

-- "the index, from 0, of the first entry not allowed, or the number of entries": each entry before k is allowed, and k is none of them
pub record StopsAt (p : Plan) (c : Configuration) (is : List ℕ) (k : ℕ) : Type 0 where
  pub index≤ : k ≤ length is
  pub before : (n : ℕ) → n < k → AllowedAt p c is n
  pub here : k < length is → ¬ AllowedAt p c is k

module _ (p : Plan) where
  -- an allowed entry stands before the others
  one_more : (c : Configuration) (i : ℕ) (is : List ℕ) (k : ℕ) → entry_allowed p c i ≡ true → StopsAt p (after p c i) is k → StopsAt p c (i ∷ is) (suc k)
  unfolding replay
  one_more c i is k a s = record { index≤ = suc-le-suc s.index≤; before = earlier; here = λ l. s.here (le_of_suc-le-suc l) }
    where
      earlier : (n : ℕ) → n < suc k → AllowedAt p c (i ∷ is) n
      earlier zero l = (allowed_exactly p c i).0 a
      earlier (suc n) l = s.before n (le_of_suc-le-suc l)

  -- at an entry that is not allowed the list stops
  at_once : (c : Configuration) (i : ℕ) (is : List ℕ) → entry_allowed p c i ≡ false → StopsAt p c (i ∷ is) 0
  unfolding replay
  at_once c i is a = record { index≤ = zero-le; before = λ n l. absurd (not-suc-le-zero l); here = λ l e. absurd_bool ((allowed_exactly p c i).1 e) a }

  stops : (c : Configuration) (is : List ℕ) → StopsAt p c is (stops_at p c is)
  unfolding stops_at
  stops c [] = record { index≤ = zero-le; before = λ n l. absurd (not-suc-le-zero l); here = λ l. absurd (not-suc-le-zero l) }
  stops c (i ∷ is) =
      bool_cases (entry_allowed p c i) (λ a. rw a (one_more c i is (stops_at p (after p c i) is) a (stops (after p c i) is))) (λ a. rw a (at_once c i is a))

  -- there is one such index
  only : (c : Configuration) (is : List ℕ) (j k : ℕ) → StopsAt p c is j → StopsAt p c is k → j ≤ k
  only c is j k s t =
      bool_cases (ltb k j) (λ l. let h : k < j = ltb-true k j l in absurd (t.here (le_trans h s.index≤) (s.before k h))) (λ l. ltb-false k j l)

  pub stops_exactly : (c : Configuration) (is : List ℕ) (k : ℕ) → stops_at p c is ≡ k ↔ StopsAt p c is k
  stops_exactly c is k = (
    (λ e. subst (StopsAt p c is) e (stops c is)),
    (λ s. le_antisymm (only c is (stops_at p c is) k (stops c is) s) (only c is k (stops_at p c is) s (stops c is))),
  )

  -- where each entry is allowed it is the number of entries
  all_allowed : (c : Configuration) (is : List ℕ) → ((n : ℕ) → n < length is → AllowedAt p c is n) → StopsAt p c is (length is)
  all_allowed c is a = record { index≤ = le_refl (length is); before = a; here = λ l. absurd (lt_irrefl (length is) l) }

  -- "all are allowed in turn and the last verdict is good"
  pub completes_exactly : (c : Configuration) (is : List ℕ)
      → completes p c is ≡ true ↔ ((n : ℕ) → n < length is → AllowedAt p c is n) × (good p (replay p c is) ≡ true)
  completes_exactly c is = (
    (λ e. let s = (stops_exactly c is (length is)).0 (completes_all p c is e) in (s.before, completes-good p c is e)),
    (λ (a, g). completes-from p c is ((stops_exactly c is (length is)).1 (all_allowed c is a)) g),
  )

-- ---- the answers

module _ (p : Plan) (b : Image) (l : List ℕ) where
  list-commits : (n : ℕ) {o : Outcome} → Performs p b (list l) o
      → o.answer ≡ committed n ↔ (completes p (configuration_of b) (entries l) ≡ true) × (n ≡ length (entries l))
  list-commits n (completing t) = (λ e. (t, sym (ap (λ (a : Answer). a.number) e)), λ (_, e). ap committed (sym e))
  list-commits n (stopping t) = (λ e. other_kind e refl, λ (e, _). absurd_bool e t)

  list_cancels : (n : ℕ) {o : Outcome} → Performs p b (list l) o
      → o.answer ≡ cancelled n ↔ (completes p (configuration_of b) (entries l) ≡ false) × StopsAt p (configuration_of b) (entries l) n
  list_cancels n (completing t) = (λ e. other_kind e refl, λ (e, _). absurd_bool t e)
  list_cancels n (stopping t) = (
    (λ e. (t, (stops_exactly p (configuration_of b) (entries l) n).0 (ap (λ (a : Answer). a.number) e))),
    (λ (_, s). ap cancelled ((stops_exactly p (configuration_of b) (entries l) n).1 s)),
  )

  -- "the list is committed whole .. and the answer is kind 1 with the number of entries", and at no other time
  pub list_committed_exactly : (n : ℕ)
      → (called p b (list l)).answer ≡ committed n
      ↔ Kept (call_rules p b (list l)) × ((completes p (configuration_of b) (entries l) ≡ true) × (n ≡ length (entries l)))
  list_committed_exactly n = call_exactly p b (list l) (committed n) (eqb-false 1 5 refl) (list-commits n (performs p b (list l)))

  -- "Otherwise .. the answer is kind 2 with the index, from 0, of the first entry not allowed, or the number of entries when only the end was not good"
  pub list_cancelled_exactly : (n : ℕ)
      → (called p b (list l)).answer ≡ cancelled n
      ↔ Kept (call_rules p b (list l)) × ((completes p (configuration_of b) (entries l) ≡ false) × StopsAt p (configuration_of b) (entries l) n)
  list_cancelled_exactly n = call_exactly p b (list l) (cancelled n) (eqb-false 2 5 refl) (list_cancels n (performs p b (list l)))

  -- so with the number of entries only the end was not good
  pub end_not_good : Kept (call_rules p b (list l))
      → (called p b (list l)).answer ≡ cancelled (length (entries l))
      ↔ ((n : ℕ) → n < length (entries l) → AllowedAt p (configuration_of b) (entries l) n) × (good p (replay p (configuration_of b) (entries l)) ≡ false)
  end_not_good h =
      let c : Configuration = configuration_of b in
      let is : List ℕ = entries l in (
        (λ e.
            let (_, (t, s)) = (list_cancelled_exactly (length is)).0 e in
            (s.before, bool_cases (good p (replay p c is)) (λ g. absurd_bool ((completes_exactly p c is).1 (s.before, g)) t) (λ g. g))),
        (λ (a, g).
            (list_cancelled_exactly (length is)).1 (h, (bool_cases (completes p c is) (λ t. absurd_bool (completes-good p c is t) g) (λ t. t), all_allowed p c is a))),
      )

  -- 02, job 6: a list of one entry is committed exactly where settling's ranking allows its move and no enabled interaction above it leads to verdict 1
  pub one_entry_list : (i : ℕ) → entries l ≡ i ∷ []
      → (called p b (list l)).answer ≡ committed 1
      ↔ Kept (call_rules p b (list l))
      × ((i < interactions p) × (may_commit p (configuration_of b) i ≡ true)
      × ((j : ℕ) → j < interactions p → below p i j ≡ true → enabled p (configuration_of b).state j ≡ true → verdict_of p (after p (configuration_of b) j) ≡ 1 → ⊥))
  one_entry_list i e =
      let c : Configuration = configuration_of b in
      let one : 1 ≡ length (entries l) = sym (ap length e) in
      Iff.trans (list_committed_exactly 1)
      (Iff.and Iff.rfl
      (Iff.trans
      ((λ (t, _). subst (λ (is : List ℕ). completes p c is ≡ true) e t), λ t. (subst (λ (is : List ℕ). completes p c is ≡ true) (sym e) t, one))
      (one_entry_exactly p c i)))

  -- ---- the bytes

  -- a committed list leaves the state after all its entries, and no marks
  pub list-bytes : commits (called p b (list l)).answer ≡ true → (called p b (list l)).image ≡ image p (replay p (configuration_of b) (entries l)) 0
  unfolding bytes_after
  list-bytes e = bytes_after_lem p b (list l) ∙ rw e refl

  -- "The restore rule now speaks of the whole list": any other, refused or not, leaves every byte
  pub list_restores : commits (called p b (list l)).answer ≡ false → (called p b (list l)).image ≡ b
  unfolding bytes_after
  list_restores e = bytes_after_lem p b (list l) ∙ rw e refl
