-- A list of moves, test by test: 22, and what a call with one answers.
use mathlib.Core.Path.{◌≡◌, refl, sym, ap, ◌∙◌}
use Prim.Native.Nat.{ℕ, ◌/◌, ◌%◌, ◌≤◌, ◌<◌}
use native.Mathlib.Omega.{arith}
use mathlib.Core.Bool.{Bool, true, false, cond, ◌&&◌, and-false}
use mathlib.Core.List.{List, [], ◌∷◌, ◌++◌}
use lib.ListN.{length}
use lib.Dec.{leb, ltb, eqb}
use Rattle.semantics.specs.Bytes.{entries, all_of}
use Rattle.semantics.specs.Plan.{Plan}
use Rattle.semantics.specs.Refusal.{unless, refusal}
use Rattle.semantics.specs.Rules.{plan_rules}
use Rattle.semantics.specs.Move.{Configuration, good, replay}
use Rattle.semantics.specs.Load.{max_moves, list_rules, stops_at, completes}
use Rattle.semantics.specs.Image.{Image, image, configuration_of, image_rules}
use Rattle.semantics.specs.Calls.{committed, cancelled, refused, outcome, unless_refused, handed_in, list, call_rules, performed, called}
use Rattle.semantics.proofs.Basics.{absurd_bool, eq-eqb}
use Rattle.semantics.proofs.Refusing.{numbered, none-refused}
use Rattle.semantics.proofs.LogEntries.{entries_long}
use Rattle.semantics.proofs.LawfulImage.{later-rules}
use Rattle.semantics.proofs.Loads.{list_sized, completes_all, stops_within}
use Rattle.walks.specs.Steps.{stops_from}
use Rattle.walks.proofs.WalkLaws.{stops_same, completes_is}

-- ---- 22

-- the number by its test
pub list-number : (l : List ℕ) (ok : Bool) → ok ≡ all_of (ltb 0 (length l) ∷ eqb (length l % 2) 0 ∷ leb (length l / 2) max_moves ∷ []) → refusal (list_rules l) ≡ cond ok 0 22
unfolding list_rules refusal unless
list-number l ok e = ap (λ (n : ℕ). cond (all_of (ltb 0 (length l) ∷ eqb (length l % 2) 0 ∷ leb n max_moves ∷ [])) 0 22) (entries_long l) ∙ ap (λ (b : Bool). cond b 0 22) (sym e)

-- past it there are 1 to 8 moves
past_22 : (l : List ℕ) → refusal (list_rules l) ≡ 0 → (0 < length (entries l)) × (length (entries l) ≤ max_moves)
unfolding list_rules numbered
past_22 l e = list_sized l (none-refused (list_rules l) refl e)

-- so what counts them is a byte
pub entries_few : (l : List ℕ) → refusal (list_rules l) ≡ 0 → length l / 2 < 256
entries_few l e = omega (arith, past_22 l e, entries_long l)

pub stop_few : (p : Plan) (c : Configuration) (l : List ℕ) → refusal (list_rules l) ≡ 0 → (n : ℕ) → n ≡ stops_from p 1 c (entries l) → n < 256
stop_few p c l e n s = omega (arith, s, stops_same p c (entries l), stops_within p c (entries l), past_22 l e)

-- ---- the call, past the refusals of plan and image

module _ (p : Plan) (b : Image) (l : List ℕ) (e : refusal (plan_rules p ++ image_rules p b) ≡ 0) where
  called-list : (n : ℕ) → refusal (list_rules l) ≡ n → called p b (list l) ≡ unless_refused n b (handed_in p b (entries l))
  unfolding called call_rules performed
  called-list n q = ap (λ (m : ℕ). unless_refused m b (handed_in p b (entries l))) (later-rules p b e (list_rules l) ∙ q)

  pub list_22 : refusal (list_rules l) ≡ 22 → called p b (list l) ≡ outcome (refused 22) b
  unfolding unless_refused
  list_22 q = called-list 22 q

  -- in the configuration that the image holds
  module _ (q : refusal (list_rules l) ≡ 0) (c : Configuration) (same : c ≡ configuration_of b) where
    handed : called p b (list l) ≡ cond (completes p c (entries l)) (outcome (committed (length (entries l))) (image p (replay p c (entries l)) 0)) (outcome (cancelled (stops_at p c (entries l))) b)
    unfolding unless_refused handed_in
    handed =
        called-list 0 q
        ∙ ap (λ (d : Configuration). cond (completes p d (entries l)) (outcome (committed (length (entries l))) (image p (replay p d (entries l)) 0)) (outcome (cancelled (stops_at p d (entries l))) b))
        (sym same)

    list-committed : completes p c (entries l) ≡ true → called p b (list l) ≡ outcome (committed (stops_at p c (entries l))) (image p (replay p c (entries l)) 0)
    list-committed t =
        handed ∙ rw t (ap (λ (n : ℕ). outcome (committed n) (image p (replay p c (entries l)) 0)) (sym (completes_all p c (entries l) t)))

    list-cancelled : completes p c (entries l) ≡ false → called p b (list l) ≡ outcome (cancelled (stops_at p c (entries l))) b
    list-cancelled t = handed ∙ rw t refl

    -- its walk stops at entry n
    pub list-stopped : (n : ℕ) → n ≡ stops_from p 1 c (entries l) → false ≡ eqb (stops_from p 1 c (entries l)) (length (entries l))
        → called p b (list l) ≡ outcome (cancelled n) b
    list-stopped n s f =
        let at : n ≡ stops_at p c (entries l) = s ∙ stops_same p c (entries l) in
        let t : eqb n (length (entries l)) ≡ false = ap (λ (m : ℕ). eqb m (length (entries l))) s ∙ sym f in
        let off : completes p c (entries l) ≡ false
        = sym (completes_is p c (entries l) n false at (λ h. absurd_bool (eq-eqb n (length (entries l)) h) t)) ∙ and-false (eqb n (length (entries l))) in
        list-cancelled off ∙ ap (λ (m : ℕ). outcome (cancelled m) b) (sym at)

    -- it goes to the end of the m entries, and ends good or not
    module _ (m : ℕ) (w : m ≡ length (entries l)) (s : length (entries l) ≡ stops_from p 1 c (entries l)) (g : Bool) (k : g ≡ good p (replay p c (entries l))) where
      at_end : m ≡ stops_at p c (entries l)
      at_end = w ∙ s ∙ stops_same p c (entries l)

      whole : completes p c (entries l) ≡ g
      whole =
          sym (completes_is p c (entries l) m g at_end (λ _. k)) ∙ ap (λ (x : Bool). x && g) (eq-eqb m (length (entries l)) w)

      pub list-low : g ≡ false → called p b (list l) ≡ outcome (cancelled m) b
      list-low z = list-cancelled (whole ∙ z) ∙ ap (λ (n : ℕ). outcome (cancelled n) b) (sym at_end)

      pub list-made : g ≡ true → called p b (list l) ≡ outcome (committed m) (image p (replay p c (entries l)) 0)
      list-made z = list-committed (whole ∙ z) ∙ ap (λ (n : ℕ). outcome (committed n) (image p (replay p c (entries l)) 0)) (sym at_end)
