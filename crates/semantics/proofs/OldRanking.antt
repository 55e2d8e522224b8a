-- What the ranking of job 3 of 02 keeps of the one before it, for plans and images in use. The earlier definitions stand here by their meaning, and no call cites
-- them.
use mathlib.Core.Path.{◌≡◌, refl}
use Prim.Native.Nat.{ℕ, ◌<◌}
use mathlib.Core.Bool.{Bool, true, false, not, ◌&&◌}
use mathlib.Core.List.{List, [], ◌∷◌}
use lib.Dec.{ltb}
use Rattle.semantics.specs.Bytes.{all_of, implies, every, some_below, bit}
use Rattle.semantics.specs.Plan.{Plan, max_interactions, interactions, below}
use Rattle.semantics.specs.Code.{State}
use Rattle.semantics.specs.Move.{Configuration, enabled, after, good, may_commit}
use Rattle.semantics.specs.Image.{marks_ok}
use Rattle.semantics.specs.Run.{is_run}
use Rattle.semantics.proofs.Basics.{absurd_bool, not_yes, both_and, implies-at, each, all_of_lem, ltb-true, every-at, some_has}
use Rattle.semantics.proofs.Ranking.{commit_from}
use Rattle.semantics.proofs.LawfulImage.{marks_ok_lem}

-- "It is outranked when an enabled interaction lies above it, marked or not."
unfoldable pub outranked_before : Plan → State → ℕ → Bool
outranked_before p s i = some_below (interactions p) (λ j. below p i j && enabled p s j)

-- Enabled, not outranked and ending good.
unfoldable pub may_commit_before : Plan → Configuration → ℕ → Bool
may_commit_before p c i = all_of (enabled p c.state i ∷ not (outranked_before p c.state i) ∷ good p (after p c i) ∷ [])

-- 14: "a mark at or above I, or on an interaction that is not enabled, is outranked, or would end in a good state".
unfoldable pub marks_ok_before : Plan → Configuration → ℕ → Bool
marks_ok_before p c m =
    every max_interactions
    (λ i. implies (bit m i) (all_of (ltb i (interactions p) ∷ enabled p c.state i ∷ not (outranked_before p c.state i) ∷ not (good p (after p c i)) ∷ [])))

-- A run of the ranking before.
unfoldable pub is_run_before : Plan → Configuration → List ℕ → Bool
is_run_before p c [] = true
is_run_before p c (i ∷ is) = all_of (ltb i (interactions p) ∷ may_commit_before p c i ∷ is_run_before p (after p c i) is ∷ [])

-- nothing enabled lay above
none_above : (p : Plan) (s : State) (i j : ℕ) → outranked_before p s i ≡ false → j < interactions p → below p i j ≡ true → enabled p s j ≡ true → ⊥
unfolding outranked_before
none_above p s i j o l b on = absurd_bool (some_has (interactions p) (λ k. below p i k && enabled p s k) j l (both_and b on)) o

-- An image that passed 14 passes it.
pub marks_still_ok : (p : Plan) (c : Configuration) (m : ℕ) → marks_ok_before p c m ≡ true → marks_ok p c m ≡ true
unfolding marks_ok_before
marks_still_ok p c m e =
    marks_ok_lem p c m
    (λ i l b.
    let (n, (on, (top, (bad, _)))) = each _ (implies-at (bit m i) _ (every-at max_interactions _ e i l) b) in
    record {
      number< = ltb-true _ _ n;
      is_enabled = on;
      above = λ j h up e. absurd (none_above p c.state i j (not_yes _ top) h up e);
      ends_bad = not_yes _ bad;
    })

-- A move that might be committed may be.
pub commits-still : (p : Plan) (c : Configuration) (i : ℕ) → may_commit_before p c i ≡ true → may_commit p c i ≡ true
unfolding may_commit_before
commits-still p c i e =
    let (on, (top, (g, _))) = each _ e in commit_from p c i on g (λ j h up e. absurd (none_above p c.state i j (not_yes _ top) h up e))

-- A run is a run still.
pub run-still : (p : Plan) (c : Configuration) (is : List ℕ) → is_run_before p c is ≡ true → is_run p c is ≡ true
unfolding is_run_before is_run
run-still p c [] e = refl
run-still p c (i ∷ is) e = let (n, (m, (rest, _))) = each _ e in all_of_lem _ (n, (commits-still p c i m, (run-still p (after p c i) is rest, tt)))
