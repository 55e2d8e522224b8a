-- The outcomes of a call that is not refused, and where each comes.
use mathlib.Core.Path.{◌≡◌, ap}
use Prim.Native.Nat.{ℕ, ◌<◌}
use mathlib.Core.Bool.{true, false}
use mathlib.Core.List.{List}
use lib.ListN.{length}
use lib.Dec.{ltb, eqb}
use Rattle.semantics.specs.Bytes.{entries, some_below, mask, with_bit}
use Rattle.semantics.specs.Plan.{Plan, interactions}
use Rattle.semantics.specs.Move.{Configuration, enabled, after, good, safe_move, replay}
use Rattle.semantics.specs.Load.{stops_at, completes}
use Rattle.semantics.specs.Image.{Image, image, with_marks, marks_of, configuration_of}
use Rattle.semantics.specs.Calls.{Answer, offers, committed, cancelled, stalled, penned, Outcome, outcome, offered_mask, tried, settled, handed_in, Call, offered, try, settle, list, performed}
use Rattle.semantics.proofs.Basics.{bool_cases, ltb-true, eqb-false, some-none}

pub data Performs (p : Plan) (b : Image) : Call → Outcome → Type 0 where
  offering : Performs p b offered (outcome (offers (offered_mask p b)) b)
  committing : {i : ℕ} → good p (after p (configuration_of b) i) ≡ true
      → Performs p b (try i) (outcome (committed i) (image p (after p (configuration_of b) i) 0))
  cancelling : {i : ℕ} → good p (after p (configuration_of b) i) ≡ false
      → Performs p b (try i) (outcome (cancelled i) (with_marks b (with_bit (marks_of b) i)))
  settling : safe_move p (configuration_of b) < interactions p
      → Performs p b settle (outcome (committed (safe_move p (configuration_of b))) (image p (after p (configuration_of b) (safe_move p (configuration_of b))) 0))
  penning : ltb (safe_move p (configuration_of b)) (interactions p) ≡ false → some_below (interactions p) (enabled p (configuration_of b).state) ≡ true
      → Performs p b settle (outcome penned (with_marks b (mask (interactions p) (enabled p (configuration_of b).state))))
  stalling : ((i : ℕ) → i < interactions p → enabled p (configuration_of b).state i ≡ false) → Performs p b settle (outcome stalled b)
  completing : {l : List ℕ} → completes p (configuration_of b) (entries l) ≡ true
      → Performs p b (list l) (outcome (committed (length (entries l))) (image p (replay p (configuration_of b) (entries l)) 0))
  stopping : {l : List ℕ} → completes p (configuration_of b) (entries l) ≡ false
      → Performs p b (list l) (outcome (cancelled (stops_at p (configuration_of b) (entries l))) b)

pub performs : (p : Plan) (b : Image) (k : Call) → Performs p b k (performed p b k)
unfolding performed tried settled handed_in
performs p b offered = offering
performs p b (try i) = bool_cases (good p (after p (configuration_of b) i)) (λ g. rw g (committing g)) (λ g. rw g (cancelling g))
performs p b settle =
    let c : Configuration = configuration_of b in
    bool_cases (ltb (safe_move p c) (interactions p)) (λ t. rw t (settling (ltb-true _ _ t)))
    (λ t. bool_cases (some_below (interactions p) (enabled p c.state)) (λ u. rw (t, u) (penning t u))
    (λ u. rw (t, u) (stalling (some-none (interactions p) (enabled p c.state) u))))
performs p b (list l) = bool_cases (completes p (configuration_of b) (entries l)) (λ t. rw t (completing t)) (λ t. rw t (stopping t))

-- Answers of two kinds differ.
pub other_kind {ℓ} : {X : Type ℓ} {a c : Answer} → a ≡ c → eqb a.kind c.kind ≡ false → X
other_kind e d = absurd (eqb-false _ _ d (ap (λ (a : Answer). a.kind) e))
