-- A walk over several moves: what is left of it from entry k on, and what a log and a list say of where it stops.
use mathlib.Core.Path.{◌≡◌, refl, sym, ap, ap₂, ◌∙◌}
use Prim.Native.Nat.{ℕ, suc, ◌+◌, ◌*◌, ◌/◌, ◌<◌}
use native.Mathlib.Numerals.{add-one}
use native.Mathlib.Omega.{arith}
use mathlib.Core.Bool.{Bool, true, false, cond, ◌&&◌}
use mathlib.Core.List.{List, [], ◌∷◌}
use lib.ListN.{length, get_or, take, drop}
use lib.Seq.{take-suc}
use lib.Dec.{eqb}
use Rattle.semantics.specs.Bytes.{entries, u16}
use Rattle.semantics.specs.Plan.{Plan}
use Rattle.semantics.specs.Move.{Configuration, after, good, replay}
use Rattle.semantics.specs.Load.{stops_at, completes}
use Rattle.semantics.specs.Log.{cause_from, passes, cause, right, wrong, walked}
use Rattle.semantics.specs.Calls.{accepted}
use Rattle.semantics.proofs.Basics.{bool_cases, eqb-true, eq-eqb, ne_eqb, get_or-table}
use Rattle.semantics.proofs.Loads.{replay_append, replay_one}
use Rattle.semantics.proofs.LogEntries.{entries_from, entries_end, entries_long}
use Rattle.semantics.proofs.LogWalk.{walked_on, walked_stops}
use Rattle.words.proofs.TestLaws.{first_fails, second_says}
use Rattle.walks.specs.Steps.{stops_from, stop_cause}
use Rattle.walks.proofs.StepLaws.{allowed-passes}

-- ---- one entry more

module _ (p : Plan) (v : ℕ) (c : Configuration) (i : ℕ) (is : List ℕ) where
  stops_later : passes p v c i ≡ true → stops_from p v c (i ∷ is) ≡ suc (stops_from p v (after p c i) is)
  unfolding stops_from
  stops_later a = rw a refl

  stops_here : passes p v c i ≡ false → stops_from p v c (i ∷ is) ≡ 0
  unfolding stops_from
  stops_here a = rw a refl

  caused_later : passes p v c i ≡ true → stop_cause p v c (i ∷ is) ≡ stop_cause p v (after p c i) is
  unfolding stop_cause
  caused_later a = rw a refl

  caused_here : passes p v c i ≡ false → stop_cause p v c (i ∷ is) ≡ cause_from p v c i
  unfolding stop_cause
  caused_here a = rw a refl

-- ---- from entry k on

-- A walk over the entries of l that began in the configuration d is in c at entry k: all stops k entries later than what is left does, for the same cause, and ends
-- where that does.
pub record At (p : Plan) (v : ℕ) (d : Configuration) (l : List ℕ) (c : Configuration) (k : ℕ) : Type 0 where
  pub stops : stops_from p v d (entries l) ≡ k + stops_from p v c (drop k (entries l))
  pub causes : stop_cause p v d (entries l) ≡ stop_cause p v c (drop k (entries l))
  pub ends : replay p d (entries l) ≡ replay p c (drop k (entries l))

pub at-start : (p : Plan) (v : ℕ) (d : Configuration) (l : List ℕ) → At p v d l d 0
at-start p v d l = record { stops = omega arith; causes = refl; ends = refl }

module _ (p : Plan) (v : ℕ) (d : Configuration) (l : List ℕ) (c : Configuration) (k : ℕ) (w : At p v d l c k) where
  module _ (i : ℕ) (h : k < length l / 2) (e : i ≡ u16 l (2 * k)) where
    here : drop k (entries l) ≡ i ∷ drop (suc k) (entries l)
    here = entries_from l k h ∙ ap (λ (j : ℕ). j ∷ drop (suc k) (entries l)) (sym e)

    -- an entry that passes
    pub at_next : (n : Configuration) → true ≡ passes p v c i → n ≡ after p c i → At p v d l n (k + 1)
    unfolding replay
    at_next n a q =
        rw (q, add-one)
        (let rest : List ℕ = drop (suc k) (entries l) in
        let on : stops_from p v c (drop k (entries l)) ≡ suc (stops_from p v (after p c i) rest) = ap (stops_from p v c) here ∙ stops_later p v c i rest (sym a) in
        record {
          stops = omega (arith, w.stops, on);
          causes = w.causes ∙ ap (stop_cause p v c) here ∙ caused_later p v c i rest (sym a);
          ends = w.ends ∙ ap (replay p c) here;
        })

    -- one that does not
    pub at-stop : (m : ℕ) → false ≡ passes p v c i → m ≡ cause_from p v c i
        → (false ≡ eqb (stops_from p v d (entries l)) (length (entries l))) × (k ≡ stops_from p v d (entries l)) × (m ≡ stop_cause p v d (entries l))
    at-stop m a q =
        let rest : List ℕ = drop (suc k) (entries l) in
        let none : stops_from p v c (drop k (entries l)) ≡ 0 = ap (stops_from p v c) here ∙ stops_here p v c i rest (sym a) in
        let at : k ≡ stops_from p v d (entries l) = omega (arith, w.stops, none) in (
          sym (ne_eqb _ _ (λ z. omega (arith, h, at, z, entries_long l))),
          at,
          q ∙ sym (w.causes ∙ ap (stop_cause p v c) here ∙ caused_here p v c i rest (sym a)),
        )

  -- no entry is left
  pub at_end : k ≡ length l / 2
      → (true ≡ eqb (stops_from p v d (entries l)) (length (entries l))) × (length (entries l) ≡ stops_from p v d (entries l)) × (0 ≡ stop_cause p v d (entries l))
  unfolding stops_from stop_cause
  at_end h =
      let past : drop k (entries l) ≡ [] = entries_end l k (omega arith) in
      let none : stops_from p v c (drop k (entries l)) ≡ 0 = ap (stops_from p v c) past in
      let at : length (entries l) ≡ stops_from p v d (entries l) = omega (arith, h, w.stops, none, entries_long l) in
      (sym (eq-eqb _ _ (sym at)), at, sym (w.causes ∙ ap (stop_cause p v c) past))

  pub at_end_in : k ≡ length l / 2 → c ≡ replay p d (entries l)
  unfolding replay
  at_end_in h = sym (w.ends ∙ ap (replay p c) (entries_end l k (omega arith)))

-- The same, and c is where the k entries before lead.
pub record AtSoFar (p : Plan) (v : ℕ) (d : Configuration) (l : List ℕ) (c : Configuration) (k : ℕ) : Type 0 where
  pub at : At p v d l c k
  pub so_far : c ≡ replay p d (take k (entries l))

pub so_far_start : (p : Plan) (v : ℕ) (d : Configuration) (l : List ℕ) → AtSoFar p v d l d 0
unfolding replay
so_far_start p v d l = record { at = at-start p v d l; so_far = refl }

module _ (p : Plan) (v : ℕ) (d : Configuration) (l : List ℕ) (c : Configuration) (k : ℕ) (w : AtSoFar p v d l c k) (i : ℕ) (h : k < length l / 2) (e : i ≡ u16 l (2 * k)) where
  held : get_or (entries l) k 0 ≡ i
  unfolding entries
  held = get_or-table (length l / 2) (λ j. u16 l (2 * j)) 0 k h ∙ sym e

  one_more : after p c i ≡ replay p d (take (suc k) (entries l))
  one_more =
      let x : ℕ = get_or (entries l) k 0 in
      sym
      (ap (replay p d) (take-suc (entries l) k 0 (omega (arith, h, entries_long l)))
      ∙ replay_append p d (take k (entries l)) (x ∷ [])
      ∙ ap (λ (y : Configuration). replay p y (x ∷ [])) (sym w.so_far)
      ∙ replay_one p c x
      ∙ ap (after p c) held)

  -- an entry that passes
  pub so_far_next : (n : Configuration) → true ≡ passes p v c i → n ≡ after p c i → AtSoFar p v d l n (k + 1)
  so_far_next n a q =
      record {
        at = at_next p v d l c k w.at i h e n a q;
        so_far = q ∙ one_more ∙ ap (λ (j : ℕ). replay p d (take j (entries l))) (sym (add-one k));
      }

-- ---- of a log

module _ (p : Plan) where
  -- a walk that does not stop is accepted
  pub walked_whole : (c : Configuration) (k : ℕ) (is : List ℕ) → stops_from p 2 c is ≡ length is → walked p c k is ≡ accepted
  unfolding right
  walked_whole c k [] e = unfold walked in refl
  walked_whole c k (i ∷ is) e =
      bool_cases (passes p 2 c i)
      (λ a. let on = stops_later p 2 c i is a in walked_on p c k i is a ∙ walked_whole (after p c i) (suc k) is (omega (arith, on, e)))
      (λ a. let none = stops_here p 2 c i is a in absurd (omega (arith, none, e)))

  -- one that does is wrong there
  pub walked_short : (c : Configuration) (k : ℕ) (is : List ℕ) → (stops_from p 2 c is ≡ length is → ⊥)
      → walked p c k is ≡ wrong (stop_cause p 2 c is) (k + stops_from p 2 c is)
  unfolding right cause
  walked_short c k [] f = absurd (f (unfold stops_from in refl))
  walked_short c k (i ∷ is) f =
      bool_cases (passes p 2 c i)
      (λ a.
      let on = stops_later p 2 c i is a in
      let far : suc k + stops_from p 2 (after p c i) is ≡ k + stops_from p 2 c (i ∷ is) = omega (arith, on) in
      walked_on p c k i is a ∙ walked_short (after p c i) (suc k) is (λ e. f (on ∙ ap suc e))
      ∙ ap₂ wrong (sym (caused_later p 2 c i is a)) far)
      (λ a.
      let none = stops_here p 2 c i is a in
      let near : k ≡ k + stops_from p 2 c (i ∷ is) = omega (arith, none) in
      walked_stops p c k i is a ∙ ap₂ wrong (sym (caused_here p 2 c i is a)) near)

-- ---- of a list

module _ (p : Plan) where
  pub stops_same : (c : Configuration) (is : List ℕ) → stops_from p 1 c is ≡ stops_at p c is
  unfolding stops_from stops_at
  stops_same c [] = refl
  stops_same c (i ∷ is) = ap₂ (λ (b : Bool) (n : ℕ). cond b (suc n) 0) (sym (allowed-passes p c i)) (stops_same (after p c i) is)

  -- it completes where the walk does not stop and the end is good
  pub completes_is : (c : Configuration) (is : List ℕ) (n : ℕ) (g : Bool) → n ≡ stops_at p c is → (n ≡ length is → g ≡ good p (replay p c is))
      → (eqb n (length is) && g) ≡ completes p c is
  unfolding completes
  completes_is c is n g e f =
      let same : eqb (stops_at p c is) (length is) ≡ eqb n (length is) = ap (λ (m : ℕ). eqb m (length is)) (sym e) in
      bool_cases (eqb n (length is))
      (λ a. rw a (f (eqb-true n (length is) a) ∙ sym (second_says _ _ (same ∙ a))))
      (λ a. rw a (sym (first_fails _ _ (same ∙ a))))
