-- The bound of n turns is tight: of n lanes that waited alike, none held, the last gets none of the first n - 1 turns.
use mathlib.Core.Path.{◌≡◌, refl, ap, ap₂, ◌∙◌}
use Prim.Native.Nat.{ℕ, zero, suc, ◌*◌, ◌<◌}
use mathlib.Core.Bool.{Bool, true, false, not, ◌||◌}
use mathlib.Core.List.{List, [], ◌∷◌, map}
use lib.Dec.{ltb, eqb}
use lib.ListN.{length}
use Rattle.semantics.specs.Bytes.{all_of, every, lowest, implies, table}
use Rattle.semantics.specs.Plan.{Plan}
use Rattle.semantics.specs.Refusal.{refusal}
use Rattle.semantics.specs.Rules.{plan_refusal}
use Rattle.semantics.specs.Image.{image_length}
use Rattle.semantics.specs.Calls.{Call.settle}
use Rattle.semantics.proofs.Basics.{not_yes, each, all_of_lem, eqb-true, eq-eqb, ltb-true, every-at, every_all}
use Rattle.semantics.proofs.Lengths.{called-length}
use Rattle.roster.specs.declared.record.Lane.{Lane}
use Rattle.roster.specs.Roster.{max_lanes, free, wait_of, longest, chosen, longer, waited}
use Rattle.roster.specs.Turn.{part, roster_ok, turn_rules, Dispatched, settled_part, given}
use Rattle.roster.specs.Turns.{Lent, turn_of, unrefused, turns_taken, stays_free, names, served_in, fresh, in_a_row}
use Rattle.roster.proofs.OtherLanes.{with_length}
use Rattle.roster.proofs.Dispatch.{then_none, dispatch-given}

-- k turns in a row from the roster l, of n lanes, are none of them lane i's: told from the roster alone
passed_over : ℕ → ℕ → ℕ → List Lane → Bool
passed_over n i zero l = true
passed_over n i (suc k) l =
    all_of (eqb (length l) n ∷ roster_ok l (image_length * n) ∷ ltb (chosen l) (length l) ∷ free l i ∷ not (eqb (chosen l) i) ∷ passed_over n i k
    (map (waited (chosen l)) l) ∷ [])

-- computed, for each number of lanes
last_passed_over : every max_lanes (λ m. passed_over (suc m) m m (fresh (suc m))) ≡ true
unfolding passed_over roster_ok chosen longest longer waited fresh all_of every lowest implies table
last_passed_over = refl

-- what one of these turns is passed over by
record Passed (n i k : ℕ) (l : List Lane) : Type 0 where
  lanes : length l ≡ n
  lawful : roster_ok l (image_length * n) ≡ true
  someone : chosen l < length l
  unheld : free l i ≡ true
  another : eqb (chosen l) i ≡ false
  rest : passed_over n i k (map (waited (chosen l)) l) ≡ true

passed : (n i k : ℕ) (l : List Lane) → passed_over n i (suc k) l ≡ true → Passed n i k l
unfolding passed_over
passed n i k l q =
    let (a, (c, (d, (f, (o, (r, _)))))) = each _ q in
    record { lanes = eqb-true (length l) n a; lawful = c; someone = ltb-true _ _ d; unheld = f; another = not_yes (eqb (chosen l) i) o; rest = r }

-- k turns are taken, lane i stays free, and none is its own
pub record Starved (n i k : ℕ) (x : Lent) : Type 0 where
  pub stays-free : stays_free n i (wait_of x.roster) (in_a_row k x) ≡ true
  pub all_taken : turns_taken (in_a_row k x) ≡ k
  pub not_served : served_in i (in_a_row k x) ≡ false

module _ (p : Plan) (ok : plan_refusal p ≡ 0) (n i : ℕ) where
  abbrev lent : List Lane → List ℕ → Lent
  lent l b = record { plan = p; roster = l; images = b }

  module _ (k : ℕ) (l : List Lane) (b : List ℕ) (e : length b ≡ image_length * n) (d : Passed n i k l) where
    kept : refusal (turn_rules p l (length b)) ≡ 0
    kept = then_none p l (length b) ok (ap (roster_ok l) e ∙ d.lawful)

    taken : unrefused (lent l b) ≡ true
    unfolding unrefused
    taken = eq-eqb _ 0 kept

    is_given : turn_of (lent l b) ≡ given p l b (chosen l)
    is_given = dispatch-given p l b kept (chosen l) refl d.someone

    roster_is : (turn_of (lent l b)).roster ≡ map (waited (chosen l)) l
    unfolding given
    roster_is = ap (λ (z : Dispatched). z.roster) is_given

    long : length (turn_of (lent l b)).images ≡ image_length * n
    unfolding given settled_part
    long =
        ap (λ (z : Dispatched). length z.images) is_given ∙ with_length b (chosen l) (settled_part p b (chosen l)).image
        (called-length p (part b (chosen l)) settle) ∙ e

    not_named : names i (turn_of (lent l b)).answer ≡ false
    unfolding names given
    not_named = ap (λ (z : Dispatched). names i z.answer) is_given ∙ d.another

    waits_same : every n (λ j. eqb (wait_of l j) (wait_of l j)) ≡ true
    waits_same = every_all n (λ j. eqb (wait_of l j) (wait_of l j)) (λ j m. eq-eqb (wait_of l j) (wait_of l j) refl)

  starved : (k : ℕ) (l : List Lane) (b : List ℕ) → length b ≡ image_length * n → passed_over n i k l ≡ true → Starved n i k (lent l b)
  unfolding in_a_row turns_taken stays_free served_in
  starved zero l b e q = record { stays-free = refl; all_taken = refl; not_served = refl }
  starved (suc k) l b e q =
      let d = passed n i k l q in
      let u = taken k l b e d in
      let h = starved k (turn_of (lent l b)).roster (turn_of (lent l b)).images (long k l b e d) (ap (passed_over n i k) (roster_is k l b e d) ∙ d.rest) in
      record {
        stays-free = rw u (all_of_lem _ (eq-eqb (length l) n d.lanes, (d.unheld, (waits_same k l b e d, (h.stays-free, tt)))));
        all_taken = rw u (ap suc h.all_taken);
        not_served = ap₂ ◌||◌ (not_named k l b e d) h.not_served;
      }

-- Of n lanes, for each n from 1 to 8, under every accepted plan and with any images: in n - 1 turns in a row, none refused, the last lane, never held, gets none.
pub bound_tight : (p : Plan) → plan_refusal p ≡ 0 → (m : ℕ) → m < max_lanes → (b : List ℕ) → length b ≡ image_length * suc m
    → Starved (suc m) m m (record { plan = p; roster = fresh (suc m); images = b })
bound_tight p ok m h b e = starved p ok (suc m) m m (fresh (suc m)) b e (every-at max_lanes (λ k. passed_over (suc k) k k (fresh (suc k))) last_passed_over m h)
