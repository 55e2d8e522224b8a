-- What a reading of the roster finds: the free lane that waited longest, the lowest number on a tie; none where none is free.
use mathlib.Core.Path.{◌≡◌, refl, sym, subst}
use Prim.Native.Nat.{ℕ, zero, suc, ◌≤◌, ◌<◌}
use native.Mathlib.Nat.{not-suc-le-zero}
use native.Mathlib.Omega.{arith}
use mathlib.Core.Bool.{Bool, true, false, cond}
use mathlib.Core.List.{List, [], ◌∷◌, map}
use lib.Dec.{leb, ltb, eqb}
use lib.ListN.{length, get_or}
use Rattle.std.specs.Prelude.{Option, Some, None}
use Rattle.semantics.specs.Bytes.{implies, every, lowest}
use Rattle.semantics.proofs.Basics.{bool_cases, absurd_bool, and_both, both_and, implies-yes, implies-at, each, all_of_lem, leb-true, le_leb, eqb-true, ltb-true, ltb-false, every-at, every_all, below_suc, Lowest, lowest_is, lowest_unique}
use Rattle.roster.specs.declared.record.Lane.{Lane}
use Rattle.roster.specs.declared.record.Scan.{Scan}
use Rattle.roster.specs.Roster.{no_lane, lane_at, free, wait_of, longest, chosen}
use Rattle.roster.specs.Scan.{better, scan_step, scan_to, scanned}

-- a record of a roster each of whose records was changed
pub at_map : (g : Lane → Lane) (l : List Lane) (j : ℕ) → j < length l → get_or (map g l) j no_lane ≡ g (get_or l j no_lane)
at_map g [] j h = absurd (not-suc-le-zero h)
at_map g (a ∷ l) zero h = refl
at_map g (a ∷ l) (suc j) h = at_map g l j (omega arith)

-- lane m of the first k, which waited w, is the one that a turn goes to: free, none free waited longer, and those free before it waited less
pub record Best (k : ℕ) (l : List Lane) (m w : ℕ) : Type 0 where
  pub small : m < k
  pub free-at : free l m ≡ true
  pub wait_at : w ≡ wait_of l m
  pub at_most : (j : ℕ) → j < k → free l j ≡ true → wait_of l j ≤ w
  pub first : (j : ℕ) → j < m → free l j ≡ true → wait_of l j < w

-- what a reading of the first k records found: none is free, or the lane that a turn goes to
abbrev pub Found : ℕ → List Lane → Option Lane → Type 0
Found k l None = (j : ℕ) → j < k → free l j ≡ false
Found k l (Some a) = Best k l a.number a.wait

module _ (k : ℕ) (l : List Lane) where
  abbrev here : Lane
  here = lane_at l k

  -- record k takes the place of the one found, or not
  taken : here.number ≡ k → (o : Option Lane) → better o here ≡ true → Found k l o → Best (suc k) l here.number here.wait
  taken e None y f = subst (λ (m : ℕ). Best (suc k) l m here.wait) (sym e) (record {
    small = omega arith;
    free-at = (and_both _ _ y).0;
    wait_at = refl;
    at_most = λ j g q. below_suc g (λ m. absurd_bool q (f j m)) (λ m. subst (λ (x : ℕ). wait_of l x ≤ here.wait) (sym m) (omega arith));
    first = λ j g q. absurd_bool q (f j g);
  })
  taken e (Some a) y f =
      let more : a.wait < here.wait = ltb-true a.wait here.wait (and_both (free l k) (ltb a.wait here.wait) y).1 in
      subst (λ (m : ℕ). Best (suc k) l m here.wait) (sym e) (record {
        small = omega arith;
        free-at = (and_both _ _ y).0;
        wait_at = refl;
        at_most = λ j g q. below_suc g (λ m. let w = f.at_most j m q in omega (arith, w, more))
            (λ m. subst (λ (x : ℕ). wait_of l x ≤ here.wait) (sym m) (omega arith));
        first = λ j g q. let w = f.at_most j g q in omega (arith, w, more);
      })

  kept : (o : Option Lane) → better o here ≡ false → Found k l o → Found (suc k) l o
  kept None off f =
      let held : free l k ≡ false = bool_cases (free l k) (λ q. absurd_bool (both_and q refl) off) (λ q. q) in
      λ j g. below_suc g (f j) (λ m. subst (λ (x : ℕ). free l x ≡ false) (sym m) held)
  kept (Some a) off f = record {
    small = let c = f.small in omega (arith, c);
    free-at = f.free-at;
    wait_at = f.wait_at;
    at_most = λ j g q. below_suc g (λ m. f.at_most j m q) (λ m.
        let free_here : free l k ≡ true = subst (λ (x : ℕ). free l x ≡ true) m q in
        subst (λ (x : ℕ). wait_of l x ≤ a.wait) (sym m)
        (bool_cases (ltb a.wait here.wait) (λ y. absurd_bool (both_and free_here y) off) (λ y. ltb-false _ _ y)));
    first = f.first;
  }

  found_next : here.number ≡ k → (s : Scan) → Found k l s.longest → Found (suc k) l (scan_step s k here).longest
  unfolding scan_step
  found_next e s f =
      bool_cases (better s.longest here)
      (λ y. subst (λ (b : Bool). Found (suc k) l (cond b (Some here) s.longest)) (sym y) (taken e s.longest y f))
      (λ y. subst (λ (b : Bool). Found (suc k) l (cond b (Some here) s.longest)) (sym y) (kept s.longest y f))

-- record k is the one found, where it takes the place of the one before
chosen-now : (k : ℕ) (l : List Lane) (s : Scan) → k < 8 → (lane_at l k).number ≡ k → better s.longest (lane_at l k) ≡ true → Found k l s.longest
    → Best (suc k) l (lane_at l k).number (wait_of l k)
chosen-now k l s h e y f = taken k l e s.longest y f

pub found : (k : ℕ) (l : List Lane) → (scan_to k l).counted ≡ true → ((j : ℕ) → j < k → (lane_at l j).number ≡ j) × Found k l (scan_to k l).longest
unfolding scan_to scan_step
found zero l c = (λ j g. absurd (not-suc-le-zero g), λ j g. absurd (not-suc-le-zero g))
found (suc k) l c =
    let d = and_both (scan_to k l).counted (eqb (lane_at l k).number k) c in
    let f = found k l d.0 in
    let e = eqb-true _ _ d.1 in
    (λ j g. below_suc g (f.0 j) (λ m. subst (λ (x : ℕ). (lane_at l x).number ≡ x) (sym m) e), found_next k l e (scan_to k l) f.1)

-- ---- the lane that the paper's turn goes to
best_longest : (l : List Lane) (m w : ℕ) → Best (length l) l m w → Lowest (length l) (longest l) m
unfolding longest
best_longest l m w f = record {
  at_most = let c = f.small in omega (arith, c);
  hit = λ h. all_of_lem (free l m ∷ every (length l) (λ j. implies (free l j) (leb (wait_of l j) (wait_of l m))) ∷ []) (
    f.free-at,
    (
      every_all (length l) _ (λ j g. implies-yes (free l j) (leb (wait_of l j) (wait_of l m))
          (λ q. le_leb (wait_of l j) (wait_of l m) (let a = f.at_most j g q in let c = f.wait_at in omega (arith, a, c)))),
      tt,
    ),
  );
  missed = λ j h. bool_cases (longest l j) (λ q.
      let d = each (free l j ∷ every (length l) (λ k. implies (free l k) (leb (wait_of l k) (wait_of l j))) ∷ []) q in
      let a = f.first j h d.0 in
      let c = f.wait_at in
      let x = leb-true (wait_of l m) (wait_of l j) (implies-at (free l m) (leb (wait_of l m) (wait_of l j))
      (every-at (length l) (λ k. implies (free l k) (leb (wait_of l k) (wait_of l j))) d.1.0 m f.small) f.free-at) in
      absurd (omega (arith, a, c, x))) (λ q. q);
}

pub chosen_best : (l : List Lane) (m w : ℕ) → Best (length l) l m w → chosen l ≡ m
unfolding chosen
chosen_best l m w f = lowest_unique (length l) (longest l) (lowest (length l) (longest l)) m (lowest_is (length l) (longest l)) (best_longest l m w f)

none-longest : (l : List Lane) → ((j : ℕ) → j < length l → free l j ≡ false) → Lowest (length l) (longest l) (length l)
unfolding longest
none-longest l f = record {
  at_most = omega arith;
  hit = λ h. absurd (omega (arith, h));
  missed = λ j h. bool_cases (longest l j) (λ q. absurd_bool
      (each (free l j ∷ every (length l) (λ k. implies (free l k) (leb (wait_of l k) (wait_of l j))) ∷ []) q).0 (f j h)) (λ q. q);
}

pub chosen_none : (l : List Lane) → ((j : ℕ) → j < length l → free l j ≡ false) → chosen l ≡ length l
unfolding chosen
chosen_none l f = lowest_unique (length l) (longest l) (lowest (length l) (longest l)) (length l) (lowest_is (length l) (longest l)) (none-longest l f)

-- a roster that is read whole, its numbers running from 0: nobody is free and none is chosen, or the one chosen is found
pub chosen-free : (l : List Lane) → (scanned l).counted ≡ true → (i : ℕ) → i < length l → free l i ≡ true
    → Best (length l) l (chosen l) (wait_of l (chosen l))
chosen-free l c i m f = found_free (scanned l).longest (found (length l) l c).1
  where
    found_free : (o : Option Lane) → Found (length l) l o → Best (length l) l (chosen l) (wait_of l (chosen l))
    found_free None none = absurd_bool f (none i m)
    found_free (Some a) b =
        subst (λ (k : ℕ). Best (length l) l k (wait_of l k)) (sym (chosen_best l a.number a.wait b))
        (subst (λ (w : ℕ). Best (length l) l a.number w) b.wait_at b)
