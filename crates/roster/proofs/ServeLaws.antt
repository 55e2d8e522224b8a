-- Laws of how the code takes a turn: one lane's bytes in the buffer, and the ways a turn goes.
use mathlib.Core.Path.{◌≡◌, sym, ap}
use Prim.Native.Nat.{ℕ, ◌+◌, ◌*◌, ◌-◌, ◌≤◌, ◌<◌}
use native.Mathlib.Omega.{arith}
use mathlib.Core.Bool.{true, false, not, ◌||◌}
use mathlib.Core.List.{List, ◌++◌}
use lib.Dec.{ltb, eqb}
use lib.ListN.{length, take, drop}
use borrow.Rule.Slice.PartMut.{put_mid, Post-is}
use Rattle.std.specs.Prelude.{None, Some}
use Rattle.semantics.specs.Plan.{Plan}
use Rattle.semantics.specs.Rules.{plan_refusal}
use Rattle.semantics.specs.Image.{image_length}
use Rattle.semantics.specs.Calls.{called, Call.settle}
use Rattle.semantics.proofs.Basics.{not_no, neither, lt-ltb, ltb-false, le-ltb, eqb-true, eqb-false, ne_eqb}
use Rattle.roster.specs.declared.record.Lane.{Lane}
use Rattle.roster.specs.declared.record.Scan.{Scan}
use Rattle.roster.specs.Roster.{max_lanes}
use Rattle.roster.specs.Turn.{part, with_part, turned_away, idle, served, settled_part}
use Rattle.roster.specs.Scan.{bad_roster, found_answer, found_bytes, served_answer, served_bytes}

pub settled_is : (p : Plan) (b : List ℕ) (i k : ℕ) → k ≡ 312 → called p (take k (drop (312 * i) b)) settle ≡ settled_part p b i
unfolding settled_part part
settled_is p b i k e = ap (λ (m : ℕ). called p (take m (drop (312 * i) b)) settle) e

pub put_is : (b c : List ℕ) (i : ℕ) → put_mid (312 * i) (312 * i + 312 - 312 * i) b c ≡ with_part b i c
unfolding with_part
put_is b c i = ap (λ (r : List ℕ). take (312 * i) b ++ (c ++ r)) (Post-is (312 * i) (312 * i + 312) b (omega arith))

module _ (p : Plan) (b : List ℕ) (s : Scan) (n : ℕ) where
  pub turn_plan : (plan_refusal p ≡ 0 → ⊥) → (turned_away (plan_refusal p) ≡ served_answer p b s n) × (b ≡ served_bytes p b s n)
  unfolding served_answer served_bytes
  turn_plan f = let g = ne_eqb (plan_refusal p) 0 f in (simp g, simp g)

  module _ (e : plan_refusal p ≡ 0) where
    pub turn_bad : bad_roster (length b) s n ≡ true → (turned_away 23 ≡ served_answer p b s n) × (b ≡ served_bytes p b s n)
    unfolding served_answer served_bytes
    turn_bad h = (simp (e, h), simp (e, h))

    module _ (h : bad_roster (length b) s n ≡ false) where
      pub turn_found : (found_answer p b n s.longest ≡ served_answer p b s n) × (found_bytes p b n s.longest ≡ served_bytes p b s n)
      unfolding served_answer served_bytes
      turn_found = (simp (e, h), simp (e, h))

      pub turn_none : s.longest ≡ None → (idle ≡ served_answer p b s n) × (b ≡ served_bytes p b s n)
      unfolding found_answer found_bytes
      turn_none q = let t = turn_found in rw (sym t.0, sym t.1) (simp q, simp q)

      pub turn_past : (a : Lane) → s.longest ≡ Some a → n ≤ a.number → (idle ≡ served_answer p b s n) × (b ≡ served_bytes p b s n)
      unfolding found_answer found_bytes
      turn_past a q l = let t = turn_found in let g = le-ltb a.number n l in rw (sym t.0, sym t.1) (simp (q, g), simp (q, g))

      pub turn_served : (a : Lane) → s.longest ≡ Some a → a.number < n
          → (served a.number (settled_part p b a.number).answer ≡ served_answer p b s n) × (with_part b a.number (settled_part p b a.number).image ≡ served_bytes p b s n)
      unfolding found_answer found_bytes
      turn_served a q l = let t = turn_found in let g = lt-ltb a.number n l in rw (sym t.0, sym t.1) (simp (q, g), simp (q, g))

-- what a reading of n records and a buffer of k bytes are where 23 does not apply
pub record Fits (k : ℕ) (s : Scan) (n : ℕ) : Type 0 where
  pub some : n ≡ 0 → ⊥
  pub few : n ≤ max_lanes
  pub counted : s.counted ≡ true
  pub bytes : k ≡ image_length * n

pub fits : (k : ℕ) (s : Scan) (n : ℕ) → bad_roster k s n ≡ false → Fits k s n
unfolding bad_roster
fits k s n e =
    let x = neither (eqb n 0 || ltb max_lanes n || not s.counted) (not (eqb k (image_length * n))) e in
    let y = neither (eqb n 0 || ltb max_lanes n) (not s.counted) x.0 in
    let z = neither (eqb n 0) (ltb max_lanes n) y.0 in
    record {
      some = eqb-false n 0 z.0;
      few = ltb-false max_lanes n z.1;
      counted = not_no s.counted y.1;
      bytes = eqb-true k (image_length * n) (not_no (eqb k (image_length * n)) x.1);
    }
