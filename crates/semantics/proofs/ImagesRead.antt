-- What is read out of an image: one that passes 13 holds a sound configuration, and other marks hold the same one.
use mathlib.Core.Path.{◌≡◌, refl, sym, ap, ap₂, ◌∙◌, subst}
use Prim.Native.Nat.{ℕ, ◌+◌, ◌*◌, ◌-◌, ◌≤◌, ◌<◌}
use native.Mathlib.Omega.{arith}
use mathlib.Core.Bool.{true, false≢true}
use mathlib.Core.List.{List, ◌++◌}
use lib.ListN.{length, get_or, take, drop, length-append, length-drop, take-append-drop, get_or-eq_default, get_or-append}
use lib.Seq.{length-take-le, drop_at, drop-drop, get_or-take}
use lib.Dec.{ltb}
use lib.IntN.{ℤ, pos, negsuc}
use lib.Signed.{mag}
use Rattle.semantics.specs.Bytes.{byte, u32, le_bytes, table}
use Rattle.semantics.specs.Signed.{signed, equal_z}
use Rattle.semantics.specs.Plan.{Plan, variables}
use Rattle.semantics.specs.Image.{Image, image_length, with_marks, configuration_of, value_ok, configuration_ok}
use Rattle.semantics.proofs.Basics.{bool_cases, absurd_bool, or_cases, ltb-true, ltb-false, lt-ltb, le-ltb, eqb-true, length-table, get_or-table, table_same, part-table}
use Rattle.semantics.proofs.Masks.{length-le_bytes}
use Rattle.semantics.proofs.Images.{u32_past}
use Rattle.semantics.proofs.SignedBits.{signed_in}
use Rattle.semantics.proofs.Sound.{Sound}
use Rattle.semantics.proofs.LawfulImage.{Configured, configured}

-- ---- what an image holds

zero_by_test : (z : ℤ) → equal_z z (pos 0) ≡ true → z ≡ pos 0
unfolding equal_z
zero_by_test (pos n) e = ap pos (eqb-true n 0 e)
zero_by_test (negsuc n) e = absurd (false≢true e)

-- a place of the values of an image: 32 bits in the image, or nothing past them
value_read : (b : Image) (v : ℕ) (P : ℤ → Type 0) → (v < 64 → P (signed (u32 b (56 + 4 * v)))) → P (pos 0) → P (get_or (configuration_of b).state.values v (pos 0))
unfolding configuration_of
value_read b v P f z =
    let g : ℕ → ℤ = λ u. signed (u32 b (56 + 4 * u)) in
    bool_cases (ltb v 64) (λ t. let l : v < 64 = ltb-true v 64 t in subst P (sym (get_or-table 64 g (pos 0) v l)) (f l))
    (λ t. subst P (sym (get_or-eq_default (table 64 g) (pos 0) (subst (λ (n : ℕ). n ≤ v) (sym (length-table 64 g)) (ltb-false v 64 t)))) z)

taken : (b : Image) (n w : ℕ) → length b ≡ image_length → n + w ≤ 312 → length (take w (drop n b)) ≡ w
taken b n w e h = length-take-le w (drop n b) (subst (λ (m : ℕ). w ≤ m) (sym (length-drop n b ∙ ap (λ (m : ℕ). m - n) e)) (room n w h))
  where
    room : (n w : ℕ) → n + w ≤ 312 → w ≤ 312 - n
    room n w h = omega arith

-- an image of the right length that passes 13 holds a sound configuration
pub sound_read : (p : Plan) (b : Image) → length b ≡ image_length → configuration_ok p (configuration_of b) ≡ true → Sound p (configuration_of b)
sound_read p b e h =
    let t : Configured p (configuration_of b) = configured p (configuration_of b) h in
    record {
      oracles_4 = unfold configuration_of in (taken b 8 4 e (omega arith));
      in_range = t.in_range;
      locations_16 = unfold configuration_of in (taken b 24 16 e (omega arith));
      ports_16 = unfold configuration_of in (taken b 40 16 e (omega arith));
      location = t.location;
      port = t.last_port_lem;
      valued =
          record {
            long = unfold configuration_of in (length-table 64 (λ v. signed (u32 b (56 + 4 * v))));
            words = record { word_at = λ v. value_read b v (λ z. mag z < 2147483648) (λ l. signed_in (u32 b (56 + 4 * v))) (omega arith) };
            unused = unused t.value;
          };
    }
  where
    unused : ((v : ℕ) → v < 64 → value_ok p (configuration_of b).state v ≡ true) → (v : ℕ) → variables p ≤ v → get_or (configuration_of b).state.values v (pos 0) ≡ pos 0
    unused f v m =
        bool_cases (ltb v 64)
        (λ t. or_cases (ltb v (variables p)) (equal_z (get_or (configuration_of b).state.values v (pos 0)) (pos 0))
        (unfold value_ok in (f v (ltb-true v 64 t)))
        (λ u. absurd_bool u (le-ltb v (variables p) m))
        (zero_by_test (get_or (configuration_of b).state.values v (pos 0))))
        (λ t. value_read b v (λ z. z ≡ pos 0) (λ l. absurd_bool (lt-ltb v 64 l) t) refl)

-- ---- other marks hold the same configuration

module _ (b : Image) (m : ℕ) (e : length b ≡ image_length) where
  abbrev front : List ℕ
  front = take 16 b ++ le_bytes 8 m

  first_long : (n : ℕ) → n ≤ 312 → length (take n b) ≡ n
  first_long n h = length-take-le n b (subst (λ (k : ℕ). n ≤ k) (sym e) h)

  front_long : length front ≡ 24
  front_long = length-append (take 16 b) (le_bytes 8 m) ∙ ap₂ ◌+◌ (first_long 16 (omega arith)) (length-le_bytes 8 m)

  behind : (n : ℕ) → drop (24 + n) (front ++ drop 24 b) ≡ drop (24 + n) b
  behind n =
      sym (drop-drop n 24 (front ++ drop 24 b)) ∙ ap (drop n) (drop_at front (drop 24 b) 24 front_long) ∙ drop-drop n 24 b

  head_same : (k : ℕ) → k < 16 → byte (front ++ drop 24 b) k ≡ byte b k
  head_same k l =
      get_or-append front (drop 24 b) 0 k (subst (λ (n : ℕ). k < n) (sym front_long) (omega arith))
      ∙ get_or-append (take 16 b) (le_bytes 8 m) 0 k (subst (λ (n : ℕ). k < n) (sym (first_long 16 (omega arith))) l)
      ∙ get_or-take 16 b k 0 l

  whole_long : length (front ++ drop 24 b) ≡ image_length
  whole_long = length-append front (drop 24 b) ∙ ap₂ ◌+◌ front_long (length-drop 24 b ∙ ap (λ (n : ℕ). n - 24) e)

  oracles_same : take 4 (drop 8 (front ++ drop 24 b)) ≡ take 4 (drop 8 b)
  oracles_same =
      part-table 0 (front ++ drop 24 b) 8 4 (rw whole_long (omega arith))
      ∙ table_same 0 4 (λ k. byte (front ++ drop 24 b) (8 + k)) (λ k. byte b (8 + k)) (λ k l. head_same (8 + k) (omega arith))
      ∙ sym (part-table 0 b 8 4 (rw e (omega arith)))

  value_same : (v : ℕ) → u32 (front ++ drop 24 b) (56 + 4 * v) ≡ u32 b (56 + 4 * v)
  value_same v =
      let q : 24 + (32 + 4 * v) ≡ 56 + 4 * v = omega arith in
      let h : u32 (front ++ drop 24 b) (24 + (32 + 4 * v)) ≡ u32 b (24 + (32 + 4 * v))
      = u32_past front (drop 24 b) 24 (32 + 4 * v) front_long
      ∙ sym (u32_past (take 24 b) (drop 24 b) 24 (32 + 4 * v) (first_long 24 (omega arith)))
      ∙ ap (λ (x : List ℕ). u32 x (24 + (32 + 4 * v))) (take-append-drop 24 b) in
      subst (λ (n : ℕ). u32 (front ++ drop 24 b) n ≡ u32 b n) q h

  -- "no other byte differs": the marks are no part of the configuration
  pub marked_same : configuration_of (with_marks b m) ≡ configuration_of b
  unfolding configuration_of with_marks
  marked_same =
      λ i. record {
        state =
            record {
              locations = take 16 (behind 0 i);
              last_ports = take 16 (behind 16 i);
              values = table 64 (λ v. signed (value_same v i));
            };
        oracles = oracles_same i;
      }
