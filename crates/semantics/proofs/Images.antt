-- The image and back: what is written is read again, and a written image passes 11 and 12.
use mathlib.Core.Path.{◌≡◌, refl, sym, ap, ap₂, ◌∙◌, subst}
use Prim.Native.Nat.{ℕ, zero, suc, ◌+◌, ◌*◌, ◌<◌}
use native.Mathlib.Nat.{le_of_suc-le-suc, not-suc-le-zero, add_assoc}
use native.Mathlib.Omega.{arith}
use mathlib.Core.Bool.{true}
use mathlib.Core.List.{List, [], ◌∷◌, ◌++◌, append_assoc}
use lib.ListN.{length, get_or, take, drop, length-append}
use lib.Seq.{take_at, drop_at, get_or-append-add, ext_get_or}
use lib.IntN.{ℤ, pos}
use Rattle.semantics.specs.Bytes.{byte, u32, u64, le_bytes, all_of, every, table}
use Rattle.semantics.specs.Signed.{signed, residue}
use Rattle.semantics.specs.Plan.{Plan, max_components, max_variables, max_oracles}
use Rattle.semantics.specs.Move.{Configuration}
use Rattle.semantics.specs.Image.{image_length, head, value_bytes, image, with_marks, marks_of, configuration_of, oracle_byte, head_matches}
use Rattle.semantics.proofs.Basics.{length-table, get_or-table, table_is, eqb_same}
use Rattle.semantics.proofs.Masks.{length-le_bytes, u32_back}
use Rattle.semantics.proofs.Evaluator.{Words}
use Rattle.semantics.proofs.SignedBits.{signed-residue, residue_lt}

-- a configuration whose lists are as long as the image has room, each value a signed 32-bit number
pub record Shaped (c : Configuration) : Type 0 where
  pub oracles_4 : length c.oracles ≡ max_oracles
  pub locations_16 : length c.state.locations ≡ max_components
  pub ports_16 : length c.state.last_ports ≡ max_components
  pub values_64 : length c.state.values ≡ max_variables
  pub words : Words c.state.values

-- ---- values

byte_past : (xs ys : List ℕ) (n k : ℕ) → length xs ≡ n → byte (xs ++ ys) (n + k) ≡ byte ys k
byte_past xs ys n k e = subst (λ (m : ℕ). byte (xs ++ ys) (m + k) ≡ byte ys k) e (get_or-append-add xs ys k 0)

pub u32_past : (xs ys : List ℕ) (n k : ℕ) → length xs ≡ n → u32 (xs ++ ys) (n + k) ≡ u32 ys k
unfolding u32
u32_past xs ys n k e =
    rw (add_assoc n k 1, add_assoc n k 2, add_assoc n k 3, byte_past xs ys n k e, byte_past xs ys n (k + 1) e, byte_past xs ys n (k + 2) e, byte_past xs ys n (k + 3) e)

value_at : (vs : List ℤ) (v : ℕ) → Words vs → v < length vs → signed (u32 (value_bytes vs) (4 * v)) ≡ get_or vs v (pos 0)
unfolding value_bytes
value_at [] v w h = absurd (not-suc-le-zero h)
value_at (x ∷ xs) zero w h = ap signed (u32_back (residue x) (value_bytes xs) (residue_lt x)) ∙ signed-residue x (w.word_at 0)
value_at (x ∷ xs) (suc v) w h =
    let e : 4 * suc v ≡ 4 + 4 * v = omega arith in
    ap (λ (k : ℕ). signed (u32 (le_bytes 4 (residue x) ++ value_bytes xs) k)) e
    ∙ ap signed (u32_past (le_bytes 4 (residue x)) (value_bytes xs) 4 (4 * v) (length-le_bytes 4 (residue x)))
    ∙ value_at xs v (record { word_at = λ k. w.word_at (suc k) }) (le_of_suc-le-suc h)

pub length-value_bytes : (vs : List ℤ) → length (value_bytes vs) ≡ 4 * length vs
unfolding value_bytes
length-value_bytes [] = refl
length-value_bytes (x ∷ xs) =
    length-append (le_bytes 4 (residue x)) (value_bytes xs) ∙ ap₂ ◌+◌ (length-le_bytes 4 (residue x)) (length-value_bytes xs) ∙ step (length xs)
  where
    step : (n : ℕ) → 4 + 4 * n ≡ 4 * suc n
    step n = omega arith

-- ---- the parts of an image

-- all before the values
front : Plan → Configuration → ℕ → List ℕ
front p c m = head p c.oracles ++ le_bytes 8 m ++ c.state.locations ++ c.state.last_ports

length_front : (p : Plan) (c : Configuration) (m : ℕ) → Shaped c → length (front p c m) ≡ 56
unfolding front head le_bytes
length_front p c m h =
    let e : length (c.state.locations ++ c.state.last_ports) ≡ 32 = length-append c.state.locations c.state.last_ports ∙ ap₂ ◌+◌ h.locations_16 h.ports_16 in
    ap (λ (n : ℕ). suc (suc (suc (suc (suc (suc (suc (suc (suc (suc (suc (suc (suc (suc (suc (suc (suc (suc (suc (suc (suc (suc (suc (suc n)))))))))))))))))))))))) e

pub length-image : (p : Plan) (c : Configuration) (m : ℕ) → Shaped c → length (image p c m) ≡ image_length
unfolding image front
length-image p c m h =
    length-append (front p c m) (value_bytes c.state.values)
    ∙ ap₂ ◌+◌ (length_front p c m h) (length-value_bytes c.state.values ∙ ap (λ (n : ℕ). 4 * n) h.values_64)

pub with_marks-image : (p : Plan) (c : Configuration) (m n : ℕ) → with_marks (image p c m) n ≡ image p c n
unfolding with_marks image head le_bytes
with_marks-image p c m n = refl

pub marks_back : (p : Plan) (c : Configuration) (m : ℕ) → m < 18446744073709551616 → marks_of (image p c m) ≡ m
unfolding marks_of u64 u32 image head le_bytes
marks_back p c m h = omega arith

pub head_matches_lem : (p : Plan) (c : Configuration) (m : ℕ) → head_matches p (image p c m) ≡ true
unfolding head_matches oracle_byte all_of every image head le_bytes
head_matches_lem p c m = simp eqb_same

locations_back : (p : Plan) (c : Configuration) (m : ℕ) → Shaped c → take max_components (drop 24 (image p c m)) ≡ c.state.locations
unfolding image head le_bytes
locations_back p c m h =
    ap (take max_components) (append_assoc c.state.locations c.state.last_ports (value_bytes c.state.values))
    ∙ take_at c.state.locations (c.state.last_ports ++ value_bytes c.state.values) max_components h.locations_16

ports_back : (p : Plan) (c : Configuration) (m : ℕ) → Shaped c → take max_components (drop 40 (image p c m)) ≡ c.state.last_ports
unfolding image head le_bytes
ports_back p c m h =
    ap (λ (l : List ℕ). take max_components (drop max_components l)) (append_assoc c.state.locations c.state.last_ports (value_bytes c.state.values))
    ∙ ap (take max_components) (drop_at c.state.locations (c.state.last_ports ++ value_bytes c.state.values) max_components h.locations_16)
    ∙ take_at c.state.last_ports (value_bytes c.state.values) max_components h.ports_16

values_back : (p : Plan) (c : Configuration) (m : ℕ) → Shaped c → table max_variables (λ v. signed (u32 (image p c m) (56 + 4 * v))) ≡ c.state.values
unfolding image front
values_back p c m h =
    let f : ℕ → ℤ = λ v. signed (u32 (image p c m) (56 + 4 * v)) in
    ext_get_or (pos 0) (table max_variables f) c.state.values (length-table max_variables f ∙ sym h.values_64)
    (λ v l.
    let k : v < max_variables = subst (λ (n : ℕ). v < n) (length-table max_variables f) l in
    get_or-table max_variables f (pos 0) v k
    ∙ ap signed (u32_past (front p c m) (value_bytes c.state.values) 56 (4 * v) (length_front p c m h))
    ∙ value_at c.state.values v h.words (subst (λ (n : ℕ). v < n) (sym h.values_64) k))

-- the four bytes of a list of four
four : (qs : List ℕ) → length qs ≡ max_oracles → qs ≡ get_or qs 0 0 ∷ get_or qs 1 0 ∷ get_or qs 2 0 ∷ get_or qs 3 0 ∷ []
unfolding table
four qs e = table_is 0 qs max_oracles (λ n. get_or qs n 0) e (λ n l. refl)

pub configuration_back : (p : Plan) (c : Configuration) (m : ℕ) → Shaped c → configuration_of (image p c m) ≡ c
unfolding configuration_of image head
configuration_back p c m h =
    λ i. record {
      state = record { locations = locations_back p c m h i; last_ports = ports_back p c m h i; values = values_back p c m h i };
      oracles = sym (four c.oracles h.oracles_4) i;
    }
