-- The components that take part in an interaction, read from its ports eight at a time.
use mathlib.Core.Path.{◌≡◌, refl, sym, ap, ap₂, ◌∙◌, subst}
use Prim.Native.Nat.{ℕ, zero, suc, ◌+◌, ◌-◌, ◌*◌, ◌/◌, ◌%◌, ◌^◌, ◌≤◌, ◌<◌}
use native.Mathlib.Nat.{zero-add, le_of_suc-le-suc, not-suc-le-zero}
use native.Mathlib.Omega.{arith}
use mathlib.Core.Bool.{Bool, true, false, not, ◌&&◌}
use mathlib.Core.List.{List}
use lib.Bits.{bit_and}
use lib.Dec.{ltb, eqb}
use Rattle.semantics.specs.Bytes.{byte, u32, u64, implies, every, bit}
use Rattle.semantics.specs.Plan.{Plan, components, interactions, interaction_at, port_in, takes_part}
use Rattle.semantics.specs.Rules.{plan_refusal}
use Rattle.semantics.proofs.Basics.{bool_cases, absurd_bool, same_test, implies-at, ltb-true, ltb-false, eqb-true, not_no, every-at, every_all}
use Rattle.words.proofs.BitLaws.{bit_shr, bit_shift, bit_and_lem, bit_not, bit_above}
use Rattle.layout.proofs.Sections.{laid_accepted}
use Rattle.choices.specs.Choices.{port_ready}
use Rattle.choices.proofs.PlanLaws.{part_lt}

-- ---- bit 7 of the bytes of a number

-- The number of n bytes, lowest first.
unfoldable number : ℕ → (ℕ → ℕ) → ℕ
number zero f = 0
number (suc n) f = f 0 + 256 * number n (λ k. f (suc k))

seventh : (b r : ℕ) → bit (b + 256 * r) 7 ≡ bit b 7
seventh b r =
    let e : (b + 256 * r) / 128 % 2 ≡ b / 128 % 2 = omega arith in
    bit_shift (b + 256 * r) 7 ∙ ap (λ (x : ℕ). eqb x 1) e ∙ sym (bit_shift b 7)

later : (b r k : ℕ) → b < 256 → bit (b + 256 * r) (8 + k) ≡ bit r k
later b r k h =
    let e : (b + 256 * r) / 256 ≡ r = omega arith in
    sym (bit_shr (b + 256 * r) 8 k) ∙ ap (λ (x : ℕ). bit x k) e

number_bit : (n : ℕ) (f : ℕ → ℕ) → ((k : ℕ) → k < n → f k < 256) → (c : ℕ) → c < n → bit (number n f) (8 * c + 7) ≡ bit (f c) 7
unfolding number
number_bit zero f h c l = absurd (not-suc-le-zero l)
number_bit (suc n) f h zero l = seventh (f 0) (number n (λ k. f (suc k)))
number_bit (suc n) f h (suc c) l =
    let e : 8 * suc c + 7 ≡ 8 + (8 * c + 7) = omega arith in
    ap (bit (f 0 + 256 * number n (λ k. f (suc k)))) e
    ∙ later (f 0) (number n (λ k. f (suc k))) (8 * c + 7) (h 0 (omega arith))
    ∙ number_bit n (λ k. f (suc k)) (λ k q. h (suc k) (omega arith)) c (le_of_suc-le-suc l)

u64-number : (p : List ℕ) (at : ℕ) → u64 p at ≡ number 8 (λ k. byte p (at + k))
unfolding u64 u32 number
u64-number p at =
    let e0 : byte p (at + 0) ≡ byte p at = ap (λ (x : ℕ). byte p x) (omega arith) in
    let e5 : byte p (at + 5) ≡ byte p (at + 4 + 1) = ap (λ (x : ℕ). byte p x) (omega arith) in
    let e6 : byte p (at + 6) ≡ byte p (at + 4 + 2) = ap (λ (x : ℕ). byte p x) (omega arith) in
    let e7 : byte p (at + 7) ≡ byte p (at + 4 + 3) = ap (λ (x : ℕ). byte p x) (omega arith) in
    omega arith

-- the eight bits that are looked at
sevens : (c : ℕ) → c < 8 → bit 9259542123273814144 (8 * c + 7) ≡ true
unfolding number bit
sevens c l = number_bit 8 (λ k. 128) (λ k q. omega arith) c l

-- ---- parts

module _ (p : Plan) (a : plan_refusal p ≡ 0) (i : ℕ) (h : i < interactions p) where
  port_byte : (c : ℕ) → c < 16 → port_in p i c < 256
  unfolding takes_part
  port_byte c l =
      bool_cases (takes_part p i c) (λ t. let q : port_in p i c < 16 = (part_lt p a i c h l t).1 in omega arith)
      (λ t. let q : port_in p i c ≡ 255 = eqb-true _ _ (not_no _ t) in omega arith)

  -- the row of ports, as the code reads it: where a component takes part its bit is set
  pub part_bit : (base row : ℕ) → base ≤ 8 → row ≡ u64 p (interaction_at p i + base) → row < 2 ^ 64 → (c : ℕ) → c < 8 → takes_part p i (base + c) ≡ true
      → bit (bit_and (2 ^ 64 - 1 - row) 9259542123273814144) (8 * c + 7) ≡ true
  part_bit base row b e w c l t =
      let at = interaction_at p i + base in
      let place : (k : ℕ) → byte p (at + k) ≡ port_in p i (base + k) = λ k. ap (λ (x : ℕ). byte p x) (omega arith) in
      let small : (k : ℕ) → k < 8 → byte p (at + k) < 256 = λ k q. subst (λ (x : ℕ). x < 256) (sym (place k)) (port_byte (base + k) (omega arith)) in
      let port : port_in p i (base + c) < 16 = (part_lt p a i (base + c) h (omega arith) t).1 in
      let clear : bit row (8 * c + 7) ≡ false
      = ap (λ (x : ℕ). bit x (8 * c + 7)) (e ∙ u64-number p at) ∙ number_bit 8 (λ k. byte p (at + k)) small c l
      ∙ ap (λ (x : ℕ). bit x 7) (place c) ∙ bit_above 4 (port_in p i (base + c)) 7 port (omega arith) in
      bit_and_lem (2 ^ 64 - 1 - row) 9259542123273814144 (8 * c + 7)
      ∙ ap₂ ◌&&◌ (bit_not 64 row (8 * c + 7) w (omega arith) ∙ ap not clear) (sevens c l)

  module _ (chosen : List ℕ) where
    ready-none : (c : ℕ) → takes_part p i c ≡ false → port_ready p chosen i c ≡ true
    unfolding port_ready implies
    ready-none c t = rw t refl

    -- each set bit's component was looked at
    pub eight_done : (base m : ℕ) → ((c : ℕ) → c < 8 → takes_part p i (base + c) ≡ true → bit m (8 * c + 7) ≡ true)
        → every 64 (λ j. implies (bit m j) (port_ready p chosen i (base + j / 8))) ≡ true → every 8 (λ c. port_ready p chosen i (base + c)) ≡ true
    eight_done base m f d =
        every_all 8 (λ c. port_ready p chosen i (base + c)) (λ c l.
        bool_cases (takes_part p i (base + c))
        (λ t.
        let e : (8 * c + 7) / 8 ≡ c = omega arith in
        subst (λ (x : ℕ). port_ready p chosen i (base + x) ≡ true) e
        (implies-at (bit m (8 * c + 7)) (port_ready p chosen i (base + (8 * c + 7) / 8))
        (every-at 64 (λ j. implies (bit m j) (port_ready p chosen i (base + j / 8))) d (8 * c + 7) (omega arith)) (f c l t)))
        (ready-none (base + c)))

    -- a part of the first eight is not ready
    pub eight_fails : 8 ≤ components p → every 8 (λ c. port_ready p chosen i (0 + c)) ≡ false → false ≡ every (components p) (port_ready p chosen i)
    eight_fails n e =
        bool_cases (every (components p) (port_ready p chosen i))
        (λ y. absurd_bool (every_all 8 (λ c. port_ready p chosen i (0 + c)) (λ c l. every-at (components p) (port_ready p chosen i) y (0 + c) (omega arith))) e) sym

    -- all of them are: the second eight decide
    pub eights : (r : Bool) → 8 ≤ components p → every 8 (λ c. port_ready p chosen i (0 + c)) ≡ true → r ≡ every 8 (λ c. port_ready p chosen i (8 + c))
        → r ≡ every (components p) (port_ready p chosen i)
    eights r n e q =
        q ∙ same_test (every 8 (λ c. port_ready p chosen i (8 + c))) (every (components p) (port_ready p chosen i))
        (λ y.
        every_all (components p) (port_ready p chosen i) (λ k l.
        let n16 : components p ≤ 16 = (laid_accepted p a).components≤ in
        bool_cases (ltb k 8)
        (λ q. ap (port_ready p chosen i) (sym (zero-add k)) ∙ every-at 8 (λ c. port_ready p chosen i (0 + c)) e k (ltb-true k 8 q))
        (λ q.
        let g : 8 ≤ k = ltb-false k 8 q in
        let w : k ≡ 8 + (k - 8) = omega arith in
        ap (port_ready p chosen i) w ∙ every-at 8 (λ c. port_ready p chosen i (8 + c)) y (k - 8) (omega arith))))
        (λ y.
        every_all 8 (λ c. port_ready p chosen i (8 + c)) (λ c l.
        bool_cases (takes_part p i (8 + c))
        (λ t. every-at (components p) (port_ready p chosen i) y (8 + c) (part_lt p a i (8 + c) h (omega arith) t).0)
        (ready-none (8 + c))))
