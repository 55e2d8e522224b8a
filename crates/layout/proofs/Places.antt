-- Where the rows of a table lie, and how large those of the oracles are.
use mathlib.Core.Path.{◌≡◌, refl, ap}
use Prim.Native.Nat.{ℕ, zero, suc, ◌+◌, ◌*◌, ◌^◌, ◌≤◌, ◌<◌}
use native.Mathlib.Nat.{mul-suc, mul-le-mul_left, mul-le-mul}
use native.Mathlib.Omega.{arith}
use lib.Pow.{pow_mono}
use lib.ListN.{length}
use Rattle.semantics.specs.Bytes.{byte, u16, u32}
use Rattle.semantics.specs.Plan.{Plan, max_oracles, oracle_states, states_before, letters, section, oracle_at}
use Rattle.semantics.proofs.Oracles.{states_end}
use Rattle.layout.specs.Laid.{Laid}

pub power_low : (n : ℕ) → n ≤ 4 → 2 ^ n ≤ 16
power_low n h = pow_mono {i = n} {j = 4} h

-- rows of at most seventeen bytes, at most four times thirty-two of them
pub rows_low : (width q : ℕ) → width ≤ 17 → q < 128 → width * q ≤ 2176
rows_low width q h l = mul-le-mul {n₁ = width} {m₁ = q} {n₂ = 17} {m₂ = 128} h (omega arith)

-- row q lies where all rows do
pub row_in : (start width count q long : ℕ) → q < count → start + width * count ≤ long → start + width * q + width ≤ long
row_in start width count q long h k =
    let e : width * suc q ≤ width * count = mul-le-mul_left width h in
    let s : width * suc q ≡ width * q + width = mul-suc width q in
    omega arith

-- a state of oracle n has a row before those of the oracles behind it
pub row_before : (p : Plan) (m n q : ℕ) → n < m → q < oracle_states p n → states_before p n + q < states_before p m
row_before p m n q h l = omega (arith, l, states_end p n m h)

-- the row of a state of oracle n
pub oracle_row_in : (p : Plan) → Laid p → (n q : ℕ) → n < max_oracles → q < oracle_states p n → oracle_at p n q + (1 + letters p) ≤ length p
oracle_row_in p l n q h k =
    row_in (section p 6) (1 + letters p) (states_before p max_oracles) (states_before p n + q) (length p) (row_before p max_oracles n q h k) l.oracle_in

-- where the count of the first oracle's states stands, and where those of the added ones do
pub first_states : (p : Plan) (n : ℕ) → n ≡ 0 → oracle_states p n ≡ u16 p 20
unfolding oracle_states
first_states p n e = rw e refl

pub added_states : (p : Plan) (n : ℕ) → (n ≡ 0 → ⊥) → oracle_states p n ≡ byte p (42 + n)
unfolding oracle_states
added_states p zero h = absurd (h refl)
added_states p (suc n) h = ap (byte p) (omega arith)

-- where the four bytes of the added oracles are zero, all states are the first oracle's
pub first_alone : (p : Plan) → u32 p 42 ≡ 0 → oracle_states p 0 ≡ states_before p max_oracles
unfolding u32 states_before oracle_states
first_alone p e = omega (arith, e)
