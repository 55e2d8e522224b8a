-- The last arm of a match whose arms before it are 0, 1, .. n - 1.
use mathlib.Core.Path.{◌≡◌}
use Prim.Native.Nat.{ℕ, zero, suc, ◌≤◌, zero-le}
use native.Mathlib.Omega.{arith}

-- what is known there of the number matched
abbrev pub Rest : ℕ → ℕ → Type 0
Rest zero k = Unit {0}
Rest (suc n) k = Rest n k × (k ≡ n → ⊥)

pub past : (n k : ℕ) → Rest n k → n ≤ k
past zero k r = zero-le
past (suc n) k r = beyond n k (past n k r.0) r.1
  where
    beyond : (n k : ℕ) → n ≤ k → (k ≡ n → ⊥) → suc n ≤ k
    beyond n k l f = omega arith
