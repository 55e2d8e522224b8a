-- One code word on the evaluator's machine, kind by kind: what it has, and what it does.
use mathlib.Core.Path.{◌≡◌, refl, sym, ap, subst}
use Prim.Native.Nat.{ℕ, zero, suc, ◌/◌, ◌%◌, ◌≤◌, ◌<◌}
use native.Mathlib.Omega.{arith}
use mathlib.Core.List.{List, [], ◌∷◌}
use lib.ListN.{get_or, set, drop, get_or-eq_default}
use lib.Dec.{eqb}
use lib.IntN.{ℤ, pos}
use Rattle.semantics.specs.Plan.{max_variables}
use Rattle.semantics.specs.Signed.{extend, truth}
use Rattle.semantics.specs.Code.{State, Instruction, push, extend_top, load, store, located, last_port, operator, unknown, instruction, operator_pops, Machine, perform}
use Rattle.arith.proofs.Signed32.{back32}
use Rattle.code.specs.Taken.{Fit}
use Rattle.code.specs.Held.{combined}

-- ---- what a word of a known kind has

module _ (end k n d : ℕ) where
  fit_at : (j : ℕ) → k ≡ j → Fit end (instruction k n) d → Fit end (instruction j n) d
  fit_at j e f = subst (λ (x : ℕ). Fit end (instruction x n) d) e f

  pub fit_push : k ≡ 0 → Fit end (instruction k n) d → d < 8
  unfolding instruction
  fit_push e f = fit_at 0 e f

  pub fit_extend : k ≡ 1 → Fit end (instruction k n) d → (0 < d) × (d ≤ 8)
  unfolding instruction
  fit_extend e f = fit_at 1 e f

  pub fit_load : k ≡ 2 → Fit end (instruction k n) d → (n < max_variables) × (d < 8)
  unfolding instruction
  fit_load e f = fit_at 2 e f

  pub fit_store : k ≡ 3 → Fit end (instruction k n) d → (end ≡ 0) × (n < max_variables) × (0 < d) × (d ≤ 8)
  unfolding instruction
  fit_store e f = fit_at 3 e f

  pub fit_located : k ≡ 4 → Fit end (instruction k n) d → (end ≡ 1) × (d < 8)
  unfolding instruction
  fit_located e f = fit_at 4 e f

  pub fit_port : k ≡ 5 → Fit end (instruction k n) d → (end ≡ 1) × (d < 8)
  unfolding instruction
  fit_port e f = fit_at 5 e f

  pub fit_operator : k ≡ 6 → Fit end (instruction k n) d → (n < 8) × (0 < d) × (operator_pops n ≤ d) × (d ≤ 8)
  unfolding instruction
  fit_operator e f = fit_at 6 e f

-- ---- what it does to a machine with the stack xs and the values vs

module _ (s : State) (k n : ℕ) (xs ys vs : List ℤ) where
  did_at : (j : ℕ) (m : Machine) → k ≡ j → m ≡ perform (instruction j n) s (record { stack = xs; values = vs })
      → m ≡ perform (instruction k n) s (record { stack = xs; values = vs })
  did_at j m e h = subst (λ (x : ℕ). m ≡ perform (instruction x n) s (record { stack = xs; values = vs })) (sym e) h

  -- a machine with the stack ys and the same values
  stacked : (zs : List ℤ) → ys ≡ zs → ◌≡◌ {A = Machine} (record { stack = ys; values = vs }) (record { stack = zs; values = vs })
  stacked zs e = ap {B = Machine} (λ (l : List ℤ). record { stack = l; values = vs }) e

  pub did_push : k ≡ 0 → ys ≡ pos n ∷ xs
      → ◌≡◌ {A = Machine} (record { stack = ys; values = vs }) (perform (instruction k n) s (record { stack = xs; values = vs }))
  unfolding instruction perform
  did_push e h = did_at 0 (record { stack = ys; values = vs }) e (stacked _ h)

  pub did_extend : k ≡ 1 → ys ≡ extend (get_or xs 0 (pos 0)) n ∷ drop 1 xs
      → ◌≡◌ {A = Machine} (record { stack = ys; values = vs }) (perform (instruction k n) s (record { stack = xs; values = vs }))
  unfolding instruction perform
  did_extend e h = did_at 1 (record { stack = ys; values = vs }) e (stacked _ h)

  pub did_load : k ≡ 2 → ys ≡ get_or vs n (pos 0) ∷ xs
      → ◌≡◌ {A = Machine} (record { stack = ys; values = vs }) (perform (instruction k n) s (record { stack = xs; values = vs }))
  unfolding instruction perform
  did_load e h = did_at 2 (record { stack = ys; values = vs }) e (stacked _ h)

  pub did_store : k ≡ 3 → ys ≡ drop 1 xs
      → ◌≡◌ {A = Machine} (record { stack = ys; values = set vs n (get_or xs 0 (pos 0)) }) (perform (instruction k n) s (record { stack = xs; values = vs }))
  unfolding instruction perform
  did_store e h =
      did_at 3 (record { stack = ys; values = set vs n (get_or xs 0 (pos 0)) }) e
      (ap {B = Machine} (λ (l : List ℤ). record { stack = l; values = set vs n (get_or xs 0 (pos 0)) }) h)

  pub did_located : k ≡ 4 → ys ≡ truth (eqb (get_or s.locations (n / 256) 0) (n % 256)) ∷ xs
      → ◌≡◌ {A = Machine} (record { stack = ys; values = vs }) (perform (instruction k n) s (record { stack = xs; values = vs }))
  unfolding instruction perform
  did_located e h = did_at 4 (record { stack = ys; values = vs }) e (stacked _ h)

  pub did_port : k ≡ 5 → ys ≡ truth (eqb (get_or s.last_ports (n / 256) 0) (n % 256)) ∷ xs
      → ◌≡◌ {A = Machine} (record { stack = ys; values = vs }) (perform (instruction k n) s (record { stack = xs; values = vs }))
  unfolding instruction perform
  did_port e h = did_at 5 (record { stack = ys; values = vs }) e (stacked _ h)

  pub did_operator : k ≡ 6 → ys ≡ combined n xs
      → ◌≡◌ {A = Machine} (record { stack = ys; values = vs }) (perform (instruction k n) s (record { stack = xs; values = vs }))
  unfolding instruction perform
  did_operator e h = did_at 6 (record { stack = ys; values = vs }) e (stacked _ h)

-- no kind past 6 is known
instruction_past : (k n : ℕ) → 7 ≤ k → instruction k n ≡ unknown
unfolding instruction
instruction_past k n h =
    get_or-eq_default
    (push n ∷ extend_top n ∷ load n ∷ store n ∷ located (n / 256) (n % 256) ∷ last_port (n / 256) (n % 256) ∷ operator n ∷ []) unknown h

-- of the kinds from 6 on only that of the operators is known
pub last_known : (end k n d : ℕ) → 6 ≤ k → Fit end (instruction k n) d → k ≡ 6
last_known end zero n d h f = absurd (omega arith)
last_known end (suc zero) n d h f = absurd (omega arith)
last_known end (suc (suc zero)) n d h f = absurd (omega arith)
last_known end (suc (suc (suc zero))) n d h f = absurd (omega arith)
last_known end (suc (suc (suc (suc zero)))) n d h f = absurd (omega arith)
last_known end (suc (suc (suc (suc (suc zero))))) n d h f = absurd (omega arith)
last_known end (suc (suc (suc (suc (suc (suc zero)))))) n d h f = refl
last_known end (suc (suc (suc (suc (suc (suc (suc k))))))) n d h f =
    absurd (subst (λ (i : Instruction). Fit end i d) (instruction_past (suc (suc (suc (suc (suc (suc (suc k))))))) n (omega arith)) f)

-- of the kinds 2 and 3 a guard has the first
pub guard_loads : (k n d : ℕ) → 2 ≤ k → k < 4 → Fit 1 (instruction k n) d → k ≡ 2
unfolding instruction
guard_loads zero n d h l f = absurd (omega arith)
guard_loads (suc zero) n d h l f = absurd (omega arith)
guard_loads (suc (suc zero)) n d h l f = refl
guard_loads (suc (suc (suc zero))) n d h l f = let z : ◌≡◌ {A = ℕ} 1 0 = f.0 in absurd (omega arith)
guard_loads (suc (suc (suc (suc k)))) n d h l f = absurd (omega arith)

-- of the kinds 3 to 5 an action has the first
pub action_stores : (k n d : ℕ) → 3 ≤ k → k < 6 → Fit 0 (instruction k n) d → k ≡ 3
unfolding instruction
action_stores zero n d h l f = absurd (omega arith)
action_stores (suc zero) n d h l f = absurd (omega arith)
action_stores (suc (suc zero)) n d h l f = absurd (omega arith)
action_stores (suc (suc (suc zero))) n d h l f = refl
action_stores (suc (suc (suc (suc zero)))) n d h l f = let z : ◌≡◌ {A = ℕ} 0 1 = f.0 in absurd (omega arith)
action_stores (suc (suc (suc (suc (suc zero))))) n d h l f = let z : ◌≡◌ {A = ℕ} 0 1 = f.0 in absurd (omega arith)
action_stores (suc (suc (suc (suc (suc (suc k)))))) n d h l f = absurd (omega arith)

-- what `read` and `step` stand on
pub ruleset performing = (back32, fit_push, fit_extend, fit_load, fit_store, fit_located, fit_port, fit_operator, did_push, did_extend, did_load, did_store, did_located, did_port, did_operator, last_known, guard_loads, action_stores)
