-- A span that passed the checker, and what each of its words has where it stands.
use Rattle.std.specs.Prelude.{◌≡◌, ℕ, ◌≤◌, ◌<◌, Bool, true, false}
use Rattle.semantics.specs.Plan.{Plan, Span, max_variables, variables}
use Rattle.semantics.specs.Code.{Instruction, push, extend_top, load, store, located, last_port, operator, unknown, operator_pops, Role, final_depth, span_ok}

-- The span keeps the rules of some role, which ends at the depth `end`: 1 for a guard or a proposition, 0 for an action or a transfer.
pub record Taken (p : Plan) (end : ℕ) (g : Span) : Type 0 where
  pub role : Role
  pub names : ℕ → Bool
  pub ok : span_ok p role names g ≡ true
  pub ends_at_lem : final_depth role ≡ end
  -- it names variables of the plan alone
  pub declared : (v : ℕ) → names v ≡ true → v < variables p
  -- what stores looks at no location and at no last port
  pub blind : role.stores ≡ true → role.looks ≡ false

-- What an instruction of such a span has at the depth d: the values that it pops, room for what it pushes, a variable that the image has.
-- Spans that end at 1 store nothing; spans that end at 0 look at no location and at no last port.
abbrev pub Fit : ℕ → Instruction → ℕ → Type 0
Fit end (push n) d = d < 8
Fit end (extend_top n) d = (0 < d) × (d ≤ 8)
Fit end (load n) d = (n < max_variables) × (d < 8)
Fit end (store n) d = (end ≡ 0) × (n < max_variables) × (0 < d) × (d ≤ 8)
Fit end (located c l) d = (end ≡ 1) × (d < 8)
Fit end (last_port c q) d = (end ≡ 1) × (d < 8)
Fit end (operator n) d = (n < 8) × (0 < d) × (operator_pops n ≤ d) × (d ≤ 8)
Fit end unknown d = ⊥
