-- Code words, 01 "Code words": what each word does, and the rules that a span keeps.
use Rattle.std.specs.Prelude.{ℕ, zero, suc, ◌+◌, ◌-◌, ◌/◌, ◌%◌, Bool, true, false, not, cond, ◌&&◌, ◌||◌, List, [], ◌∷◌, get_or, set, drop, leb, ltb, eqb, ℤ, pos}
use Rattle.std.proofs.Math.Option.{Option, none, some}
use Rattle.semantics.specs.Bytes.{all_of, implies}
use Rattle.semantics.specs.Signed.{add, subtract, extend, equal_z, at_least, holds, truth}
use Rattle.semantics.specs.Plan.{Plan, Span, no_port, components, variables, code_words, locations, ports, owner, takes_part, word}

-- The state of the components: the location and the last port of each (sixteen places), and the variables' values (sixty-four).
pub record State : Type 0 where
  pub locations : List ℕ
  pub last_ports : List ℕ
  pub values : List ℤ

-- The state of three lists.
abbrev pub site : List ℕ → List ℕ → List ℤ → State
site l q v = record { locations = l; last_ports = q; values = v }

-- A valuation alone, for what looks at no location and no port.
abbrev pub valued : List ℤ → State
valued v = site [] [] v

pub data Instruction : Type 0 where
  push : ℕ → Instruction
  extend_top : ℕ → Instruction
  load : ℕ → Instruction
  store : ℕ → Instruction
  located : ℕ → ℕ → Instruction
  last_port : ℕ → ℕ → Instruction
  operator : ℕ → Instruction
  unknown : Instruction

-- "0 pushes the operand. 1 replaces the top .. 2 pushes variable n. 3 pops into variable n. 4 pushes 1 when component (bits 8–11)
-- is at location (bits 0–7), else 0. 5 is the same for its last port .. 6 is an operator"; no kind past 6 is known.
unfoldable pub instruction : ℕ → ℕ → Instruction
instruction kind n =
    get_or (push n ∷ extend_top n ∷ load n ∷ store n ∷ located (n / 256) (n % 256) ∷ last_port (n / 256) (n % 256) ∷ operator n ∷ []) kind unknown

-- "The top four bits are the kind, the low twelve the operand."
unfoldable pub decode : ℕ → Instruction
decode w = instruction (w / 4096) (w % 4096)

-- "0 add, 1 subtract, 2 equal, 3 at least, 4 and, 5 or, 6 not, 7 implies", the deeper value on the left; not reads the top alone.
unfoldable pub operate : ℕ → ℤ → ℤ → ℤ
operate n left right =
    get_or (add left right ∷ subtract left right ∷ truth (equal_z left right) ∷ truth (at_least left right)
    ∷ truth (holds left && holds right) ∷ truth (holds left || holds right) ∷ truth (not (holds right))
    ∷ truth (implies (holds left) (holds right)) ∷ []) n (pos 0)

-- "Operators pop two values .., except not, which pops one; each pushes one."
unfoldable pub operator_pops : ℕ → ℕ
operator_pops n = get_or (2 ∷ 2 ∷ 2 ∷ 2 ∷ 2 ∷ 2 ∷ 1 ∷ 2 ∷ []) n 0

unfoldable pub operator_pushes : ℕ → ℕ
operator_pushes n = get_or (1 ∷ 1 ∷ 1 ∷ 1 ∷ 1 ∷ 1 ∷ 1 ∷ 1 ∷ []) n 0

-- What code works on: a stack, the top first, and the variables' values.
pub record Machine : Type 0 where
  pub stack : List ℤ
  pub values : List ℤ

abbrev pub top : List ℤ → ℤ
top stack = get_or stack 0 (pos 0)

-- What one instruction does, in the state s of the components.
unfoldable pub perform : Instruction → State → Machine → Machine
perform (push n) s m = record { stack = pos n ∷ m.stack; values = m.values }
perform (extend_top n) s m = record { stack = extend (top m.stack) n ∷ drop 1 m.stack; values = m.values }
perform (load n) s m = record { stack = get_or m.values n (pos 0) ∷ m.stack; values = m.values }
perform (store n) s m = record { stack = drop 1 m.stack; values = set m.values n (top m.stack) }
perform (located c l) s m = record { stack = truth (eqb (get_or s.locations c 0) l) ∷ m.stack; values = m.values }
perform (last_port c q) s m = record { stack = truth (eqb (get_or s.last_ports c 0) q) ∷ m.stack; values = m.values }
perform (operator n) s m =
    record { stack = operate n (get_or m.stack 1 (pos 0)) (top m.stack) ∷ drop (operator_pops n) m.stack; values = m.values }
perform unknown s m = m

-- The machine after the first n words from word k on, begun with an empty stack in the state s.
unfoldable pub ran : Plan → State → ℕ → ℕ → Machine
ran p s k zero = record { stack = []; values = s.values }
ran p s k (suc n) = perform (decode (word p (k + n))) s (ran p s k n)

-- "An empty guard is true"; any other holds when it leaves a true value.
unfoldable pub guard_holds : Plan → State → Span → Bool
guard_holds p s g = cond (eqb g.size 0) true (holds (top (ran p s g.start g.size).stack))

-- The state after an action or a transfer: "An empty action or transfer does nothing."
unfoldable pub acted : Plan → State → Span → State
acted p s g = record { locations = s.locations; last_ports = s.last_ports; values = (ran p s g.start g.size).values }

-- ---- the rules of a span

-- What a span is for: whether it may store (kind 3), and whether it may look at locations and last ports (kinds 4 and 5).
pub record Role : Type 0 where
  pub stores : Bool
  pub looks : Bool

-- "Guards and propositions .. hold no kind 3"; "Kinds 4 and 5 stand in propositions alone."
abbrev pub as_guard : Role
as_guard = record { stores = false; looks = false }

-- An action or a transfer.
abbrev pub as_update : Role
as_update = record { stores = true; looks = false }

abbrev pub as_proposition : Role
as_proposition = record { stores = false; looks = true }

-- "A transition's code names its own component's variables, an interaction's those of components taking part, a proposition's any."
unfoldable pub owned_by : Plan → ℕ → ℕ → Bool
owned_by p c v = all_of (ltb v (variables p) ∷ eqb (owner p v) c ∷ [])

unfoldable pub shared_in : Plan → ℕ → ℕ → Bool
shared_in p i v = all_of (ltb v (variables p) ∷ takes_part p i (owner p v) ∷ [])

unfoldable pub declared : Plan → ℕ → Bool
declared p v = ltb v (variables p)

-- "Kinds 7 to 15, operators past 7, .. and naming what the plan lacks break the code rules." A last port may be none yet.
unfoldable pub allowed : Plan → Role → (ℕ → Bool) → Instruction → Bool
allowed p r names (push n) = true
allowed p r names (extend_top n) = true
allowed p r names (load n) = names n
allowed p r names (store n) = all_of (r.stores ∷ names n ∷ [])
allowed p r names (located c l) = all_of (r.looks ∷ ltb c (components p) ∷ ltb l (locations p c) ∷ [])
allowed p r names (last_port c q) = all_of (r.looks ∷ ltb c (components p) ∷ (eqb q no_port || ltb q (ports p c)) ∷ [])
allowed p r names (operator n) = ltb n 8
allowed p r names unknown = false

unfoldable pub pops : Instruction → ℕ
pops (push n) = 0
pops (extend_top n) = 1
pops (load n) = 0
pops (store n) = 1
pops (located c l) = 0
pops (last_port c q) = 0
pops (operator n) = operator_pops n
pops unknown = 0

unfoldable pub pushes : Instruction → ℕ
pushes (push n) = 1
pushes (extend_top n) = 1
pushes (load n) = 1
pushes (store n) = 0
pushes (located c l) = 1
pushes (last_port c q) = 1
pushes (operator n) = operator_pushes n
pushes unknown = 0

-- The depth after a word that is allowed, needs so many values and gives so many; none where a rule is broken.
-- "A span has .. a depth of at most 8", after every word; "a pop or kind 1 on an empty stack" breaks the rules.
unfoldable pub depth_after : Bool → ℕ → ℕ → ℕ → Option ℕ
depth_after ok need give d = cond (all_of (ok ∷ leb need d ∷ leb (d - need + give) 8 ∷ [])) (some (d - need + give)) none

unfoldable pub deeper : Plan → Role → (ℕ → Bool) → Instruction → Option ℕ → Option ℕ
deeper p r names i none = none
deeper p r names i (some d) = depth_after (allowed p r names i) (pops i) (pushes i) d

-- The depth after the first n words from word k on.
unfoldable pub depth : Plan → Role → (ℕ → Bool) → ℕ → ℕ → Option ℕ
depth p r names k zero = some 0
depth p r names k (suc n) = deeper p r names (decode (word p (k + n))) (depth p r names k n)

-- "Guards and propositions end at depth 1 ..; actions and transfers end at depth 0."
unfoldable pub final_depth : Role → ℕ
final_depth r = cond r.stores 0 1

unfoldable pub ends_at : ℕ → Option ℕ → Bool
ends_at d none = false
ends_at d (some e) = eqb e d

-- "A span has at most 64 words", "start plus length" is at most W, and "an empty proposition is refused".
unfoldable pub span_ok : Plan → Role → (ℕ → Bool) → Span → Bool
span_ok p r names g =
    all_of (leb g.size 64 ∷ leb (g.start + g.size) (code_words p)
    ∷ cond (eqb g.size 0) (not r.looks) (ends_at (final_depth r) (depth p r names g.start g.size)) ∷ [])
