-- A load in several moves, 02, job 6: "The clerk may hand in a list of moves, 16 bits each", which is committed whole or not at all.
use Rattle.std.specs.Prelude.{ℕ, suc, ◌%◌, Bool, not, cond, List, [], ◌∷◌, length, leb, ltb, eqb}
use Rattle.semantics.specs.Bytes.{entries, all_of}
use Rattle.semantics.specs.Plan.{Plan, interactions}
use Rattle.semantics.specs.Refusal.{Rule, rule}
use Rattle.semantics.specs.Move.{Configuration, after, leads, leads_above, good, replay}

-- The most moves that a list may hold.
abbrev pub max_moves : ℕ
max_moves = 8

-- "22 when the list is empty, odd in bytes, or longer than 8 moves". The list is its bytes.
unfoldable pub list_rules : List ℕ → List Rule
list_rules l = rule 22 (all_of (ltb 0 (length l) ∷ eqb (length l % 2) 0 ∷ leb (length (entries l)) max_moves ∷ [])) ∷ []

-- The move is enabled, and "its verdict is not 0".
unfoldable pub passable : Plan → Configuration → ℕ → Bool
passable p c i = leads p 1 c i

-- An "enabled interaction above it leads to a verdict other than 0".
unfoldable pub blocked : Plan → Configuration → ℕ → Bool
blocked p c i = leads_above p 1 c i

-- "An entry is allowed when it is enabled, its verdict is not 0, and no enabled interaction above it leads to a verdict other than 0." A number of I or more is no
-- interaction.
unfoldable pub entry_allowed : Plan → Configuration → ℕ → Bool
entry_allowed p c i = all_of (ltb i (interactions p) ∷ passable p c i ∷ not (blocked p c i) ∷ [])

-- "the index, from 0, of the first entry not allowed", each judged after those before it; the number of entries where all are allowed.
unfoldable pub stops_at : Plan → Configuration → List ℕ → ℕ
stops_at p c [] = 0
stops_at p c (i ∷ is) = cond (entry_allowed p c i) (suc (stops_at p (after p c i) is)) 0

-- "all are allowed in turn and the last verdict is good".
unfoldable pub completes : Plan → Configuration → List ℕ → Bool
completes p c is = all_of (eqb (stops_at p c is) (length is) ∷ good p (replay p c is) ∷ [])
