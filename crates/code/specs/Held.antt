-- What the evaluator's arrays stand for: a stack that is an array, a depth and the top.
use Rattle.std.specs.Prelude.{ℕ, zero, suc, List, [], ◌∷◌, get_or, drop, ℤ, pos}
use Rattle.semantics.specs.Code.{operate, operator_pops, Machine, top}

-- The d values below the top, the upper one first: the lowest lies at place 1 of the array.
unfoldable pub under : List ℤ → ℕ → List ℤ
under a zero = []
under a (suc d) = get_or a (suc d) (pos 0) ∷ under a d

-- The stack of depth d with the top t. The first push puts what is no value at place 0, which nothing reads as one.
unfoldable pub held : List ℤ → ℕ → ℤ → List ℤ
held a zero t = []
held a (suc d) t = t ∷ under a d

-- The stack xs after operator n.
abbrev pub combined : ℕ → List ℤ → List ℤ
combined n xs = operate n (get_or xs 1 (pos 0)) (top xs) ∷ drop (operator_pops n) xs

-- The machine of a stack and the variables' values.
abbrev pub machine : List ℤ → List ℤ → Machine
machine xs vs = record { stack = xs; values = vs }
