-- A list with a part of it written over.
use Rattle.std.specs.Prelude.{ℕ, ◌+◌, List, ◌++◌, length, take, drop}

-- l with its entries from place k on replaced by vs.
unfoldable pub splice : List ℕ → ℕ → List ℕ → List ℕ
splice l k vs = take k l ++ vs ++ drop (k + length vs) l
