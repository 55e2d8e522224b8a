-- A port byte against the table of limits is the rule of refusal 7.
use mathlib.Core.Path.{◌≡◌, sym, ap, ◌∙◌}
use mathlib.Core.Bool.{Bool, true, false, cond, ◌||◌}
use mathlib.Core.List.{List, [], ◌∷◌}
use Prim.Native.Nat.{ℕ, ◌<◌, zero-le}
use lib.ListN.{get_or}
use lib.Dec.{ltb, eqb}
use Rattle.semantics.specs.Bytes.{all_of}
use Rattle.semantics.specs.Plan.{Plan, components, ports, port_in}
use Rattle.semantics.specs.Rules.{port_ok}
use Rattle.semantics.proofs.Basics.{le-ltb}
use Rattle.tables.specs.Limits.{Limits, limit}
use Rattle.words.proofs.TestLaws.{tests}

-- a limit of 0 lets no port through
limited : (b : Bool) (x n : ℕ) → ltb x (cond b n 0) ≡ all_of (b ∷ ltb x n ∷ [])
unfolding all_of
limited true x n = sym (tests (ltb x n) [])
limited false x n = le-ltb x 0 zero-le

pub port_rule : (p : Plan) (l : List ℕ) → Limits p l → (i c : ℕ) → c < 16 → (eqb (port_in p i c) 255 || ltb (port_in p i c) (get_or l c 0)) ≡ port_ok p i c
unfolding port_ok limit
port_rule p l t i c h =
    ap (λ (b : Bool). eqb (port_in p i c) 255 || b)
    (ap (ltb (port_in p i c)) (t.at c h) ∙ limited (ltb c (components p)) (port_in p i c) (ports p c))
