use mathlib.Core.Path.{◌≡◌, refl, sym, subst}
use mathlib.Core.Bool.{Bool, true, false}
use Prim.Native.Nat.{ℕ, ◌<◌}
use native.Mathlib.Omega.{arith}
use borrow.Author.Rules.{rules}
use borrow.Author.Tests.{tests}
use lib.ListN.{length, get_or}
use Rattle.std.specs.Bool.{MatchBool}
use Rattle.std.specs.List.{range_with_len, AllWithin, HoldsAt}
use Rattle.std.proofs.lemmas.Iterator.{serves_from_Range, cases_from_all, YieldsList-from_range}
use Rattle.std.proofs.lemmas.List.FromFn.{length-range_with_len, get_or-range_with_len}
use Rattle.semantics.specs.Bytes.{every}
use Rattle.semantics.proofs.Basics.{every_all, every_fails}
use Rattle.words.proofs.each.every.Goals as goal

-- the test has answered b at a number below n
abbrev Says : Bool → ℕ → (ℕ → Bool) → ℕ → Type 0
Says b n holds x = x < n → b ≡ holds x

at : (n k : ℕ) → k < n → get_or (range_with_len 0 n) k 0 ≡ k
at n k l = omega (arith, get_or-range_with_len 0 n k 0 l)

decides : (n : ℕ) (holds : ℕ → Bool) (r : Bool)
    → MatchBool r (AllWithin (Says true n holds) (range_with_len 0 n) 0 (length (range_with_len 0 n))) ((k : ℕ) × (k < length (range_with_len 0 n)) × HoldsAt (Says false n holds) (range_with_len 0 n) k)
    → r ≡ every n holds
decides n holds true a =
    sym (every_all n holds (λ k l. sym (subst (Says true n holds) (at n k l) (a k 0 (omega arith) (omega (arith, l, length-range_with_len 0 n))) l)))
decides n holds false (k, m, h) =
    let l : k < n = omega (arith, m, length-range_with_len 0 n) in
    sym (every_fails n holds k l (sym (subst (Says false n holds) (at n k l) (h 0) l)))

pub all-requires-clause-callable : goal.all-requires-clause-callable
all-requires-clause-callable g c = serves_from_Range (λ x q h. search (rules, tests)) (λ x a b. search (rules, c.requires x b))

pub returns : goal.returns
returns g c = λ holds h.
    decides c.args.n holds c.all.result
    (cases_from_all _ _ c.all.result (Says true c.args.n holds) (Says false c.args.n holds) c.all.ensures.ran
    (YieldsList-from_range 0 c.args.n c.args.n refl (omega arith))
    (λ x q k. (search (rules, tests), λ l. h x true l (search rules)))
    (λ x q k. λ l. h x false l (search rules)))
