-- Each limit of 01 and 02 once: what is kept at the limit, and broken one past it. One table, one proof.
use mathlib.Core.Path.{◌≡◌, refl}
use Prim.Native.Nat.{ℕ, suc, ◌+◌, ◌-◌, ◌*◌}
use mathlib.Core.Bool.{Bool, true, false, cond}
use mathlib.Core.List.{List, [], ◌∷◌, ◌++◌, map}
use lib.ListN.{length, replicate, take, drop}
use lib.Dec.{eqb}
use Rattle.semantics.specs.Plan.{Plan, max_components, max_variables, max_interactions, max_oracles}
use Rattle.semantics.specs.Code.{as_guard, span_ok}
use Rattle.semantics.specs.Refusal.{refusal}
use Rattle.semantics.specs.Rules.{counts_ok, component_ok}
use Rattle.semantics.specs.Image.{image_length, length_rule}
use Rattle.semantics.specs.Load.{max_moves, list_rules}
use Rattle.semantics.specs.Sample.{half, joined, sample}
use Rattle.semantics.specs.Cases.{Case, case, all_agree}
use Rattle.semantics.proofs.Meaning.{in_bytes, in_cases, in_code, in_image, in_load, in_plan, in_refusal, in_rules, in_sample, in_signed}

-- The test f at each of these numbers: 1 where it holds.
abbrev tested : (ℕ → Bool) → List ℕ → List ℕ
tested f ns = map (λ n. cond (f n) 1 0) ns

-- "(0–n)" and "(1–n)": f holds at both ends, and not one past them.
abbrev from0 : (ℕ → Bool) → ℕ → Case
from0 f n = case (tested f (0 ∷ n ∷ suc n ∷ [])) (1 ∷ 1 ∷ 0 ∷ [])

abbrev from1 : (ℕ → Bool) → ℕ → Case
from1 f n = case (tested f (0 ∷ 1 ∷ n ∷ suc n ∷ [])) (0 ∷ 1 ∷ 1 ∷ 0 ∷ [])

-- The sample with these bytes from a place on.
abbrev put : ℕ → List ℕ → Plan
put at bs = take at sample ++ bs ++ drop (at + length bs) sample

-- The counts of the sample with n in the 16-bit field at a place: the condition of 2.
abbrev field : ℕ → ℕ → Bool
field at n = counts_ok (put at (half n))

-- n oracles added, of one state each.
abbrev adding : ℕ → Bool
adding n = counts_ok (put 42 (n ∷ take 3 (replicate n 1 ++ replicate 3 0)))

-- A plan's code alone: so many words, from byte 48 on.
abbrev coded : List ℕ → Plan
coded words = replicate 24 0 ++ half (length words) ++ replicate 14 0 ++ half 48 ++ replicate 6 0 ++ joined (map half words)

-- A guard of these words, which names no variable, keeps the rules of a span: the condition of 10.
abbrev accepts : List ℕ → Bool
accepts words = span_ok (coded words) as_guard (λ v. false) (record { start = 0; size = length words })

unfoldable pub limits : List Case
limits =
    -- "components C (1–16); 12 variables V (0–64); 14 transitions T (0–256); 16 interactions I (1–64); 18 propositions K (0–4)"
    from1 (field 10) 16
    ∷ from0 (field 12) 64
    ∷ from0 (field 14) 256
    ∷ from1 (field 16) 64
    ∷ from0 (field 18) 4
    -- "20 oracle states S (1–32); .. 24 code words W (0–4096)"
    ∷ from1 (field 20) 32
    ∷ from0 (field 24) 4096
    -- 02, job 1: "Byte 42 gives how many (0–3) and bytes 43–45 their state counts (1–32 ..)"
    ∷ from0 adding 3
    ∷ from1 (λ n. counts_ok (put 42 (1 ∷ n ∷ []))) 32
    -- "locations (1–16), .. ports (1–16)", of the sample's component
    ∷ from1 (λ n. component_ok (put 48 (n ∷ [])) 0) 16
    ∷ from1 (λ n. component_ok (put 50 (n ∷ [])) 0) 16
    -- "A span has at most 64 words": a push and as many nots
    ∷ case (tested (λ n. accepts (0x0000 ∷ replicate n 0x6006)) (63 ∷ 64 ∷ [])) (1 ∷ 0 ∷ [])
    -- "and a depth of at most 8": so many pushes, and adds for all but one
    ∷ case (tested (λ n. accepts (replicate n 0x0001 ++ replicate (n - 1) 0x6000)) (8 ∷ 9 ∷ [])) (1 ∷ 0 ∷ [])
    -- "11: the image slice is not 312 bytes"
    ∷ case (tested (λ n. (length_rule (replicate n 0)).kept) (311 ∷ 312 ∷ 313 ∷ [])) (0 ∷ 1 ∷ 0 ∷ [])
    -- 02, job 6: "22 when the list is empty, .. or longer than 8 moves"
    ∷ from1 (λ n. eqb (refusal (list_rules (replicate (2 * n) 0))) 0) 8
    -- the names of these numbers: an image has room for as many components, variables, interactions and oracles
    ∷ case (max_components ∷ max_variables ∷ max_interactions ∷ max_oracles ∷ image_length ∷ max_moves ∷ []) (16 ∷ 64 ∷ 64 ∷ 4 ∷ 312 ∷ 8 ∷ [])
    ∷ []

pub limits_hold : all_agree limits ≡ true
unfolding in_bytes in_cases in_code in_image in_load in_plan in_refusal in_rules in_sample in_signed limits
limits_hold = refl
