-- Two accepted plans that differ in one more oracle: 01's sample lane, and the same with one added (02, job 1). So the laws of `OneMoreOracle` speak of some plans.
use mathlib.Core.Path.{◌≡◌, refl, sym, ap, ◌∙◌, subst}
use Prim.Native.Nat.{ℕ, ◌+◌, ◌-◌, ◌<◌, ◌≤◌}
use native.Mathlib.Omega.{arith}
use mathlib.Core.List.{List, []}
use lib.ListN.{get_or, take, drop}
use lib.Seq.{get_or-take, get_or-drop}
use Rattle.semantics.specs.Bytes.{byte, table}
use Rattle.semantics.specs.Plan.{Plan, section, section_size, added_oracles}
use Rattle.semantics.specs.Rules.{plan_refusal}
use Rattle.semantics.specs.Sample.{sample, one_oracle_more}
use Rattle.semantics.proofs.Basics.{get_or-table}
use Rattle.semantics.proofs.SameTables.{OneMore}
use Rattle.semantics.proofs.Meaning.{in_bytes, in_code, in_plan, in_refusal, in_rules, in_sample, in_signed}

-- both are accepted
pub sample-accepted : plan_refusal sample ≡ 0
unfolding in_bytes in_code in_plan in_refusal in_rules in_sample in_signed
sample-accepted = refl

pub one_more_accepted : plan_refusal one_oracle_more ≡ 0
unfolding in_bytes in_code in_plan in_refusal in_rules in_sample in_signed
one_more_accepted = refl

none_added : added_oracles sample ≡ 0
unfolding in_sample in_bytes
none_added = refl

-- the bytes that they share: the counts, and as many bytes of each section as the first has
abbrev counts_of : Plan → List ℕ
counts_of p = take 16 (drop 10 p)

counts-agree : counts_of one_oracle_more ≡ counts_of sample
unfolding in_bytes in_sample
counts-agree = refl

abbrev part_of : Plan → ℕ → List ℕ
part_of p n = take (section_size sample n) (drop (section p n) p)

sections-agree : table 8 (part_of one_oracle_more) ≡ table 8 (part_of sample)
unfolding in_bytes in_plan in_sample
sections-agree = refl

part_agrees : (n : ℕ) → n < 8 → part_of one_oracle_more n ≡ part_of sample n
part_agrees n h =
    sym (get_or-table 8 (part_of one_oracle_more) [] n h) ∙ ap (λ (ps : List (List ℕ)). get_or ps n []) sections-agree ∙ get_or-table 8 (part_of sample) [] n h

-- byte k of n bytes from a place on
byte_in : (p : Plan) (at n k : ℕ) → k < n → get_or (take n (drop at p)) k 0 ≡ byte p (at + k)
byte_in p at n k l = get_or-take n (drop at p) k 0 l ∙ get_or-drop at p k 0

-- the second is the first with one oracle more
pub sample_one_more : OneMore sample one_oracle_more
sample_one_more =
    record {
      one_more = unfold in_bytes in_sample in refl;
      same_counts = λ k low high. subst (λ (j : ℕ). byte one_oracle_more j ≡ byte sample j) (back k low) (same_count (k - 10) (omega arith));
      same_states = λ k l. absurd (omega (arith, none_added, l));
      same_sections = λ n k h l.
          sym (byte_in one_oracle_more (section one_oracle_more n) (section_size sample n) k l) ∙ ap (λ (bs : List ℕ). get_or bs k 0) (part_agrees n h)
          ∙ byte_in sample (section sample n) (section_size sample n) k l;
    }
  where
    back : (k : ℕ) → 10 ≤ k → 10 + (k - 10) ≡ k
    back k h = omega arith

    same_count : (k : ℕ) → k < 16 → byte one_oracle_more (10 + k) ≡ byte sample (10 + k)
    same_count k l = sym (byte_in one_oracle_more 10 16 k l) ∙ ap (λ (bs : List ℕ). get_or bs k 0) counts-agree ∙ byte_in sample 10 16 k l
