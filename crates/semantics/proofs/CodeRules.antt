-- 01's rules of code words, as laws of the words of an accepted plan.
use mathlib.Core.Path.{◌≡◌, refl, subst}
use Prim.Native.Nat.{ℕ, ◌+◌, ◌<◌}
use mathlib.Core.Bool.{Bool, true, false}
use Rattle.semantics.specs.Plan.{Plan, Span, variables, transitions, interactions, propositions, owner, component_of, guard_of, action_of, takes_part, interaction_guard, transfer_of, proposition_of, word}
use Rattle.semantics.specs.Code.{Instruction, load, store, decode, Role, owned_by, shared_in, declared, allowed, span_ok}
use Rattle.semantics.specs.Rules.{plan_refusal}
use Rattle.semantics.proofs.Basics.{absurd_bool, each, ltb-true, eqb-true}
use Rattle.semantics.proofs.AcceptedPlan.{Accepted, accepted_plan, guard_ok, action_ok, interaction_guard_ok, transfer_ok, proposition_ok}
use Rattle.semantics.proofs.Spans.{span-word}

-- word n of a span
abbrev pub word_in : Plan → Span → ℕ → Instruction
word_in p g n = decode (word p (g.start + n))

-- ---- the variables that code names

-- an instruction that names variable v
pub data Names (v : ℕ) : Instruction → Type 0 where
  loads : Names v (load v)
  stores : Names v (store v)

-- each variable that a word of the span names is such a one
abbrev pub NamesOnly : Plan → Span → (ℕ → Type 0) → Type 0
NamesOnly p g Such = (n v : ℕ) → n < g.size → Names v (word_in p g n) → Such v

-- "A transition's code names its own component's variables, an interaction's those of components taking part, a proposition's any."
pub record CodeNames (p : Plan) : Type 0 where
  pub guard : (t : ℕ) → t < transitions p → NamesOnly p (guard_of p t) (λ v. owner p v ≡ component_of p t)
  pub action : (t : ℕ) → t < transitions p → NamesOnly p (action_of p t) (λ v. owner p v ≡ component_of p t)
  pub interaction-guard : (i : ℕ) → i < interactions p → NamesOnly p (interaction_guard p i) (λ v. takes_part p i (owner p v) ≡ true)
  pub transfer : (i : ℕ) → i < interactions p → NamesOnly p (transfer_of p i) (λ v. takes_part p i (owner p v) ≡ true)
  pub proposition : (k : ℕ) → k < propositions p → NamesOnly p (proposition_of p k) (λ v. v < variables p)

allowed-names : (p : Plan) (r : Role) (names : ℕ → Bool) (v : ℕ) (i : Instruction) → allowed p r names i ≡ true → Names v i → names v ≡ true
unfolding allowed
allowed-names p r names v i h loads = h
allowed-names p r names v i h stores = let (_, (e, _)) = each _ h in e

span-names : (p : Plan) (r : Role) (names : ℕ → Bool) (g : Span) → span_ok p r names g ≡ true → NamesOnly p g (λ v. names v ≡ true)
span-names p r names g h n v l = allowed-names p r names v (word_in p g n) (span-word p r names g h n l)

pub code_names : (p : Plan) → plan_refusal p ≡ 0 → CodeNames p
unfolding owned_by shared_in declared
code_names p z =
    let a : Accepted p = accepted_plan p z in
    record {
      guard = λ t l n v m w. let (_, (e, _)) = each _ (span-names p _ _ (guard_of p t) (guard_ok p a t l) n v m w) in eqb-true _ _ e;
      action = λ t l n v m w. let (_, (e, _)) = each _ (span-names p _ _ (action_of p t) (action_ok p a t l) n v m w) in eqb-true _ _ e;
      interaction-guard = λ i l n v m w. let (_, (e, _)) = each _ (span-names p _ _ (interaction_guard p i) (interaction_guard_ok p a i l) n v m w) in e;
      transfer = λ i l n v m w. let (_, (e, _)) = each _ (span-names p _ _ (transfer_of p i) (transfer_ok p a i l) n v m w) in e;
      proposition = λ k l n v m w. ltb-true _ _ (span-names p _ _ (proposition_of p k) (proposition_ok p a k l) n v m w);
    }

-- ---- code that stores nothing

-- no word of the span is of kind 3
abbrev pub StoresNothing : Plan → Span → Type 0
StoresNothing p g = (n v : ℕ) → n < g.size → word_in p g n ≡ store v → ⊥

-- "Guards and propositions .. hold no kind 3"
pub record OnlyRead (p : Plan) : Type 0 where
  pub guard : (t : ℕ) → t < transitions p → StoresNothing p (guard_of p t)
  pub interaction-guard : (i : ℕ) → i < interactions p → StoresNothing p (interaction_guard p i)
  pub proposition : (k : ℕ) → k < propositions p → StoresNothing p (proposition_of p k)

-- a span that may not store holds none
span_reads : (p : Plan) (r : Role) (names : ℕ → Bool) → r.stores ≡ false → (g : Span) → span_ok p r names g ≡ true → StoresNothing p g
unfolding allowed
span_reads p r names stores_not g h n v l e =
    let ok : allowed p r names (store v) ≡ true = subst (λ (i : Instruction). allowed p r names i ≡ true) e (span-word p r names g h n l) in
    let (s, _) = each _ ok in
    absurd_bool s stores_not

pub only_read : (p : Plan) → plan_refusal p ≡ 0 → OnlyRead p
only_read p z =
    let a : Accepted p = accepted_plan p z in
    record {
      guard = λ t l. span_reads p _ _ refl (guard_of p t) (guard_ok p a t l);
      interaction-guard = λ i l. span_reads p _ _ refl (interaction_guard p i) (interaction_guard_ok p a i l);
      proposition = λ k l. span_reads p _ _ refl (proposition_of p k) (proposition_ok p a k l);
    }
