-- Properties over events and how a sequence of events stands to one: 002 section 4 and definition 11. Σ is any alphabet E.
use Rattle.std.specs.Prelude.{◌≡◌, ℕ, ◌<◌, List, ◌∷◌, ◌++◌, length}

-- 002 section 4: a property Π over Σ is a subset of Σ*.
abbrev pub Property : Type 0 → Type 1
Property E = List E → Type 0

-- The truth values of 𝔹₄: ⊥, ⊥_c, ⊤_c, ⊤.
pub data Truth : Type 0 where
  false_for_good : Truth
  currently_false : Truth
  currently_true : Truth
  true_for_good : Truth

-- 002 section 4, ⟦σ⟧ in 𝔹₄, with its four cases.
pub data Evaluates {E : Type 0} (Π : Property E) (σ : List E) : Truth → Type 0 where
  always : Π σ → ((σ' : List E) → Π (σ ++ σ')) → Evaluates Π σ true_for_good
  so_far : Π σ → (σ' : List E) → (Π (σ ++ σ') → ⊥) → Evaluates Π σ currently_true
  not_yet : (Π σ → ⊥) → (σ' : List E) → Π (σ ++ σ') → Evaluates Π σ currently_false
  never : (Π σ → ⊥) → ((σ' : List E) → Π (σ ++ σ') → ⊥) → Evaluates Π σ false_for_good

-- The meet of k properties: what is in all of them.
abbrev pub Meet : {E : Type 0} → ℕ → (ℕ → Property E) → Property E
Meet k Π σ = (n : ℕ) → n < k → Π n σ

-- 002 section 4: "Safety properties are the prefix closed subsets of Σ*."
abbrev pub Safety : {E : Type 0} → Property E → Type 0
Safety {E} Π = (σ σ' : List E) → Π (σ ++ σ') → Π σ

-- What is in Π throughout: every non-empty prefix is.
abbrev pub Throughout : {E : Type 0} → Property E → Property E
Throughout {E} Π σ = (a : E) (σₚ rest : List E) → σ ≡ (a ∷ σₚ) ++ rest → Π (a ∷ σₚ)

-- 002 definition 11, condition (2): every non-empty prefix of σ, behind σ', is currently false.
abbrev pub Deviates : {E : Type 0} → Property E → List E → List E → Type 0
Deviates {E} Π σ' σ = (a : E) (σₚ rest : List E) → σ ≡ (a ∷ σₚ) ++ rest → Evaluates Π (σ' ++ (a ∷ σₚ)) currently_false

-- 002 definition 11: Π is k-step tolerant when every σ that deviates behind a currently true σ' is shorter than k.
abbrev pub Tolerant : {E : Type 0} → ℕ → Property E → Type 0
Tolerant {E} k Π = (σ σ' : List E) → Evaluates Π σ' currently_true → Deviates Π σ' σ → length σ < k
