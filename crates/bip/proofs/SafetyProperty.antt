-- Properties over any alphabet: a safety property is 1-step tolerant, what is in a property throughout is one, and so is the meet of safety properties (002 section
-- 4, definition 11 and proposition 2).
use mathlib.Core.Path.{◌≡◌, refl, sym, ap, ◌∙◌, subst}
use mathlib.Core.Logic.{◌↔◌}
use Prim.Native.Nat.{ℕ, ◌+◌, ◌<◌}
use native.Mathlib.Nat.{le_refl}
use native.Mathlib.Omega.{arith}
use mathlib.Core.List.{List, [], ◌∷◌, ◌++◌, append_assoc, append-nil}
use lib.ListN.{length, length-append}
use Rattle.bip.specs.Property.{Property, Truth, false_for_good, currently_false, currently_true, true_for_good, Evaluates, always, so_far, not_yet, never, Meet, Safety, Throughout, Tolerant}

-- ---- safety and tolerance

-- 002 section 4: a sequence that is currently false is not in the property
pub currently_out : {E : Type 0} {Π : Property E} {σ : List E} → Evaluates Π σ currently_false → Π σ → ⊥
currently_out (not_yet out σ' in_later) = out

-- 002 proposition 2, its proof: no sequence is currently false of a safety property.
pub never_currently_false : {E : Type 0} (Π : Property E) → Safety Π → (σ : List E) → Evaluates Π σ currently_false → ⊥
never_currently_false Π safe σ (not_yet out σ' in_later) = out (safe σ σ' in_later)

-- 002 proposition 2, the inclusion Safety(Σ) ⊆ Tol(1, Σ): a safety property is 1-step tolerant.
pub safety_tolerant : {E : Type 0} (Π : Property E) → Safety Π → Tolerant 1 Π
safety_tolerant Π safe [] σ' now-true deviates = le_refl 1
safety_tolerant Π safe (a ∷ σ) σ' now-true deviates = absurd (never_currently_false Π safe (σ' ++ (a ∷ [])) (deviates a [] σ refl))

module _ {E : Type 0} (Π : Property E) where
  -- 002 section 4: what is in a property throughout is a safety property, whatever the property is,
  pub throughout_safety : Safety (Throughout Π)
  throughout_safety σ σ' h a σₚ rest e = h a σₚ (rest ++ σ') (ap (λ (τ : List E). τ ++ σ') e ∙ append_assoc (a ∷ σₚ) rest σ')

  -- so it is 1-step tolerant (002 proposition 2): a monitor that can go back one step enforces it,
  pub throughout_tolerant : Tolerant 1 (Throughout Π)
  throughout_tolerant = safety_tolerant (Throughout Π) throughout_safety

  -- and of a safety property it is the property itself, but for the empty sequence.
  pub throughout_same : Safety Π → (a : E) (σ : List E) → Throughout Π (a ∷ σ) ↔ Π (a ∷ σ)
  throughout_same safe a σ = ((λ h. h a σ [] (sym (append-nil (a ∷ σ)))), (λ h b σₚ rest e. safe (b ∷ σₚ) rest (subst Π e h)))

-- 002 proposition 2 prints an equality. The other inclusion does not follow from definition 11 as printed: "exactly one event" is 1-step tolerant,
abbrev pub OneEvent : (E : Type 0) → Property E
OneEvent E σ = length σ ≡ 1

longer : {E : Type 0} (σ later : List E) (a : E) → length σ ≡ 1 → length ((σ ++ (a ∷ [])) ++ later) ≡ 1 → ⊥
longer σ later a e q =
    let sum : length ((σ ++ (a ∷ [])) ++ later) ≡ length σ + 1 + length later
    = length-append (σ ++ (a ∷ [])) later ∙ ap (λ (n : ℕ). n + length later) (length-append σ (a ∷ [])) in
    past (length later) (sym (sum ∙ ap (λ (n : ℕ). n + 1 + length later) e) ∙ q)
  where
    past : (n : ℕ) → 1 + 1 + n ≡ 1 → ⊥
    past n h = omega arith

pub one_event_tolerant : (E : Type 0) → Tolerant 1 (OneEvent E)
one_event_tolerant E [] σ' now-true deviates = le_refl 1
one_event_tolerant E (a ∷ σ) σ' (so_far now later out) deviates = absurd (deviation (deviates a [] σ refl))
  where
    deviation : Evaluates (OneEvent E) (σ' ++ (a ∷ [])) currently_false → ⊥
    deviation (not_yet not-now later in_later) = longer σ' later a now in_later

-- not for want of a sequence that is currently true,
pub one_event_true : {E : Type 0} (a : E) → Evaluates (OneEvent E) (a ∷ []) currently_true
one_event_true a = so_far refl (a ∷ []) (longer (a ∷ []) [] a refl)

-- and it is no safety property, where there is an event.
pub one_event_not_safety : {E : Type 0} → E → Safety (OneEvent E) → ⊥
one_event_not_safety a safe = none (safe [] (a ∷ []) refl)
  where
    none : ◌≡◌ {A = ℕ} 0 1 → ⊥
    none h = omega arith

-- ---- the same property

module _ {E : Type 0} {Π Π' : Property E} (same : (σ : List E) → Π σ ↔ Π' σ) where
  pub same_safety : Safety Π → Safety Π'
  same_safety safe σ σ' later = (same σ).0 (safe σ σ' ((same (σ ++ σ')).1 later))

  pub same_evaluates : {σ : List E} {v : Truth} → Evaluates Π σ v → Evaluates Π' σ v
  same_evaluates {σ} (always now later) = always ((same σ).0 now) (λ σ'. (same (σ ++ σ')).0 (later σ'))
  same_evaluates {σ} (so_far now σ' out) = so_far ((same σ).0 now) σ' (λ h. out ((same (σ ++ σ')).1 h))
  same_evaluates {σ} (not_yet out σ' later) = not_yet (λ h. out ((same σ).1 h)) σ' ((same (σ ++ σ')).0 later)
  same_evaluates {σ} (never out none) = never (λ h. out ((same σ).1 h)) (λ σ' h. none σ' ((same (σ ++ σ')).1 h))

-- ---- the meet of properties

module _ {E : Type 0} (k : ℕ) (Π : ℕ → Property E) where
  -- 002 section 4: the meet of safety properties is a safety property
  pub meet_safety : ((n : ℕ) → n < k → Safety (Π n)) → Safety (Meet k Π)
  meet_safety safe σ σ' later n l = safe n l σ σ' (later n l)

  -- 002 proposition 2: so it is 1-step tolerant
  pub meet_tolerant : ((n : ℕ) → n < k → Safety (Π n)) → Tolerant 1 (Meet k Π)
  meet_tolerant safe = safety_tolerant (Meet k Π) (meet_safety safe)

  -- 002 section 4: it is true for good where each property is
  pub meet_always : {σ : List E} → ((n : ℕ) → n < k → Evaluates (Π n) σ true_for_good) → Evaluates (Meet k Π) σ true_for_good
  meet_always {σ} each = always (λ n l. now (each n l)) (λ σ' n l. later (each n l) σ')
    where
      now : {Ψ : Property E} → Evaluates Ψ σ true_for_good → Ψ σ
      now (always h rest) = h

      later : {Ψ : Property E} → Evaluates Ψ σ true_for_good → (σ' : List E) → Ψ (σ ++ σ')
      later (always h rest) = rest

  -- 002 section 4: it is false for good where one of them is
  pub meet_never : {σ : List E} (n : ℕ) → n < k → Evaluates (Π n) σ false_for_good → Evaluates (Meet k Π) σ false_for_good
  meet_never n l (never out none) = never (λ h. out (h n l)) (λ σ' h. none σ' (h n l))

-- ---- verdicts

-- What an oracle's verdict says of the σ that it has read, with Π the property that it denotes: 3 is ⊤ and 0 is ⊥. 2 says only that σ is in the property, and 1 only
-- that it is not: a table may give 2 where every continuation stays good, and 1 where none becomes good.
pub record Judges {E : Type 0} (Π : Property E) (σ : List E) (verdict : ℕ → Type 0) : Type 0 where
  pub on_3 : verdict 3 → Evaluates Π σ true_for_good
  pub on_0 : verdict 0 → Evaluates Π σ false_for_good
  pub on_2 : verdict 2 → Π σ
  pub on_1 : verdict 1 → Π σ → ⊥
