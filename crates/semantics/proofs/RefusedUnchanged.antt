-- "Every refusal changes no byte", 01 "Who causes which number": a call whose answer is of kind 5 leaves the image as it was.
-- A call that is not refused keeps each of its rules and is performed.
use mathlib.Core.Path.{◌≡◌, refl, sym, ap, ◌∙◌, subst}
use mathlib.Core.Logic.{◌↔◌}
use Prim.Native.Nat.{ℕ, zero, suc}
use mathlib.Core.Bool.{true}
use mathlib.Core.List.{List}
use Rattle.semantics.specs.Plan.{Plan}
use Rattle.semantics.specs.Refusal.{Rule, refusal}
use Rattle.semantics.specs.Move.{initial}
use Rattle.semantics.specs.Image.{Image, image}
use Rattle.semantics.specs.Calls.{Answer, accepted, refused, Outcome, outcome, unless_refused, start_rules, start, Call, call_rules, performed, called}
use Rattle.semantics.proofs.Basics.{eqb-false}
use Rattle.semantics.proofs.Refusing.{numbered, none-refused, all_kept}
use Rattle.semantics.proofs.RuleLists.{Kept}
use Rattle.semantics.proofs.Performed.{Performs, offering, committing, cancelling, settling, penning, stalling, completing, stopping, performs}

-- An answer is a refusal: of kind 5.
abbrev pub Refused : Answer → Type 0
Refused a = a.kind ≡ 5

pub same_not_refused : {a c : Answer} → a ≡ c → ¬ Refused c → ¬ Refused a
same_not_refused e = subst (λ (a : Answer). ¬ Refused a) (sym e)

-- ---- what is performed is no refusal

pub accepted_not_refused : ¬ Refused accepted
accepted_not_refused = eqb-false 0 5 refl

performs_no_refusal : (p : Plan) (b : Image) (k : Call) {o : Outcome} → Performs p b k o → ¬ Refused o.answer
performs_no_refusal p b _ offering = eqb-false 0 5 refl
performs_no_refusal p b _ (committing g) = eqb-false 1 5 refl
performs_no_refusal p b _ (cancelling g) = eqb-false 2 5 refl
performs_no_refusal p b _ (settling l) = eqb-false 1 5 refl
performs_no_refusal p b _ (penning t u) = eqb-false 4 5 refl
performs_no_refusal p b _ (stalling n) = eqb-false 3 5 refl
performs_no_refusal p b _ (completing t) = eqb-false 1 5 refl
performs_no_refusal p b _ (stopping t) = eqb-false 2 5 refl

pub performed_not_refused : (p : Plan) (b : Image) (k : Call) → ¬ Refused (performed p b k).answer
performed_not_refused p b k = performs_no_refusal p b k (performs p b k)

-- ---- what is not refused is performed

pub not-refused : (n : ℕ) (b : Image) (o : Outcome) → ¬ Refused (unless_refused n b o).answer → n ≡ 0
unfolding unless_refused
not-refused zero b o f = refl
not-refused (suc n) b o f = absurd (f refl)

pub called-performed : (p : Plan) (b : Image) (k : Call) → ¬ Refused (called p b k).answer → called p b k ≡ performed p b k
unfolding called unless_refused
called-performed p b k f =
    ap (λ (n : ℕ). unless_refused n b (performed p b k)) (not-refused (refusal (call_rules p b k)) b (performed p b k) f)

module _ (rs : List Rule) (b : Image) (o : Outcome) (m : numbered rs ≡ true) where
  -- An answer that is no refusal is given exactly where each rule is kept and what is performed gives it.
  pub answers_exactly : (a : Answer) → ¬ Refused a → (unless_refused (refusal rs) b o).answer ≡ a ↔ Kept rs × (o.answer ≡ a)
  unfolding unless_refused
  answers_exactly a f =
      let answers : ℕ → Answer = λ n. (unless_refused n b o).answer in (
        (λ e. let z = not-refused (refusal rs) b o (same_not_refused e f) in (none-refused rs m z, sym (ap answers z) ∙ e)),
        (λ (h, e). ap answers (all_kept rs h) ∙ e),
      )

  pub own_exactly : ¬ Refused o.answer → (unless_refused (refusal rs) b o).answer ≡ o.answer ↔ Kept rs
  own_exactly f = (λ e. ((answers_exactly o.answer f).0 e).0, λ h. (answers_exactly o.answer f).1 (h, refl))

  pub kept_exactly : ¬ Refused o.answer → ¬ Refused (unless_refused (refusal rs) b o).answer ↔ Kept rs
  kept_exactly f = (λ g. ((answers_exactly _ g).0 refl).0, λ h. same_not_refused ((own_exactly f).1 h) f)

-- ---- no byte

-- A refusal is its number, and no bits, and the image as it was.
pub refused_is : (n : ℕ) (b : Image) (o : Outcome) → ¬ Refused o.answer → Refused (unless_refused n b o).answer
    → unless_refused n b o ≡ outcome (refused n) b
unfolding unless_refused
refused_is zero b o f e = absurd (f e)
refused_is (suc n) b o f e = refl

unchanged : (n : ℕ) (b : Image) (o : Outcome) → ¬ Refused o.answer → Refused (unless_refused n b o).answer → (unless_refused n b o).image ≡ b
unchanged n b o f e = ap (λ (x : Outcome). x.image) (refused_is n b o f e)

pub start_kind_5_unchanged : (p : Plan) (b : Image) → (start p b).answer.kind ≡ 5 → (start p b).image ≡ b
unfolding start
start_kind_5_unchanged p b = unchanged (refusal (start_rules p b)) b (outcome accepted (image p (initial p) 0)) accepted_not_refused

pub kind_5_unchanged : (p : Plan) (b : Image) (k : Call) → (called p b k).answer.kind ≡ 5 → (called p b k).image ≡ b
unfolding called
kind_5_unchanged p b k = unchanged (refusal (call_rules p b k)) b (performed p b k) (performed_not_refused p b k)

-- The same by the refusal's number.
pub start_refused_unchanged : (p : Plan) (b : Image) (n : ℕ) → (start p b).answer ≡ refused n → (start p b).image ≡ b
start_refused_unchanged p b n e = start_kind_5_unchanged p b (ap (λ (a : Answer). a.kind) e)

pub refused-unchanged : (p : Plan) (b : Image) (k : Call) (n : ℕ) → (called p b k).answer ≡ refused n → (called p b k).image ≡ b
refused-unchanged p b k n e = kind_5_unchanged p b k (ap (λ (a : Answer). a.kind) e)
