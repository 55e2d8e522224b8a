-- Demand 3, whole: from an accepted start on, for every list of calls, every answer and every byte of the image after each call are the book's.
use mathlib.Core.Path.{◌≡◌, refl, sym, ap, ◌∙◌}
use Prim.Native.Nat.{ℕ}
use mathlib.Core.Bool.{true}
use mathlib.Core.List.{List, [], ◌∷◌}
use Rattle.semantics.specs.Plan.{Plan}
use Rattle.semantics.specs.Refusal.{refusal}
use Rattle.semantics.specs.Rules.{plan_rules, plan_refusal}
use Rattle.semantics.specs.Move.{initial, good, replay}
use Rattle.semantics.specs.Image.{Image, image, length_rule}
use Rattle.semantics.specs.Calls.{accepted, Outcome, outcome, unless_refused, start_rules, start, Call, called_all, session}
use Rattle.semantics.specs.Book.{Book, blank, lane, book_image, turn, told, book_session}
use Rattle.semantics.proofs.Basics.{absurd_bool}
use Rattle.semantics.proofs.Masks.{mask-none}
use Rattle.semantics.proofs.Refusing.{numbered, refusal_before}
use Rattle.semantics.proofs.RuleLists.{keeps, rule-kept}
use Rattle.semantics.proofs.RefusedUnchanged.{same_not_refused, accepted_not_refused, not-refused}
use Rattle.semantics.proofs.AcceptedPlan.{accepted_plan}
use Rattle.semantics.proofs.Sound.{sound_initial}
use Rattle.semantics.proofs.BookStep.{Lawful, one_call, turn_lawful}

-- ---- an accepted start

-- 01's accepted start
abbrev pub Starts : Plan → Image → Type 0
Starts p b = (start p b).answer ≡ accepted

pub start-rules : (p : Plan) (b : Image) → Starts p b → refusal (start_rules p b) ≡ 0
unfolding start
start-rules p b e = not-refused (refusal (start_rules p b)) b _ (same_not_refused e accepted_not_refused)

pub start_plan : (p : Plan) (b : Image) → Starts p b → plan_refusal p ≡ 0
unfolding plan_refusal start_rules
start_plan p b e = refusal_before (plan_rules p) _ (start-rules p b e)

pub start-good : (p : Plan) (b : Image) → Starts p b → good p (initial p) ≡ true
unfolding start_rules numbered plan_rules length_rule keeps
start-good p b e = rule-kept (start_rules p b) refl (start-rules p b e) 15

-- it answers accepted and leaves the book's first image
pub start_is : (p : Plan) (b : Image) → Starts p b → start p b ≡ outcome accepted (book_image p blank)
unfolding start unless_refused book_image lane replay
start_is p b e = rw (start-rules p b e) (ap (λ (m : ℕ). outcome accepted (image p (initial p) m)) (sym (mask-none _)))

pub blank_lawful : (p : Plan) (b : Image) → Starts p b → Lawful p blank
unfolding lane replay
blank_lawful p b e =
    record { sound = sound_initial p (accepted_plan p (start_plan p b e)); is_good = start-good p b e; crossed_bad = λ i l q. absurd_bool q refl }

-- ---- all calls

all_calls : (p : Plan) → plan_refusal p ≡ 0 → (k : Book) → Lawful p k → (cs : List Call) → called_all p (book_image p k) cs ≡ told p k cs
unfolding called_all told
all_calls p e k h [] = refl
all_calls p e k h (c ∷ cs) =
    rw (one_call p e k h c) (ap (outcome (turn p k c).answer (book_image p (turn p k c).book) ∷◌) (all_calls p e (turn p k c).book (turn_lawful p e k h c) cs))

pub demand3 : (p : Plan) (b : Image) → Starts p b → (cs : List Call) → session p b cs ≡ book_session p cs
unfolding session book_session
demand3 p b e cs = rw (start_is p b e) (ap (outcome accepted (book_image p blank) ∷◌) (all_calls p (start_plan p b e) blank (blank_lawful p b e) cs))

-- ---- the same said of what the calls leave

-- the outcomes of a sequence of calls are the book's
pub calls-told : (p : Plan) (b : Image) → Starts p b → (cs : List Call) → called_all p (start p b).image cs ≡ told p blank cs
calls-told p b e cs =
    ap (λ (o : Outcome). called_all p o.image cs) (start_is p b e) ∙ all_calls p (start_plan p b e) blank (blank_lawful p b e) cs
