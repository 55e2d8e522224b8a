-- A call leaves as many bytes as it was lent, on every plan and image.
use mathlib.Core.Path.{◌≡◌, refl, sym, ap, ap₂, ◌∙◌, subst}
use Prim.Native.Nat.{ℕ, zero, suc, ◌+◌, ◌-◌, ◌≤◌}
use native.Mathlib.Omega.{arith}
use mathlib.Core.List.{◌++◌}
use lib.ListN.{length, take, drop, length-append, length-drop}
use lib.Seq.{length-take-le}
use Rattle.semantics.specs.Bytes.{le_bytes, entries}
use Rattle.semantics.specs.Plan.{Plan}
use Rattle.semantics.specs.Refusal.{refusal}
use Rattle.semantics.specs.Rules.{plan_rules, plan_refusal}
use Rattle.semantics.specs.Move.{Configuration, initial}
use Rattle.semantics.specs.Image.{Image, image_length, image, with_marks, configuration_of, length_rule, image_rules}
use Rattle.semantics.specs.Calls.{accepted, Outcome, outcome, unless_refused, start_rules, start, clerk_rules, Call, offered, try, settle, list, call_rules, performed, called}
use Rattle.semantics.specs.Load.{list_rules}
use Rattle.semantics.proofs.Basics.{ltb-true, eqb-true}
use Rattle.semantics.proofs.Masks.{length-le_bytes}
use Rattle.semantics.proofs.Refusing.{numbered, none-refused, refusal_before}
use Rattle.semantics.proofs.RuleLists.{keeps, kept-number, rule-kept}
use Rattle.semantics.proofs.AcceptedPlan.{accepted_plan}
use Rattle.semantics.proofs.Images.{length-image}
use Rattle.semantics.proofs.Sound.{Sound, shaped, sound_initial, sound_after}
use Rattle.semantics.proofs.LawfulImage.{LawfulImage, lawful_image}
use Rattle.semantics.proofs.ImagesRead.{sound_read}
use Rattle.semantics.proofs.Loads.{completes_all, sound_replay}
use Rattle.semantics.proofs.Ranking.{commit_enabled, safe-commits}
use Rattle.semantics.proofs.Performed.{Performs, offering, committing, cancelling, settling, penning, stalling, completing, stopping, performs}

written : (p : Plan) (c : Configuration) (m : ℕ) → Sound p c → length (image p c m) ≡ image_length
written p c m h = length-image p c m (shaped p c h)

-- other marks take the same bytes
marked : (b : Image) (m : ℕ) → length b ≡ image_length → length (with_marks b m) ≡ image_length
unfolding with_marks
marked b m e =
    length-append (take 16 b ++ le_bytes 8 m) (drop 24 b)
    ∙ ap₂ ◌+◌ (length-append (take 16 b) (le_bytes 8 m) ∙ ap₂ ◌+◌ (length-take-le 16 b (subst (λ (k : ℕ). 16 ≤ k) (sym e) (omega arith))) (length-le_bytes 8 m))
    (length-drop 24 b ∙ ap (λ (k : ℕ). k - 24) e)

module _ (p : Plan) (b : Image) (g : LawfulImage p b) where
  held : Sound p (configuration_of b)
  held = sound_read p b g.long g.configuration

  performed_long : (k : Call) {o : Outcome} → refusal (call_rules p b k) ≡ 0 → Performs p b k o → length o.image ≡ image_length
  unfolding call_rules keeps plan_rules image_rules length_rule clerk_rules numbered
  performed_long _ r offering = g.long
  performed_long (try i) r (committing q) =
      let h = none-refused (call_rules p b (try i)) refl r in
      written p _ 0 (sound_after p (accepted_plan p g.plan_accepted) (configuration_of b) held i (ltb-true _ _ (kept-number 16 (call_rules p b (try i)) h))
      (kept-number 17 (call_rules p b (try i)) h))
  performed_long (try i) r (cancelling q) = marked b _ g.long
  performed_long _ r (settling l) = written p _ 0 (sound_after p (accepted_plan p g.plan_accepted) (configuration_of b) held _ l
      (commit_enabled p (configuration_of b) _ (safe-commits p (configuration_of b) l)))
  performed_long _ r (penning t u) = marked b _ g.long
  performed_long _ r (stalling n) = g.long
  performed_long (list l) r (completing t) = written p _ 0 (sound_replay p (accepted_plan p g.plan_accepted) (configuration_of b) held (entries l)
      (completes_all p (configuration_of b) (entries l) t))
  performed_long (list l) r (stopping t) = g.long

-- the plan's and the image's rules are a call's first
first-rules : (p : Plan) (b : Image) (k : Call) → refusal (call_rules p b k) ≡ 0 → refusal (plan_rules p ++ image_rules p b) ≡ 0
unfolding call_rules
first-rules p b offered e = e
first-rules p b (try i) e = refusal_before (plan_rules p ++ image_rules p b) (clerk_rules p b i) e
first-rules p b settle e = e
first-rules p b (list l) e = refusal_before (plan_rules p ++ image_rules p b) (list_rules l) e

pub called-length : (p : Plan) (b : Image) (k : Call) → length (called p b k).image ≡ length b
unfolding called unless_refused
called-length p b k = go (refusal (call_rules p b k)) refl
  where
    go : (n : ℕ) → refusal (call_rules p b k) ≡ n → length (unless_refused n b (performed p b k)).image ≡ length b
    go zero r =
        let g = lawful_image p b (first-rules p b k r) in
        performed_long p b g k r (performs p b k) ∙ sym g.long
    go (suc n) r = refl

started_sized : (p : Plan) (b : Image) → refusal (start_rules p b) ≡ 0 → length b ≡ image_length
unfolding start_rules numbered plan_rules length_rule keeps
started_sized p b r = eqb-true (length b) image_length (rule-kept (start_rules p b) refl r 11)

started_long : (p : Plan) (b : Image) → refusal (start_rules p b) ≡ 0 → length (image p (initial p) 0) ≡ length b
unfolding plan_refusal start_rules
started_long p b r = written p (initial p) 0 (sound_initial p (accepted_plan p (refusal_before (plan_rules p) _ r))) ∙ sym (started_sized p b r)

pub start-length : (p : Plan) (b : Image) → length (start p b).image ≡ length b
unfolding start unless_refused
start-length p b = go (refusal (start_rules p b)) refl
  where
    go : (n : ℕ) → refusal (start_rules p b) ≡ n → length (unless_refused n b (outcome accepted (image p (initial p) 0))).image ≡ length b
    go zero r = started_long p b r
    go (suc n) r = refl

-- one of another length is left as it was

pub unsized_unchanged : (p : Plan) (b : Image) (k : Call) → (length b ≡ image_length → ⊥) → (called p b k).image ≡ b
unfolding called unless_refused
unsized_unchanged p b k f = go (refusal (call_rules p b k)) refl
  where
    go : (n : ℕ) → refusal (call_rules p b k) ≡ n → (unless_refused n b (performed p b k)).image ≡ b
    go zero r = absurd (f (lawful_image p b (first-rules p b k r)).long)
    go (suc n) r = refl

pub unsized_unstarted : (p : Plan) (b : Image) → (length b ≡ image_length → ⊥) → (start p b).image ≡ b
unfolding start unless_refused
unsized_unstarted p b f = go (refusal (start_rules p b)) refl
  where
    go : (n : ℕ) → refusal (start_rules p b) ≡ n → (unless_refused n b (outcome accepted (image p (initial p) 0))).image ≡ b
    go zero r = absurd (f (started_sized p b r))
    go (suc n) r = refl
