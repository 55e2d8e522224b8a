-- What a call knows of its image where neither it nor the plan is refused, and what it leaves.
use mathlib.Core.Path.{◌≡◌, ap, ◌∙◌}
use Prim.Native.Nat.{ℕ, ◌<◌}
use native.Mathlib.Nat.{le_trans}
use mathlib.Core.Bool.{true}
use mathlib.Core.List.{◌++◌}
use lib.ListN.{length}
use Rattle.semantics.specs.Bytes.{bit}
use Rattle.semantics.specs.Plan.{Plan, interactions}
use Rattle.semantics.specs.Rules.{plan_rules, plan_refusal}
use Rattle.semantics.specs.Move.{Configuration, enabled, after}
use Rattle.semantics.specs.Image.{Image, image_length, image, marks_of, configuration_of, image_rules}
use Rattle.semantics.specs.Calls.{Answer, Call, called}
use Rattle.semantics.proofs.Refusing.{all_kept}
use Rattle.semantics.proofs.RuleLists.{Kept}
use Rattle.semantics.proofs.AcceptedPlan.{accepted_plan}
use Rattle.semantics.proofs.Images.{configuration_back}
use Rattle.semantics.proofs.Sound.{Sound, shaped, sound_after}
use Rattle.semantics.proofs.LawfulImage.{LawfulImage, lawful_image, MarkKept, marks_kept}
use Rattle.semantics.proofs.ImagesRead.{sound_read}
use Rattle.semantics.proofs.ExactAnswers.{bytes_after, bytes_after_lem}
use Rattle.bip.proofs.Components.{counted}

-- what it knows
pub record Known (p : Plan) (b : Image) : Type 0 where
  pub plan : plan_refusal p ≡ 0
  pub long : length b ≡ image_length
  pub sound : Sound p (configuration_of b)
  pub low : (i : ℕ) → i < interactions p → i < 64
  pub marked : (i : ℕ) → i < interactions p → bit (marks_of b) i ≡ true → MarkKept p (configuration_of b) (bit (marks_of b)) i

pub known : (p : Plan) (b : Image) → Kept (plan_rules p ++ image_rules p b) → Known p b
known p b kept =
    let g : LawfulImage p b = lawful_image p b (all_kept _ kept) in
    let low : (i : ℕ) → i < interactions p → i < 64 = λ i l. le_trans l (counted p g.plan_accepted).interactions≤ in
    record {
      plan = g.plan_accepted;
      long = g.long;
      sound = sound_read p b g.long g.configuration;
      low = low;
      marked = λ i l. marks_kept p (configuration_of b) (marks_of b) g.marks i (low i l);
    }

-- an image holds the configuration that it is written of
pub written_held : (p : Plan) (c : Configuration) → Sound p c → configuration_of (image p c 0) ≡ c
written_held p c h = configuration_back p c 0 (shaped p c h)

-- so does that of a move
pub after-held : (p : Plan) → plan_refusal p ≡ 0 → (c : Configuration) → Sound p c → (i : ℕ) → i < interactions p → enabled p c.state i ≡ true
    → configuration_of (image p (after p c i) 0) ≡ after p c i
after-held p ok c sound i l e = written_held p (after p c i) (sound_after p (accepted_plan p ok) c sound i l e)

-- the bytes after an answer
pub leaves : (p : Plan) (b : Image) (k : Call) {a : Answer} → (called p b k).answer ≡ a → (called p b k).image ≡ bytes_after p b k a
leaves p b k e = bytes_after_lem p b k ∙ ap (bytes_after p b k) e
