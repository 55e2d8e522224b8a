-- Demand 3, last corollary: on any image, a settling that is not refused answers penned exactly where some move is enabled and no enabled one ends good
-- (02, job 3).
use mathlib.Core.Path.{◌≡◌, refl}
use mathlib.Core.Logic.{◌↔◌}
use Prim.Native.Nat.{ℕ, ◌<◌}
use mathlib.Core.Bool.{true, false}
use Rattle.semantics.specs.Plan.{Plan, interactions}
use Rattle.semantics.specs.Refusal.{refusal}
use Rattle.semantics.specs.Rules.{plan_rules, plan_refusal}
use Rattle.semantics.specs.Move.{Configuration, enabled, after, good, safe_move}
use Rattle.semantics.specs.Image.{Image, configuration_of, image_rules}
use Rattle.semantics.specs.Calls.{penned, Outcome, settle, call_rules, performed, called}
use Rattle.semantics.proofs.Basics.{absurd_bool, some_found}
use Rattle.semantics.proofs.Ranking.{commit_enabled, commit_good, safe-commits}
use Rattle.semantics.proofs.Maximal.{none-good}
use Rattle.semantics.proofs.RankOrder.{Order, rank_order}
use Rattle.semantics.proofs.Refusing.{refusal_before}
use Rattle.semantics.proofs.Performed.{Performs, settling, penning, stalling, performs, other_kind}
use Rattle.semantics.proofs.RefusedUnchanged.{not-refused, called-performed}

-- some interaction is enabled in the configuration c, and no enabled one ends good
pub record Stuck (p : Plan) (c : Configuration) : Type 0 where
  pub some-enabled : (i : ℕ) × (i < interactions p) × (enabled p c.state i ≡ true)
  pub all_bad : (i : ℕ) → i < interactions p → enabled p c.state i ≡ true → good p (after p c i) ≡ false

settled-penned : (p : Plan) → Order p → (b : Image) {o : Outcome} → Performs p b settle o → o.answer ≡ penned ↔ Stuck p (configuration_of b)
settled-penned p r b (settling l) = (
  (λ e. other_kind e refl),
  (λ s.
      let c : Configuration = configuration_of b in
      let m = safe-commits p c l in
      absurd_bool (commit_good p c (safe_move p c) m) (s.all_bad (safe_move p c) l (commit_enabled p c (safe_move p c) m))),
)
settled-penned p r b (penning t u) =
    let c : Configuration = configuration_of b in
    let stuck : Stuck p c = record { some-enabled = some_found (interactions p) (enabled p c.state) u; all_bad = none-good p r c t } in
    (λ e. stuck, λ s. refl)
settled-penned p r b (stalling n) = (λ e. other_kind e refl, λ s. let (i, l, e) = s.some-enabled in absurd_bool e (n i l))

pub penned_exactly : (p : Plan) (b : Image) → ((called p b settle).answer.kind ≡ 5 → ⊥)
    → (called p b settle).answer ≡ penned ↔ Stuck p (configuration_of b)
unfolding called call_rules plan_refusal
penned_exactly p b f =
    let z : plan_refusal p ≡ 0 = refusal_before (plan_rules p) (image_rules p b) (not-refused (refusal (call_rules p b settle)) b (performed p b settle) f) in
    rw (called-performed p b settle f) (settled-penned p (rank_order p z) b (performs p b settle))
