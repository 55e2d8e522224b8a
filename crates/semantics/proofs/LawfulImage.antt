-- What each of 11 to 14 leaves of an image that it does not refuse, by name; and all of it, where neither plan nor image is refused.
use mathlib.Core.Path.{◌≡◌, refl, sym, ap, ◌∙◌}
use Prim.Native.Nat.{ℕ, ◌<◌}
use mathlib.Core.Bool.{Bool, true, false, not}
use mathlib.Core.List.{List, ◌++◌}
use lib.ListN.{length}
use Rattle.semantics.specs.Bytes.{implies, bit}
use Rattle.semantics.specs.Plan.{Plan, max_components, max_variables, max_interactions, interactions, below}
use Rattle.semantics.specs.Refusal.{Rule, refusal}
use Rattle.semantics.specs.Rules.{plan_rules, plan_refusal}
use Rattle.semantics.specs.Move.{Configuration, enabled, after, oracles_in_range, good}
use Rattle.semantics.specs.Image.{Image, image_length, marks_of, configuration_of, head_matches, location_ok, last_port_ok, value_ok, configuration_ok, mark_ok, marks_ok, length_rule, image_rules}
use Rattle.semantics.proofs.Basics.{not_yes, implies-yes, implies-at, each, all_of_lem, ltb-true, lt-ltb, eqb-true, every-at, every_all}
use Rattle.semantics.proofs.Refusing.{numbered, none-refused, refusal-after, refusal_before}
use Rattle.semantics.proofs.RuleLists.{keeps, rule-kept}
use Rattle.semantics.proofs.AcceptedPlan.{plan_numbered}
use Rattle.semantics.proofs.Ranking.{above_marked, unoutranked, eligible-enabled, eligible-top, eligible-from}

-- 13: what it leaves of a configuration
pub record Configured (p : Plan) (c : Configuration) : Type 0 where
  pub in_range : oracles_in_range p c.oracles ≡ true
  pub is_good : good p c ≡ true
  pub location : (k : ℕ) → k < max_components → location_ok p c.state k ≡ true
  pub last_port_lem : (k : ℕ) → k < max_components → last_port_ok p c.state k ≡ true
  pub value : (v : ℕ) → v < max_variables → value_ok p c.state v ≡ true

pub configured : (p : Plan) (c : Configuration) → configuration_ok p c ≡ true → Configured p c
unfolding configuration_ok
configured p c e =
    let (q, (g, (l, (o, (v, _))))) = each _ e in
    record {
      in_range = q;
      is_good = g;
      location = every-at max_components (location_ok p c.state) l;
      last_port_lem = every-at max_components (last_port_ok p c.state) o;
      value = every-at max_variables (value_ok p c.state) v;
    }

-- 14: what it leaves of a mark. 02, job 3: "on an enabled bad interaction and .. each enabled one above it is marked too"
pub record MarkKept (p : Plan) (c : Configuration) (marked : ℕ → Bool) (i : ℕ) : Type 0 where
  pub number< : i < interactions p
  pub is_enabled : enabled p c.state i ≡ true
  pub ends_bad : good p (after p c i) ≡ false
  pub above : (j : ℕ) → j < interactions p → below p i j ≡ true → enabled p c.state j ≡ true → marked j ≡ true

pub mark_kept : (p : Plan) (c : Configuration) (marked : ℕ → Bool) (i : ℕ) → mark_ok p c marked i ≡ true → MarkKept p c marked i
unfolding mark_ok
mark_kept p c marked i e =
    let (l, (q, (m, _))) = each _ e in
    let s = c.state in
    record { number< = ltb-true _ _ l; is_enabled = eligible-enabled p s marked i q; ends_bad = not_yes _ m; above = above_marked p s marked i (eligible-top p s marked i q) }

-- and nothing more
pub mark_ok_lem : (p : Plan) (c : Configuration) (marked : ℕ → Bool) (i : ℕ) → MarkKept p c marked i → mark_ok p c marked i ≡ true
unfolding mark_ok
mark_ok_lem p c marked i k =
    let s = c.state in
    let q = eligible-from p s marked i k.is_enabled (unoutranked p s marked i k.above) in
    all_of_lem _ (lt-ltb _ _ k.number<, (q, (ap not k.ends_bad, tt)))

pub marks_kept : (p : Plan) (c : Configuration) (m : ℕ) → marks_ok p c m ≡ true → (i : ℕ) → i < max_interactions → bit m i ≡ true → MarkKept p c (bit m) i
unfolding marks_ok
marks_kept p c m e i l b =
    mark_kept p c (bit m) i (implies-at (bit m i) (mark_ok p c (bit m) i) (every-at max_interactions (λ j. implies (bit m j) (mark_ok p c (bit m) j)) e i l) b)

pub marks_ok_lem : (p : Plan) (c : Configuration) (m : ℕ) → ((i : ℕ) → i < max_interactions → bit m i ≡ true → MarkKept p c (bit m) i) → marks_ok p c m ≡ true
unfolding marks_ok
marks_ok_lem p c m f =
    every_all max_interactions (λ i. implies (bit m i) (mark_ok p c (bit m) i))
    (λ i l. implies-yes (bit m i) (mark_ok p c (bit m) i) (λ b. mark_ok_lem p c (bit m) i (f i l b)))

-- neither plan nor image is refused
pub record LawfulImage (p : Plan) (b : Image) : Type 0 where
  pub plan_accepted : plan_refusal p ≡ 0
  pub long : length b ≡ image_length
  pub head : head_matches p b ≡ true
  pub configuration : configuration_ok p (configuration_of b) ≡ true
  pub marks : marks_ok p (configuration_of b) (marks_of b) ≡ true

pub lawful_image : (p : Plan) (b : Image) → refusal (plan_rules p ++ image_rules p b) ≡ 0 → LawfulImage p b
unfolding plan_refusal image_rules length_rule numbered keeps
lawful_image p b e =
    let t : plan_refusal p ≡ 0 = refusal_before (plan_rules p) (image_rules p b) e in
    let plan_kept = none-refused (plan_rules p) (plan_numbered p) t in
    let kept : (n : ℕ) → keeps n (image_rules p b) ≡ true = rule-kept (image_rules p b) refl (sym (refusal-after (plan_rules p) (image_rules p b) plan_kept) ∙ e) in
    record { plan_accepted = t; long = eqb-true _ _ (kept 11); head = kept 12; configuration = kept 13; marks = kept 14 }

-- there the rules that follow decide
pub later-rules : (p : Plan) (b : Image) → refusal (plan_rules p ++ image_rules p b) ≡ 0 → (rs : List Rule) → refusal (plan_rules p ++ image_rules p b ++ rs) ≡ refusal rs
later-rules p b e rs = refusal-after (plan_rules p ++ image_rules p b) rs (none-refused (plan_rules p ++ image_rules p b) all_numbered e)
  where
    all_numbered : numbered (plan_rules p ++ image_rules p b) ≡ true
    all_numbered = unfold numbered plan_rules image_rules length_rule in refl
