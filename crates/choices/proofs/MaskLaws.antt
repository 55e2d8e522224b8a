-- Building the mask of enabled interactions from the table of choices.
use mathlib.Core.Path.{◌≡◌, refl, sym, ap, ◌∙◌}
use Prim.Native.Nat.{ℕ, ◌<◌}
use mathlib.Core.Bool.{Bool, ◌&&◌, and_comm, and-true}
use mathlib.Core.List.{List}
use lib.Dec.{ltb}
use Rattle.semantics.specs.Bytes.{all_of, implies, every}
use Rattle.semantics.specs.Plan.{Plan, components, transitions, takes_part, interaction_guard}
use Rattle.semantics.specs.Code.{State, guard_holds}
use Rattle.semantics.specs.Move.{chosen_in, enabled}
use Rattle.semantics.proofs.Basics.{bool_cases, every_same}
use Rattle.layout.proofs.Sections.{laid_accepted}
use Rattle.code.proofs.TakenSpans.{interaction_guard_taken}
use Rattle.choices.proofs.PlanLaws.{port_in_lt}
use Rattle.choices.proofs.PartLaws.{part_bit, eight_fails, eights}
use Rattle.choices.specs.Choices.{ChosenIn, port_ready}

-- enabled, read from the table: the ports before the guard
module _ (p : Plan) (s : State) (chosen : List ℕ) (i : ℕ) (t : ChosenIn p s chosen i) where
  port_is : (c : ℕ) → c < components p → implies (takes_part p i c) (ltb (chosen_in p s i c) (transitions p)) ≡ port_ready p chosen i c
  unfolding port_ready implies
  port_is c m =
      bool_cases (takes_part p i c) (λ e. rw e (ap (λ (x : ℕ). ltb x (transitions p)) (sym (t.used c m e)))) (λ e. rw e refl)

  pub enabled_read : enabled p s i ≡ (every (components p) (port_ready p chosen i) && guard_holds p s (interaction_guard p i))
  unfolding enabled all_of
  enabled_read =
      let all = every (components p) (λ c. implies (takes_part p i c) (ltb (chosen_in p s i c) (transitions p))) in
      let guard = guard_holds p s (interaction_guard p i) in
      ap (λ (b : Bool). guard && b) (and-true all ∙ every_same (components p) _ (port_ready p chosen i) port_is) ∙ and_comm guard (every (components p) (port_ready p chosen i))

-- what the functions of masks.rt stand on
pub ruleset masking = (laid_accepted, port_in_lt, part_bit, eight_fails, eights, interaction_guard_taken)
