-- The disabler (002 section 6.6, definition 22), and the system supervised by monitor and disabler (definition 23). They cite the monitor's composition
-- (definition 16), the priority rule (definition 8) over 01's choice, and of the engine's meaning the record of a configuration alone.
use Rattle.std.specs.Prelude.{◌≡◌, ℕ, Bool, true, false, cond, eqb}
use Rattle.semantics.specs.Plan.{Plan}
use Rattle.semantics.specs.Move.{Configuration}
use Rattle.bip.specs.Steps.{Chosen, Ranked}
use Rattle.bip.specs.Monitor.{Label, did, ε, System, Monitored}

-- Definition 22, X: enab, an array of Booleans with an element for each interaction, and id, the interaction last received.
pub record Disabler : Type 0 where
  pub enab : ℕ → Bool
  pub id : ℕ

-- "enab is an array of Boolean variables initialized to true".
abbrev pub AllEnabled : Disabler → Type 0
AllEnabled d = (i : ℕ) → d.enab i ≡ true

-- Definition 22, P: a port for each interaction, the recovery port and the continue port.
pub data DisablerPort : Type 0 where
  interaction : ℕ → DisablerPort
  recovery : DisablerPort
  continue : DisablerPort

-- Definition 22, T: the port of an interaction is guarded by its element of enab, and the disabler keeps its number; recovery sets the element of the
-- number kept to false; continue sets every element to true.
pub data Disables : Disabler → DisablerPort → Disabler → Type 0 where
  receives : {d : Disabler} {i : ℕ} → d.enab i ≡ true → Disables d (interaction i) (record { enab = d.enab; id = i })
  recovers : {d : Disabler} → Disables d recovery (record { enab = λ j. cond (eqb j d.id) false (d.enab j); id = d.id })
  continues : {d : Disabler} → Disables d continue (record { enab = λ j. true; id = d.id })

-- A state of the supervised system: the configuration and the disabler's state.
pub record Supervised : Type 0 where
  pub configuration : Configuration
  pub disabler : Disabler

abbrev pub supervised : Configuration → Disabler → Supervised
supervised c d = record { configuration = c; disabler = d }

-- The system as the disabler leaves it: the steps of the interactions that it has enabled.
abbrev pub Undisabled : Plan → Disabler → System
Undisabled p d q i q' = Chosen p q i q' × (d.enab i ≡ true)

-- Definition 8 over these. 002 disables before it ranks (remark 7), so a disabled interaction no longer outranks; 02, job 3, has the same.
abbrev pub RankedUnder : Plan → Disabler → System
RankedUnder p d = Ranked p (Undisabled p d)

-- Definition 23 for the interaction i, as one step: 002 prints connectors and priorities that let nothing come between. The interaction is done together with
-- its port of the disabler; then a commit takes the disabler's continue port (γ^c2), a cancel its recovery port (γ^r2).
pub data SupervisedStep (p : Plan) (i : ℕ) : Supervised → Label → Supervised → Type 0 where
  continued : {c c' : Configuration} {d d₁ d₂ : Disabler} → Disables d (interaction i) d₁ → Monitored p (RankedUnder p d) i c (did i) c' → Disables d₁ continue d₂
      → SupervisedStep p i (supervised c d) (did i) (supervised c' d₂)
  recovered : {c c' : Configuration} {d d₁ d₂ : Disabler} → Disables d (interaction i) d₁ → Monitored p (RankedUnder p d) i c ε c' → Disables d₁ recovery d₂
      → SupervisedStep p i (supervised c d) ε (supervised c' d₂)

-- A step of the supervised system: of some interaction.
abbrev pub SupervisedMove : Plan → Supervised → Label → Supervised → Type 0
SupervisedMove p s l s' = (i : ℕ) × SupervisedStep p i s l s'
