-- Several steps that stand or fall together, as a monitor would have them that can go back k steps. 002 calls k-step tolerant properties with k > 1 "transactional
-- properties" (definition 11, remark 1), prints no rule for them and leaves them as future work (section 9); this is the rule of 02, job 6, for a list of k moves.
use Rattle.std.specs.Prelude.{◌≡◌, ℕ, List, length}
use Rattle.semantics.specs.Plan.{Plan}
use Rattle.semantics.specs.Move.{Configuration}
use Rattle.bip.specs.Steps.{Chosen, Ranked, Path}
use Rattle.bip.specs.Monitor.{Letter, Satisfies, Reads, Allows, Tolerates}

-- A step that such a monitor lets pass: a step of the system by 01's choice, its event read, and the verdict not ⊥.
pub record PassStep (p : Plan) (c : Configuration) (i : ℕ) (d : Configuration) : Type 0 where
  pub moves : Chosen p c.state i d.state
  pub event : Letter p
  pub observed : Satisfies p d.state event
  pub reading : Reads p c.oracles event d.oracles
  pub tolerated : Tolerates p d.oracles

-- Definition 8 over these: no interaction above has such a step.
abbrev pub RankedPass : Plan → Configuration → ℕ → Configuration → Type 0
RankedPass p = Ranked p (PassStep p)

-- Under the tolerance k: k steps, each of which is let pass, and at the end the verdict is ⊤ or ⊤_c.
pub record Transaction (p : Plan) (k : ℕ) (c : Configuration) (is : List ℕ) (d : Configuration) : Type 0 where
  pub many : length is ≡ k
  pub steps : Path (RankedPass p) c is d
  pub ends : Allows p d.oracles
