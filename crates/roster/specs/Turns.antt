-- Sequences of turns, 02, job 7: "With n lanes, a lane that stays unheld is served, which means it gets a turn whether its image is then refused or not, within n
-- turns that are not themselves refused for the plan or under 23, provided only these turns change waits, however the host holds and frees the rest."
use Rattle.std.specs.Prelude.{ℕ, zero, suc, Bool, true, false, cond, ◌||◌, List, [], ◌∷◌, eqb, length}
use Rattle.semantics.specs.Bytes.{all_of, every, table}
use Rattle.semantics.specs.Plan.{Plan}
use Rattle.semantics.specs.Refusal.{refusal}
use Rattle.roster.specs.declared.record.Lane.{Lane}
use Rattle.roster.specs.Roster.{free, wait_of}
use Rattle.roster.specs.Turn.{turn_rules, TurnAnswer, turned_away, idle, served, Dispatched, dispatch}

-- What the host lends to one turn.
pub record Lent : Type 0 where
  pub plan : Plan
  pub roster : List Lane
  pub images : List ℕ

abbrev pub turn_of : Lent → Dispatched
turn_of x = dispatch x.plan x.roster x.images

-- The turn is not "refused for the plan or under 23".
unfoldable pub unrefused : Lent → Bool
unrefused x = eqb (refusal (turn_rules x.plan x.roster (length x.images))) 0

-- How many turns are not refused.
unfoldable pub turns_taken : List Lent → ℕ
turns_taken [] = 0
turns_taken (x ∷ xs) = cond (unrefused x) (suc (turns_taken xs)) (turns_taken xs)

-- "provided only these turns change waits": each turn that is not refused is lent n records with the waits w that the last one left, and lane i "stays unheld".
-- All else is the host's: the plan, the other held flags, the images, and whatever it lends to a turn that is refused.
unfoldable pub stays_free : ℕ → ℕ → (ℕ → ℕ) → List Lent → Bool
stays_free n i w [] = true
stays_free n i w (x ∷ xs) =
    cond (unrefused x)
    (all_of (eqb (length x.roster) n ∷ free x.roster i ∷ every n (λ j. eqb (wait_of x.roster j) (w j)) ∷ stays_free n i (wait_of (turn_of x).roster) xs ∷ []))
    (stays_free n i w xs)

-- The answer names lane i.
unfoldable pub names : ℕ → TurnAnswer → Bool
names i (turned_away n) = false
names i idle = false
names i (served j a) = eqb j i

-- One of the turns is lane i's.
unfoldable pub served_in : ℕ → List Lent → Bool
served_in i [] = false
served_in i (x ∷ xs) = names i (turn_of x).answer || served_in i xs

-- A roster of n lanes, none held, none of which has waited; and k turns one after the other, between which the host changes nothing.
unfoldable pub fresh : ℕ → List Lane
fresh n = table n (λ k. record { number = k; held = 0; wait = 0 })

unfoldable pub in_a_row : ℕ → Lent → List Lent
in_a_row zero x = []
in_a_row (suc k) x = x ∷ in_a_row k (record { plan = x.plan; roster = (turn_of x).roster; images = (turn_of x).images })
