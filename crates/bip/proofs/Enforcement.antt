-- Every system: it simulates its composition with the monitor (002 proposition 3), and the traces of the composition stay in the property and are the
-- system's (corollary 1).
use mathlib.Core.Path.{◌≡◌, refl, sym, ap, ◌∙◌, subst}
use mathlib.Core.Logic.{◌⊎◌, inl, inr}
use Prim.Native.Nat.{ℕ, zero}
use mathlib.Core.List.{List, [], ◌∷◌}
use Rattle.semantics.specs.Plan.{Plan}
use Rattle.semantics.specs.Code.{State}
use Rattle.semantics.specs.Move.{Configuration, next_states}
use Rattle.bip.specs.Steps.{Path, here, further, Trace, still, onward, end_of}
use Rattle.bip.specs.Monitor.{Letter, Satisfies, Reads, Allows, Label, did, ε, System, Monitored, rule_2, rule_3, MonitoredStep, Begins, erased, stutter_free, Shows, ended, shown, Enforced, Simulates}
use Rattle.bip.proofs.Events.{event_once}
use Rattle.bip.proofs.MonitorRules.{did_not_ε, commits_means}
use Rattle.bip.proofs.OracleRules.{reads_is, reads_next}
use Rattle.bip.proofs.Paths.{Into, into_throughout}

-- ---- simulation

did_same : {i j : ℕ} → did i ≡ did j → i ≡ j
did_same e = ap number e
  where
    number : Label → ℕ
    number (did i) = i
    number ε = zero

-- 002 proposition 3, what the rules say of one step: it is the system's, or all stays as it was
pub each_step : (p : Plan) (system : System) (i : ℕ) (c d : Configuration) (l : Label) → Monitored p system i c l d
    → ((l ≡ did i) × system c.state i d.state) ⊎ ((l ≡ ε) × (d ≡ c))
each_step p system i c d l (rule_2 s h a b) = inl (refl, s)
each_step p system i c d l (rule_3 s h a b) = inr (refl, refl)

-- 002 proposition 3: the system simulates the composition, by R = {(⟨q, θ⟩, q)}
pub simulates : (p : Plan) (system : System) (c : Configuration) → Simulates p system (λ r s. r.state ≡ s) c c.state
simulates p system c =
    record {
      begins = refl;
      does = λ r r' s i e m. elim (each_step p system m.0 r r' (did i) m.1) [ inl h ↦ (r'.state, subst (λ (q : State). system q i r'.state) e (rw (did_same h.0) h.1), refl) | inr h ↦ absurd (did_not_ε h.0) ];
      keeps = λ r r' s e m. elim (each_step p system m.0 r r' ε m.1) [ inl h ↦ absurd (did_not_ε (sym h.0)) | inr h ↦ ap (λ (d : Configuration). d.state) h.1 ∙ e ];
    }

-- ---- traces

-- an event of the state that the oracles were shown leads where the one shown did
pub reads_other : (p : Plan) (q : State) {θ θ' : List ℕ} (e e' : Letter p) → Satisfies p q e → Satisfies p q e' → Reads p θ e θ' → Reads p θ e' θ'
reads_other p q {θ} {θ'} e e' h h' r =
    subst (λ (x : List ℕ). Reads p θ e' x) (ap (next_states p θ) (event_once p q e' h' ∙ sym (event_once p q e h)) ∙ sym (reads_is r)) (reads_next p θ e')

-- an event read, to a verdict that allows
abbrev ReadsAllowed : (p : Plan) → List ℕ → Letter p → List ℕ → Type 0
ReadsAllowed p = Into (Reads p) (Allows p)

-- what a trace of the composition is, of the system and the oracles
record Followed (p : Plan) (system : System) (c : Configuration) (σ : List (Label × Configuration)) : Type 0 where
  events : (es : List (Letter p)) × Shows p (stutter_free (erased σ)) es
  reading : (es : List (Letter p)) → Shows p (stutter_free (erased σ)) es → Path (ReadsAllowed p) c.oracles es (end_of c σ).oracles
  of_system : Trace system c.state (stutter_free (erased σ))
  ends : end_of c.state (stutter_free (erased σ)) ≡ (end_of c σ).state

module _ {p : Plan} {system : System} where
  followed_step : {i : ℕ} {c d : Configuration} {l : Label} {σ : List (Label × Configuration)} → Monitored p system i c l d
      → Followed p system d σ → Followed p system c ((l, d) ∷ σ)
  unfolding erased stutter_free end_of
  followed_step {i} {σ} (rule_2 {q} {q'} {θ} {θ'} {e} s h a b) f =
      record {
        events = (e ∷ f.events.0, shown h f.events.1);
        reading = read f (commits_means b);
        of_system = onward s f.of_system;
        ends = f.ends;
      }
    where
      read : Followed p system (record { state = q'; oracles = θ' }) σ → ReadsAllowed p θ e θ' → (es : List (Letter p)) → Shows p ((i, q') ∷ stutter_free (erased σ)) es
          → Path (ReadsAllowed p) θ es (end_of (record { state = q'; oracles = θ' }) σ).oracles
      read f (r, w) es (shown {e = e'} g later) = further (reads_other p q' e e' h g r, w) (f.reading _ later)
  followed_step (rule_3 s h a b) f = record { events = f.events; reading = f.reading; of_system = f.of_system; ends = f.ends }

  followed : {c : Configuration} {σ : List (Label × Configuration)} → Trace (MonitoredStep p system) c σ → Followed p system c σ
  unfolding erased stutter_free end_of
  followed still = record { events = ([], ended); reading = none; of_system = still; ends = refl }
    where
      none : {θ : List ℕ} (es : List (Letter p)) → Shows p [] es → Path (ReadsAllowed p) θ es θ
      none es ended = here
  followed (onward m r) = followed_step m.1 (followed r)

-- 002 corollary 1: along any trace of the composition from a good judged beginning the events stay in Π, and the stutter-free trace is one of the
-- system
pub enforced : (p : Plan) (system : System) (c : Configuration) (begins : Begins p c) → Allows p c.oracles → (σ : List (Label × Configuration))
    → Trace (MonitoredStep p system) c σ → Enforced p system c begins.first_event σ
enforced p system c begins w σ t =
    let f = followed t in
    record {
      events = f.events;
      in_property = λ es h. into_throughout (Reads p) (Allows p) (further (begins.judged-first, w) (f.reading es h));
      of_system = f.of_system;
      ends = f.ends;
    }
