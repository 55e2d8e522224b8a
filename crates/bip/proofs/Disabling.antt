-- The marks are the disabler of 002 (definitions 22 and 23): recovery, continue and "possible only while enabled", tied to the marks, to 19 and to offered.
use mathlib.Core.Path.{◌≡◌, refl, sym, ap, ◌∙◌, subst}
use mathlib.Core.Logic.{◌↔◌, inr}
use Prim.Native.Nat.{ℕ, ◌<◌}
use native.Mathlib.Omega.{arith}
use mathlib.Core.Bool.{Bool, true, false, not, cond, ◌||◌, not-not}
use mathlib.Core.List.{List, ◌++◌}
use lib.Dec.{eqb}
use Rattle.semantics.specs.Bytes.{entries, bit, with_bit}
use Rattle.semantics.specs.Plan.{Plan, interactions}
use Rattle.semantics.specs.Code.{State}
use Rattle.semantics.specs.Rules.{plan_rules, plan_refusal}
use Rattle.semantics.specs.Move.{Configuration, enabled, fired, after, replay, initial}
use Rattle.semantics.specs.Image.{Image, image, marks_of, configuration_of, image_rules}
use Rattle.semantics.specs.Calls.{Answer, committed, cancelled, penned, refused, start, offered, try, settle, list, call_rules, called, offered_bits}
use Rattle.semantics.specs.Run.{commits}
use Rattle.semantics.proofs.Basics.{absurd_bool, not_yes, eqb-false}
use Rattle.semantics.proofs.Masks.{bit-zero}
use Rattle.semantics.proofs.RuleLists.{Kept}
use Rattle.semantics.proofs.RefusedUnchanged.{Refused, same_not_refused}
use Rattle.semantics.proofs.RefusalConditions.{calling}
use Rattle.semantics.proofs.AcceptedPlan.{accepted_plan}
use Rattle.semantics.proofs.Images.{marks_back}
use Rattle.semantics.proofs.Sound.{Sound, sound_initial}
use Rattle.semantics.proofs.Ranking.{above_marked, unoutranked, eligible-enabled, eligible-top, eligible-from}
use Rattle.semantics.proofs.ImagesRead.{marked_same}
use Rattle.semantics.proofs.Demand3.{Starts, start_plan}
use Rattle.semantics.proofs.ExactAnswers.{unrefused_exactly, committed_exactly, cancelled_exactly, bytes_after, start-bytes, cancelled-bytes, penned-bytes}
use Rattle.semantics.proofs.ListExactly.{list-bytes, list_restores}
use Rattle.bip.specs.Steps.{Below, Chosen}
use Rattle.bip.specs.Monitor.{Label, did, ε, Begins}
use Rattle.bip.specs.Disabler.{Disabler, AllEnabled, interaction, recovery, continue, Disables, receives, recovers, continues, Supervised, supervised, SupervisedStep, continued, recovered}
use Rattle.bip.specs.Transaction.{Transaction}
use Rattle.bip.proofs.Events.{begins_initial}
use Rattle.bip.proofs.KnownImage.{Known, known, written_held, after-held, leaves}
use Rattle.bip.proofs.Listing.{list_is}
use Rattle.bip.proofs.Settling.{settle_is}
use Rattle.bip.proofs.Components.{state_of_lem}
use Rattle.bip.proofs.Composites.{chosen_exactly}
use Rattle.bip.proofs.Priorities.{composite_low, disabled_by}
use Rattle.bip.proofs.SupervisedSteps.{all_from, one_off, Leads, leads_on, leads_back, Possible, leads_somewhere, step_means, step_from, Marks, try_exactly, offered_steps, refused_19}

-- ---- definition 22

-- an interaction done and recovered from is disabled, and no other
pub recovery_disables : {d d₁ d₂ : Disabler} {i : ℕ} → Disables d (interaction i) d₁ → Disables d₁ recovery d₂ → (j : ℕ) → d₂.enab j ≡ cond (eqb j i) false (d.enab j)
recovery_disables (receives e) recovers j = refl

-- a continue enables all
pub continue_enables : {d d' : Disabler} → Disables d continue d' → AllEnabled d'
continue_enables continues i = refl

-- an interaction is possible only while the disabler has it enabled
pub only_while_enabled : {p : Plan} {i : ℕ} {s s' : Supervised} {l : Label} → SupervisedStep p i s l s' → s.disabler.enab i ≡ true
only_while_enabled (continued (receives e) m k) = e
only_while_enabled (recovered (receives e) m k) = e

-- what is disabled does not outrank (remark 7): an interaction is possible exactly where it has a step, is not disabled, and each above it that has a step is
pub possible_exactly : (p : Plan) → plan_refusal p ≡ 0 → (s : Supervised) → Sound p s.configuration → (i : ℕ)
    → ((l : Label) × (s' : Supervised) × SupervisedStep p i s l s')
    ↔ (((q' : State) × Chosen p s.configuration.state i q') × (s.disabler.enab i ≡ true)
    × ((j : ℕ) (q' : State) → Below p i j → Chosen p s.configuration.state j q' → s.disabler.enab j ≡ false))
possible_exactly p ok s h i = (
  (λ (l, s', t).
      let (a, _) = step_means p ok i h t in
      let on = eligible-enabled p q d i a.is_eligible in (
        (fired p q i, (steps i a.number< (fired p q i)).1 (on, refl)),
        a.not_disabled,
        λ j q' up m.
            let k = composite_low m.step in
            not_yes (s.disabler.enab j) (above_marked p q d i (eligible-top p q d i a.is_eligible) j k up ((steps j k q').0 m).0),
      )),
  (λ ((q', m), free, off).
      let n = composite_low m.step in
      let top = unoutranked p q d i (λ j k up on. ap not (off j (fired p q j) up ((steps j k (fired p q j)).1 (on, refl)))) in
      let (l, s', r) = leads_somewhere p s i in
      (l, s', step_from p ok i h (record { number< = n; is_eligible = eligible-from p q d i ((steps i n q').0 m).0 top; not_disabled = free }) r)),
)
  where
    q : State
    q = s.configuration.state

    d : ℕ → Bool
    d = disabled_by s.disabler

    steps : (j : ℕ) → j < interactions p → (q' : State) → Chosen p q j q' ↔ ((enabled p q j ≡ true) × (q' ≡ fired p q j))
    steps j k = chosen_exactly p ok q (state_of_lem p ok s.configuration h) j k

-- ---- the marks

-- the image b holds the state s of the supervised system: its marks are the interactions that the disabler keeps disabled
pub record Holds (p : Plan) (b : Image) (s : Supervised) : Type 0 where
  pub configuration : configuration_of b ≡ s.configuration
  pub marks : Marks p b s.disabler

-- every image holds a state
pub some-held : (p : Plan) (b : Image) → (s : Supervised) × Holds p b s
some-held p b = (
  supervised (configuration_of b) (record { enab = λ i. not (bit (marks_of b) i); id = 0 }),
  record { configuration = refl; marks = λ i l. sym (not-not (bit (marks_of b) i)) },
)

-- an image written without marks has none
no_marks : (p : Plan) (c : Configuration) (i : ℕ) → bit (marks_of (image p c 0)) i ≡ false
no_marks p c i = ap (λ (m : ℕ). bit m i) (marks_back p c 0 (omega arith)) ∙ bit-zero i

-- an accepted start holds a beginning with all enabled
pub start-holds : (p : Plan) (b : Image) → Starts p b → (s : Supervised) → Begins p s.configuration → AllEnabled s.disabler → Holds p (start p b).image s
start-holds p b e s begins all =
    rw (start-bytes p b e)
    (record {
      configuration =
          written_held p (initial p) (sound_initial p (accepted_plan p (start_plan p b e)))
          ∙ sym (begins_initial p s.configuration begins);
      marks = λ i l. no_marks p (initial p) i ∙ sym (ap not (all i));
    })

-- what is shown for an image's own configuration with any disabler of its marks is shown for every state that the image holds
pub by-held : (p : Plan) (b : Image) (P : Supervised → Type 0) → ((d : Disabler) → Marks p b d → P (supervised (configuration_of b) d))
    → (s : Supervised) → Holds p b s → P s
by-held p b P f s h =
    let same : supervised (configuration_of b) s.disabler ≡ s = λ k. record { configuration = h.configuration k; disabler = s.disabler } in
    subst P same (f s.disabler h.marks)

-- offered: on an image that is not refused, bit i is set exactly where interaction i is possible
pub offered_possible : (p : Plan) (b : Image) → ¬ Refused (called p b offered).answer → (s : Supervised) → Holds p b s → (i : ℕ)
    → bit (offered_bits p b) i ≡ true ↔ ((l : Label) × (s' : Supervised) × SupervisedStep p i s l s')
unfolding call_rules
offered_possible p b f = by-held p b _ (λ d m i. offered_steps p b d m i ((unrefused_exactly p (calling b offered)).0 f))

-- 19: the interaction has a step and the disabler keeps it disabled
pub disabled_19 : (p : Plan) (b : Image) (s : Supervised) → Holds p b s → (i : ℕ)
    → (called p b (try i)).answer ≡ refused 19
    ↔ Kept (plan_rules p ++ image_rules p b) × ((q' : State) × Chosen p s.configuration.state i q') × (s.disabler.enab i ≡ false)
disabled_19 p b = by-held p b _ (refused_19 p b)

-- ---- the calls

-- the answer to a try of i that is a step with this label
unfoldable pub tried_as : ℕ → Label → Answer
tried_as i (did j) = committed j
tried_as i ε = cancelled i

module _ (p : Plan) (b : Image) (d : Disabler) (m : Marks p b d) (k : Known p b) where
  abbrev c : Configuration
  c = configuration_of b

  -- a commit of i leaves an image of the state that a continued step leads to
  pub held_on : (i : ℕ) → i < interactions p → enabled p c.state i ≡ true → Holds p (image p (after p c i) 0) (supervised (after p c i) (all_from i))
  held_on i l e = record { configuration = after-held p k.plan c k.sound i l e; marks = λ j n. no_marks p (after p c i) j }

  -- a try that keeps its rules answers as the step of its interaction shows, and leaves an image of the state that the step leads to
  leads-held : (i : ℕ) → Kept (call_rules p b (try i)) → Possible p (supervised c d) i → {l : Label} {s' : Supervised} → Leads p (supervised c d) i l s'
      → ((called p b (try i)).answer ≡ tried_as i l) × Holds p (called p b (try i)).image s'
  unfolding tried_as bytes_after
  leads-held i kept a (leads_on g) =
      let e = (committed_exactly p b i).1 (kept, g) in
      (e, subst (λ (x : Image). Holds p x (supervised (after p c i) (all_from i))) (sym (leaves p b (try i) e)) (held_on i a.number< (eligible-enabled p c.state (disabled_by d) i a.is_eligible)))
  leads-held i kept a (leads_back g) =
      let e = (cancelled_exactly p b i).1 (kept, g) in (
        e,
        record {
          configuration = ap configuration_of (leaves p b (try i) e) ∙ marked_same b (with_bit (marks_of b) i) k.long;
          marks = λ j l. (cancelled-bytes p b i e).marks j (k.low j l) ∙ ap (λ (x : Bool). x || eqb j i) (m j l) ∙ one_off (d.enab j) (eqb j i);
        },
      )

-- a try that is not refused is a step of the supervised system, and its image holds the state that the step leads to
pub try_supervised : (p : Plan) (b : Image) (i : ℕ) → ¬ Refused (called p b (try i)).answer → (s : Supervised) → Holds p b s
    → (l : Label) × (s' : Supervised) × SupervisedStep p i s l s' × ((called p b (try i)).answer ≡ tried_as i l) × Holds p (called p b (try i)).image s'
try_supervised p b i f =
    by-held p b _
    (λ d m.
    let kept = (unrefused_exactly p (calling b (try i))).0 f in
    let (first, a) = (try_exactly p b d m i).0 kept in
    let k : Known p b = known p b first in
    let (l, s', r) = leads_somewhere p (supervised (configuration_of b) d) i in
    let (e, m') = leads-held p b d m k i kept a r in
    (l, s', step_from p k.plan i k.sound a r, e, m'))

-- and every step of the supervised system is such a try
pub step_tried : (p : Plan) (b : Image) → Kept (plan_rules p ++ image_rules p b) → (s s' : Supervised) (i : ℕ) (l : Label) → Holds p b s → SupervisedStep p i s l s'
    → ((called p b (try i)).answer ≡ tried_as i l) × Holds p (called p b (try i)).image s'
step_tried p b first s s' i l =
    by-held p b (λ s. SupervisedStep p i s l s' → ((called p b (try i)).answer ≡ tried_as i l) × Holds p (called p b (try i)).image s')
    (λ d m t.
    let k : Known p b = known p b first in
    let (a, r) = step_means p k.plan i k.sound t in
    leads-held p b d m k i ((try_exactly p b d m i).1 (first, a)) a r)
    s

-- ---- a settling

module _ (p : Plan) (b : Image) where
  pub settle_known : ¬ Refused (called p b settle).answer → Known p b
  unfolding call_rules
  settle_known f = known p b ((unrefused_exactly p (calling b settle)).0 f)

  -- 002 remark 6, deadlock: after penned no interaction is possible
  pub penned_deadlock : (called p b settle).answer ≡ penned → (s : Supervised) → Holds p (called p b settle).image s
      → (i : ℕ) (l : Label) (s' : Supervised) → SupervisedStep p i s l s' → ⊥
  penned_deadlock e s h i l s' t =
      let f : ¬ Refused (called p b settle).answer = same_not_refused e (eqb-false 4 5 refl) in
      let k : Known p b = settle_known f in
      let same : configuration_of b ≡ s.configuration = sym ((settle_is p b f).restores_whole (inr e)) ∙ h.configuration in
      let (a, _) = step_means p k.plan i (subst (Sound p) same k.sound) t in
      let on = eligible-enabled p s.configuration.state (disabled_by s.disabler) i a.is_eligible in
      let marked = ((penned-bytes p b e).marks i).1 (a.number<, subst (λ (c : Configuration). enabled p c.state i ≡ true) (sym same) on) in
      absurd_bool marked (h.marks i a.number< ∙ ap not a.not_disabled)

-- ---- a list

module _ (p : Plan) (b : Image) (l : List ℕ) where
  -- a committed list takes the disabler's continue port: a transaction to the configuration that its image then holds, with all enabled again
  pub list_continues : (n : ℕ) → (called p b (list l)).answer ≡ committed n → (s : Supervised) → Holds p b s
      → (s' : Supervised) × Transaction p n s.configuration (entries l) s'.configuration × Disables s.disabler continue s'.disabler
      × Holds p (called p b (list l)).image s'
  list_continues n e =
      by-held p b _
      (λ d m.
      let f : ¬ Refused (called p b (list l)).answer = same_not_refused e (eqb-false 1 5 refl) in
      let written = list-bytes p b l (ap (λ (a : Answer). commits a) e) in (
        supervised (configuration_of (called p b (list l)).image) (record { enab = λ j. true; id = d.id }),
        (list_is p b l f).leads n e,
        continues,
        record { configuration = refl; marks = λ i k. ap (λ (x : Image). bit (marks_of x) i) written ∙ no_marks p (replay p (configuration_of b) (entries l)) i },
      ))

  -- any other, refused or not, leaves the state that its image held
  pub list_keeps : commits (called p b (list l)).answer ≡ false → (s : Supervised) → Holds p b s → Holds p (called p b (list l)).image s
  list_keeps e s h = subst (λ (x : Image). Holds p x s) (sym (list_restores p b l e)) h
