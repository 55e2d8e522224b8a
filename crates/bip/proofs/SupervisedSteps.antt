-- The steps of the engine's system under monitor and disabler (002 definition 23): where one is possible, and which state it leads to.
use mathlib.Core.Path.{◌≡◌, refl, sym, ap, ◌∙◌, subst}
use mathlib.Core.Logic.Iff
use mathlib.Core.Logic.{◌↔◌}
use Prim.Native.Nat.{ℕ, ◌<◌}
use mathlib.Core.Bool.{Bool, true, false, not, cond, ◌||◌}
use mathlib.Core.List.{List, [], ◌∷◌, ◌++◌}
use lib.Dec.{ltb, eqb}
use Rattle.semantics.specs.Bytes.{bit}
use Rattle.semantics.specs.Plan.{Plan, interactions}
use Rattle.semantics.specs.Code.{State}
use Rattle.semantics.specs.Refusal.{Rule, rule}
use Rattle.semantics.specs.Rules.{plan_rules, plan_refusal}
use Rattle.semantics.specs.Move.{Configuration, enabled, outranked, eligible, fired, after, good}
use Rattle.semantics.specs.Image.{Image, marks_of, configuration_of, length_rule, image_rules}
use Rattle.semantics.specs.Calls.{refused, clerk_rules, try, call_rules, called, offered_bits}
use Rattle.semantics.proofs.Basics.{bool_cases, not_yes, not_no, ltb-true, lt-ltb}
use Rattle.semantics.proofs.RuleLists.{Kept, before, kept_append}
use Rattle.semantics.proofs.RefusalConditions.{refusal_19}
use Rattle.semantics.proofs.Sound.{Sound}
use Rattle.semantics.proofs.Ranking.{unoutranked, outranked_same, eligible-enabled, eligible-top, eligible-from}
use Rattle.semantics.proofs.Clearing.{with_mark, with_marked, Clears, cleared, clears}
use Rattle.semantics.proofs.ExactAnswers.{offered_exactly}
use Rattle.bip.specs.Steps.{Chosen, Trace, still, onward, end_of}
use Rattle.bip.specs.Monitor.{Label, did, ε, stutter_free}
use Rattle.bip.specs.Disabler.{Disabler, receives, recovers, continues, RankedUnder, Supervised, supervised, SupervisedStep, continued, recovered, SupervisedMove}
use Rattle.bip.proofs.Components.{state_of_lem}
use Rattle.bip.proofs.KnownImage.{Known, known}
use Rattle.bip.proofs.Composites.{chosen_exactly}
use Rattle.bip.proofs.MonitorRules.{under-moves, monitored_low, commits_exactly, cancels_exactly}
use Rattle.bip.proofs.Priorities.{composite_low, disabled_by, ranked_exactly}

-- the disabler after interaction i, continued or recovered
abbrev pub all_from : ℕ → Disabler
all_from i = record { enab = λ j. true; id = i }

abbrev pub without : Disabler → ℕ → Disabler
without d i = record { enab = λ j. cond (eqb j i) false (d.enab j); id = i }

-- disabled before, or the one recovered from
pub one_off : (x y : Bool) → (not x || y) ≡ not (cond y false x)
one_off true true = refl
one_off true false = refl
one_off false true = refl
one_off false false = refl

-- where a step of i leads, by the oracles' verdict
pub data Leads (p : Plan) (s : Supervised) (i : ℕ) : Label → Supervised → Type 0 where
  leads_on : good p (after p s.configuration i) ≡ true → Leads p s i (did i) (supervised (after p s.configuration i) (all_from i))
  leads_back : good p (after p s.configuration i) ≡ false → Leads p s i ε (supervised s.configuration (without s.disabler i))

-- a step of i is possible: it is enabled, what is enabled above it is disabled, and it is not
pub record Possible (p : Plan) (s : Supervised) (i : ℕ) : Type 0 where
  pub number< : i < interactions p
  pub is_eligible : eligible p s.configuration.state (disabled_by s.disabler) i ≡ true
  pub not_disabled : s.disabler.enab i ≡ true

pub leads_somewhere : (p : Plan) (s : Supervised) (i : ℕ) → (l : Label) × (s' : Supervised) × Leads p s i l s'
leads_somewhere p s i =
    bool_cases (good p (after p s.configuration i)) (λ g. (did i, supervised (after p s.configuration i) (all_from i), leads_on g))
    (λ g. (ε, supervised s.configuration (without s.disabler i), leads_back g))

module _ (p : Plan) (ok : plan_refusal p ≡ 0) where
  -- a step of i is possible, and leads as the verdict says
  pub step_means : (i : ℕ) {s s' : Supervised} {l : Label} → Sound p s.configuration → SupervisedStep p i s l s' → Possible p s i × Leads p s i l s'
  step_means i h (continued {c} {c'} {d} (receives e) m continues) =
      let n = monitored_low (under-moves d) m in
      let (r, g, same) = (commits_exactly p ok c h i n (RankedUnder p d) (under-moves d) c').0 m in
      let (q, on, _) = (ranked_exactly p ok c.state (state_of_lem p ok c h) d i n (fired p c.state i)).0 r in (
        record { number< = n; is_eligible = q; not_disabled = on },
        subst (λ (x : Configuration). Leads p (supervised c d) i (did i) (supervised x (all_from i))) (sym same) (leads_on g),
      )
  step_means i h (recovered {c} {c'} {d} (receives e) m recovers) =
      let n = monitored_low (under-moves d) m in
      let (r, bad, same) = (cancels_exactly p ok c h i n (RankedUnder p d) (under-moves d) c').0 m in
      let (q, on, _) = (ranked_exactly p ok c.state (state_of_lem p ok c h) d i n (fired p c.state i)).0 r in (
        record { number< = n; is_eligible = q; not_disabled = on },
        subst (λ (x : Configuration). Leads p (supervised c d) i ε (supervised x (without d i))) (sym same) (leads_back bad),
      )

  -- a possible interaction has a step under the priorities, as the disabler leaves the system
  possible_ranked : (i : ℕ) (s : Supervised) → Sound p s.configuration → Possible p s i
      → RankedUnder p s.disabler s.configuration.state i (fired p s.configuration.state i)
  possible_ranked i s h a =
      let c = s.configuration in
      (ranked_exactly p ok c.state (state_of_lem p ok c h) s.disabler i a.number< (fired p c.state i)).1 (a.is_eligible, a.not_disabled, refl)

  -- and every such one is a step
  pub step_from : (i : ℕ) {s s' : Supervised} {l : Label} → Sound p s.configuration → Possible p s i → Leads p s i l s' → SupervisedStep p i s l s'
  step_from i {s} h a (leads_on g) =
      let c = s.configuration in
      let d = s.disabler in
      continued (receives a.not_disabled) ((commits_exactly p ok c h i a.number< (RankedUnder p d) (under-moves d) (after p c i)).1 (possible_ranked i s h a, g, refl)) continues
  step_from i {s} h a (leads_back g) =
      let c = s.configuration in
      let d = s.disabler in
      recovered (receives a.not_disabled) ((cancels_exactly p ok c h i a.number< (RankedUnder p d) (under-moves d) c).1 (possible_ranked i s h a, g, refl)) recovers

  -- ---- moves tried from the top

  -- recovered steps from the disabler d on, one for each of the moves, after which these are disabled too
  pub record Recovered (c : Configuration) (d : Disabler) (is : List ℕ) : Type 0 where
    pub trace : List (Label × Supervised)
    pub last : Disabler
    pub steps : Trace (SupervisedMove p) (supervised c d) trace
    pub ends : end_of (supervised c d) trace ≡ supervised c last
    pub silent : stutter_free trace ≡ []
    pub disabled : disabled_by last ≡ with_marked (disabled_by d) is

  pub recovering : (c : Configuration) → Sound p c → (d : Disabler) (is : List ℕ) → Clears p c (disabled_by d) is → Recovered c d is
  unfolding stutter_free end_of with_marked
  recovering c h d [] cleared = record { trace = []; last = d; steps = still; ends = refl; silent = refl; disabled = refl }
  recovering c h d (i ∷ is) (clears a r) =
      let one_more : with_mark (disabled_by d) i ≡ disabled_by (without d i) = λ t j. one_off (d.enab j) (eqb j i) t in
      let rest = recovering c h (without d i) is (subst (λ (marked : ℕ → Bool). Clears p c marked is) one_more r) in
      let possible : Possible p (supervised c d) i
      = record { number< = a.number<; is_eligible = a.is_eligible; not_disabled = not_no (d.enab i) a.unmarked } in
      record {
        trace = (ε, supervised c (without d i)) ∷ rest.trace;
        last = rest.last;
        steps = onward (i, step_from i h possible (leads_back a.ends_bad)) rest.steps;
        ends = rest.ends;
        silent = rest.silent;
        disabled = rest.disabled ∙ ap (λ (marked : ℕ → Bool). with_marked marked is) (sym one_more);
      }

-- ---- the image's marks

-- the marks of the image b are the interactions that the disabler d keeps disabled
abbrev pub Marks : Plan → Image → Disabler → Type 0
Marks p b d = (i : ℕ) → i < interactions p → bit (marks_of b) i ≡ not (d.enab i)

module _ (p : Plan) (b : Image) (d : Disabler) (h : Marks p b d) (i : ℕ) where
  abbrev c : Configuration
  c = configuration_of b

  abbrev s : Supervised
  s = supervised c d

  -- outranked by the marks, as by the disabler
  pub outranked-held : outranked p c.state (bit (marks_of b)) i ≡ outranked p c.state (disabled_by d) i
  outranked-held = outranked_same p c.state (bit (marks_of b)) (disabled_by d) h i

  -- the rules of a try after the image's are kept exactly where a step is possible
  clerk_exactly : Kept (clerk_rules p b i) ↔ Possible p s i
  unfolding clerk_rules
  clerk_exactly = (
    (λ (n, (on, (top, (free, _)))).
        let l : i < interactions p = ltb-true _ _ n in
        record {
          number< = l;
          is_eligible = eligible-from p c.state (disabled_by d) i on (sym outranked-held ∙ not_yes _ top);
          not_disabled = not_no (d.enab i) (sym (h i l) ∙ not_yes _ free);
        }),
    (λ a.
        let on = eligible-enabled p c.state (disabled_by d) i a.is_eligible in
        let top = outranked-held ∙ eligible-top p c.state (disabled_by d) i a.is_eligible in
        (lt-ltb _ _ a.number<, (on, (ap not top, (ap not (h i a.number< ∙ ap not a.not_disabled), tt))))),
  )

  pub try_exactly : Kept (call_rules p b (try i)) ↔ Kept (plan_rules p ++ image_rules p b) × Possible p s i
  unfolding call_rules
  try_exactly = Iff.trans (kept_append (plan_rules p ++ image_rules p b) (clerk_rules p b i)) (Iff.and Iff.rfl clerk_exactly)

  pub offered_steps : Kept (plan_rules p ++ image_rules p b) → bit (offered_bits p b) i ≡ true ↔ ((l : Label) × (s' : Supervised) × SupervisedStep p i s l s')
  unfolding call_rules clerk_rules
  offered_steps kept =
      let k : Known p b = known p b kept in (
        (λ t.
            let o = (offered_exactly p b i).0 t in
            let a = clerk_exactly.0 (lt-ltb _ _ o.number<, (o.is_enabled, (ap not o.not-outranked, (ap not o.unmarked, tt)))) in
            let (l, s', r) = leads_somewhere p s i in
            (l, s', step_from p k.plan i k.sound a r)),
        (λ (l, s', t).
            let (n, (on, (top, (free, _)))) = clerk_exactly.1 (step_means p k.plan i k.sound t).0 in
            (offered_exactly p b i).1
            (record { unrefused = kept; number< = ltb-true _ _ n; is_enabled = on; not-outranked = not_yes _ top; unmarked = not_yes _ free })),
      )

  -- 19: a marked interaction that has a step; those enabled above it are marked too, so it is not outranked
  pub refused_19 : (called p b (try i)).answer ≡ refused 19 ↔ Kept (plan_rules p ++ image_rules p b) × ((q' : State) × Chosen p c.state i q') × (d.enab i ≡ false)
  unfolding before call_rules plan_rules image_rules length_rule clerk_rules
  refused_19 =
      let rules : List Rule = rule 16 (ltb i (interactions p)) ∷ rule 17 (enabled p c.state i) ∷ rule 18 (not (outranked p c.state (bit (marks_of b)) i)) ∷ [] in
      Iff.trans (refusal_19 p b i) (
        (λ (first, marked).
            let (kept, (n, (on, _))) = (kept_append (plan_rules p ++ image_rules p b) rules).0 first in
            let l : i < interactions p = ltb-true _ _ n in
            (kept, (fired p c.state i, (steps kept l (fired p c.state i)).1 (on, refl)), not_yes (d.enab i) (sym (h i l) ∙ marked))),
        (λ (kept, (q', t), off).
            let l = composite_low t.step in
            let marked = h i l ∙ ap not off in
            let m = (known p b kept).marked i l marked in
            let top = unoutranked p c.state (bit (marks_of b)) i m.above in
            ((kept_append (plan_rules p ++ image_rules p b) rules).1 (kept, (lt-ltb _ _ l, (((steps kept l q').0 t).0, (ap not top, tt)))), marked)),
      )
    where
      steps : Kept (plan_rules p ++ image_rules p b) → i < interactions p → (q' : State) → Chosen p c.state i q' ↔ ((enabled p c.state i ≡ true) × (q' ≡ fired p c.state i))
      steps kept l = let k : Known p b = known p b kept in chosen_exactly p k.plan c.state (state_of_lem p k.plan c k.sound) i l
