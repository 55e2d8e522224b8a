-- Calls that commit no list as traces of the system supervised by monitor and disabler (002 definition 23), on any plan and image.
use mathlib.Core.Path.{◌≡◌, refl, sym, ap, ap₂, ◌∙◌, subst}
use mathlib.Core.Logic.{inl, inr}
use Prim.Native.Nat.{ℕ, ◌<◌}
use mathlib.Core.Bool.{Bool, true, false, not, ◌&&◌, ◌||◌, false≢true}
use mathlib.Core.List.{List, [], ◌∷◌, ◌++◌, append-nil}
use lib.Dec.{eqb}
use Rattle.semantics.specs.Bytes.{bit}
use Rattle.semantics.specs.Plan.{Plan, interactions, below}
use Rattle.semantics.specs.Move.{Configuration, enabled, after, good}
use Rattle.semantics.specs.Image.{Image, marks_of, configuration_of}
use Rattle.semantics.specs.Calls.{Answer, committed, penned, Call, offered, try, settle, list, called, called_all}
use Rattle.semantics.specs.Run.{from_top, exchanges, commits, Commit, single, whole, commit_of, commits_in, committed_by, one_by_one, moves_of, committed_moves, left_by}
use Rattle.semantics.proofs.Basics.{bool_cases, absurd_bool, same_test, not_no, and_both, both_and, or_cases, or_right, eqb-true, eqb-false}
use Rattle.semantics.proofs.RefusedUnchanged.{Refused, kind_5_unchanged}
use Rattle.semantics.proofs.RefusalConditions.{calling}
use Rattle.semantics.proofs.Ranking.{unoutranked, eligible-from}
use Rattle.semantics.proofs.RankOrder.{Order, rank_order}
use Rattle.semantics.proofs.Clearing.{Closed, clears_from_top, marked_from_top}
use Rattle.semantics.proofs.LawfulImage.{MarkKept}
use Rattle.semantics.proofs.PennedExactly.{Stuck, penned_exactly}
use Rattle.semantics.proofs.ExactAnswers.{unrefused_exactly, accepted_exactly, Answers, refuses_with, commits-lowest, stalls, pens, every-answer, settled_exactly, bytes_after, penned-bytes}
use Rattle.bip.specs.Steps.{Trace, still, onward, end_of}
use Rattle.bip.specs.Monitor.{Label, did, ε, stutter_free, interactions_of}
use Rattle.bip.specs.Disabler.{Disabler, Supervised, supervised, SupervisedStep, SupervisedMove}
use Rattle.bip.proofs.KnownImage.{Known, leaves}
use Rattle.bip.proofs.Listing.{list_is}
use Rattle.bip.proofs.Settling.{settle_is}
use Rattle.bip.proofs.Priorities.{disabled_by}
use Rattle.bip.proofs.SupervisedSteps.{all_from, leads_on, Possible, step_from, Recovered, recovering, Marks}
use Rattle.bip.proofs.Disabling.{Holds, by-held, tried_as, held_on, try_supervised, settle_known}

-- traces one behind the other
trace_join : {S L : Type 0} {step : S → L → S → Type 0} {s : S} {σ τ : List (L × S)} → Trace step s σ → Trace step (end_of s σ) τ → Trace step s (σ ++ τ)
unfolding end_of
trace_join still t = t
trace_join (onward m r) t = onward m (trace_join r t)

end_join : {S L : Type 0} (s : S) (σ τ : List (L × S)) → end_of s (σ ++ τ) ≡ end_of (end_of s σ) τ
unfolding end_of
end_join s [] τ = refl
end_join s (m ∷ σ) τ = end_join m.1 σ τ

done-join : (σ τ : List (Label × Supervised)) → interactions_of (stutter_free (σ ++ τ)) ≡ interactions_of (stutter_free σ) ++ interactions_of (stutter_free τ)
unfolding stutter_free
done-join [] τ = refl
done-join ((did i, q) ∷ σ) τ = ap (i ∷◌) (done-join σ τ)
done-join ((ε, q) ∷ σ) τ = done-join σ τ

-- what the calls cs on the image b are of the supervised system, begun in a state that b holds
pub record Supervises (p : Plan) (b : Image) (s : Supervised) (cs : List Call) : Type 0 where
  pub trace : List (Label × Supervised)
  pub steps : Trace (SupervisedMove p) s trace
  -- its interactions are the moves committed
  pub moves : interactions_of (stutter_free trace) ≡ committed_moves (committed_by p b cs)
  -- the last image holds its last state
  pub holds : Holds p (left_by b (called_all p b cs)) (end_of s trace)

module _ (p : Plan) (b : Image) (s : Supervised) where
  -- a call that commits nothing and leaves the image as it was
  quiet : (k : Call) → Holds p b s → (called p b k).image ≡ b → commits (called p b k).answer ≡ false → Supervises p b s (k ∷ [])
  unfolding stutter_free end_of called_all exchanges commits_in committed_moves left_by
  quiet k h same none = record { trace = []; steps = still; moves = rw none refl; holds = subst (λ (x : Image). Holds p x s) (sym same) h }

  -- a try that is one step
  one_step : (i : ℕ) (l : Label) {s' : Supervised} → (called p b (try i)).answer ≡ tried_as i l → SupervisedStep p i s l s' → Holds p (called p b (try i)).image s'
      → Supervises p b s (try i ∷ [])
  unfolding left_by tried_as stutter_free end_of called_all exchanges commits_in commit_of committed_moves moves_of
  one_step i l {s'} e t h = record { trace = (l, s') ∷ []; steps = onward (i, t) still; moves = sym (seen l e); holds = h }
    where
      seen : (l : Label) → (called p b (try i)).answer ≡ tried_as i l → committed_moves (committed_by p b (try i ∷ [])) ≡ interactions_of (stutter_free ((l, s') ∷ []))
      seen (did j) e = rw e refl
      seen ε e = rw e refl

  -- one call, and those after it
  joined : (k : Call) (cs : List Call) → Supervises p b s (k ∷ [])
      → ((t : Supervised) → Holds p (called p b k).image t → Supervises p (called p b k).image t cs) → Supervises p b s (k ∷ cs)
  unfolding left_by stutter_free called_all exchanges commits_in committed_moves
  joined k cs a rest =
      let r = rest (end_of s a.trace) a.holds in
      record {
        trace = a.trace ++ r.trace;
        steps = trace_join a.steps r.steps;
        moves = done-join a.trace r.trace ∙ ap₂ ◌++◌ a.moves r.moves ∙ sym committed-join;
        holds = subst (Holds p (left_by (called p b k).image (called_all p (called p b k).image cs))) (sym (end_join s a.trace r.trace)) r.holds;
      }
    where
      committed-join : committed_moves (committed_by p b (k ∷ cs)) ≡ committed_moves (committed_by p b (k ∷ [])) ++ committed_moves (committed_by p (called p b k).image cs)
      committed-join = bool_cases (commits (called p b k).answer) (λ t. rw (t, append-nil (moves_of (commit_of k (called p b k).answer))) refl) (λ t. rw t refl)

module _ (p : Plan) (b : Image) (d : Disabler) (m : Marks p b d) (k : Known p b) (f : ¬ Refused (called p b settle).answer) where
  abbrev c : Configuration
  c = configuration_of b

  -- an interaction that the disabler keeps disabled is marked: it is enabled, and ends bad
  disabled_kept : (j : ℕ) → j < interactions p → disabled_by d j ≡ true → MarkKept p c (bit (marks_of b)) j
  disabled_kept j l off = k.marked j l (m j l ∙ off)

  -- the enabled interactions of a set that ends bad, and has what lies above it, are recovered from
  closed : (set : ℕ → Bool) → ((j : ℕ) → j < interactions p → set j ≡ true → enabled p c.state j ≡ true → good p (after p c j) ≡ false)
      → ((i j : ℕ) → i < interactions p → j < interactions p → set i ≡ true → below p i j ≡ true → set j ≡ true)
      → Closed p c (disabled_by d) (λ j. set j && d.enab j)
  closed set bad up =
      record {
        bad = λ j l t on. bad j l (and_both (set j) (d.enab j) t).0 on;
        unmarked = λ j l t on. ap not (and_both (set j) (d.enab j) t).1;
        upwards = λ i j l n t on b e.
            bool_cases (d.enab j) (λ free. inr (both_and (up i j l n (and_both (set i) (d.enab i) t).0 b) free)) (λ off. inl (ap not off));
      }

  recovered_set : (set : ℕ → Bool) → Closed p c (disabled_by d) (λ j. set j && d.enab j) → Recovered p k.plan c d (from_top p c.state (λ j. set j && d.enab j))
  recovered_set set h =
      recovering p k.plan c k.sound d _ (clears_from_top p (rank_order p k.plan) c (disabled_by d) (λ j. set j && d.enab j) h)

  -- what is disabled then: what was, and the enabled ones of the set
  disabled_then : (set : ℕ → Bool) (h : Closed p c (disabled_by d) (λ j. set j && d.enab j)) (j : ℕ) → j < interactions p
      → disabled_by (recovered_set set h).last j ≡ (disabled_by d j || (set j && enabled p c.state j))
  disabled_then set h j l =
      ap (λ (g : ℕ → Bool). g j) (recovered_set set h).disabled
      ∙ marked_from_top p (rank_order p k.plan) c (disabled_by d) (λ j. set j && d.enab j) h j l
      ∙ merged (set j) (d.enab j) (enabled p c.state j)
    where
      merged : (x y z : Bool) → (not y || ((x && y) && z)) ≡ (not y || (x && z))
      merged true true z = refl
      merged true false z = refl
      merged false true z = refl
      merged false false z = refl

  -- the trace of a penned settling: every enabled interaction that is not disabled done and recovered from, from the top
  pens_trace : (called p b settle).answer ≡ penned → Supervises p b (supervised c d) (settle ∷ [])
  unfolding called_all exchanges commits_in committed_moves left_by
  pens_trace e =
      let s : Stuck p c = (penned_exactly p b f).0 e in
      let h = closed (λ j. true) (λ j l t on. s.all_bad j l on) (λ i j l n t b. refl) in
      let r = recovered_set (λ j. true) h in
      record {
        trace = r.trace;
        steps = r.steps;
        moves = rw e (ap interactions_of r.silent);
        holds = rw r.ends
            (record {
              configuration = (settle_is p b f).restores_whole (inr e);
              marks = λ j l.
                  let bits = (penned-bytes p b e).marks j in
                  let off = disabled_then (λ j. true) h j l in
                  same_test _ _ (λ t. off ∙ or_right (disabled_by d j) (enabled p c.state j) (bits.0 t).1)
                  (λ t. bits.1 (
                    l,
                    or_cases (disabled_by d j) (enabled p c.state j) (sym off ∙ t)
                        (λ q. (disabled_kept j l q).is_enabled) (λ q. q),
                  ));
            });
      }

  -- of one that commits i: what is enabled above i and not disabled done and recovered from, from the top, and then i done
  commits_trace : (i : ℕ) → (called p b settle).answer ≡ committed i → Supervises p b (supervised c d) (settle ∷ [])
  unfolding called_all exchanges commits_in commit_of committed_moves moves_of left_by stutter_free end_of bytes_after
  commits_trace i e =
      let a = ((settled_exactly p b i).0 e).1.allowed in
      let o : Order p = rank_order p k.plan in
      let h = closed (below p i) (λ j l up on. a.above_bad j l up on) (λ x j l n t up. o.transitive i x j a.number< l n t up) in
      let r = recovered_set (below p i) h in
      let off = disabled_then (below p i) h in
      let free : disabled_by d i ≡ false = bool_cases (disabled_by d i) (λ t. absurd_bool a.ends_good (disabled_kept i a.number< t).ends_bad) (λ t. t) in
      let possible : Possible p (supervised c r.last) i = record {
        number< = a.number<;
        is_eligible = eligible-from p c.state _ i a.is_enabled
            (unoutranked p c.state _ i (λ j l up on. off j l ∙ or_right (disabled_by d j) (below p i j && enabled p c.state j) (both_and up on)));
        not_disabled = not_no _ (off i a.number< ∙ rw (free, o.irreflexive i a.number<) refl);
      } in
      let s' : Supervised = supervised (after p c i) (all_from i) in
      let step : SupervisedStep p i (supervised c r.last) (did i) s' = step_from p k.plan i k.sound possible (leads_on a.ends_good) in
      record {
        trace = r.trace ++ ((did i, s') ∷ []);
        steps = trace_join r.steps (rw r.ends (onward (i, step) still));
        moves = done-join r.trace ((did i, s') ∷ []) ∙ rw (e, r.silent) refl;
        holds = rw (end_join (supervised c d) r.trace ((did i, s') ∷ []))
            (subst (λ (x : Image). Holds p x s') (sym (leaves p b settle e)) (held_on p b d m k i a.number< a.is_enabled));
      }

  settle_trace : {a : Answer} → Answers p (calling b settle) a → (called p b settle).answer ≡ a → Supervises p b (supervised c d) (settle ∷ [])
  unfolding bytes_after
  settle_trace (refuses_with n x) e = absurd (f (ap (λ (a : Answer). a.kind) e))
  settle_trace (commits-lowest i l) e = commits_trace i e
  settle_trace stalls e =
      quiet p b (supervised c d) settle (record { configuration = refl; marks = m }) (leaves p b settle e) (ap (λ (a : Answer). commits a) e)
  settle_trace pens e = pens_trace e

-- any settling is a trace: where it is penned, of one recovered step for each interaction that it newly marks; where it commits, of one for each enabled
-- interaction above the move that is not disabled yet, and the move
pub settle_supervised : (p : Plan) (b : Image) → ¬ Refused (called p b settle).answer → (s : Supervised) → Holds p b s → Supervises p b s (settle ∷ [])
settle_supervised p b f = by-held p b _ (λ d m. settle_trace p b d m (settle_known p b f) f (every-answer p (calling b settle)) refl)

-- after what was committed at once, still no list was
one_less : (m : Commit) (ms : List Commit) → one_by_one (m ∷ ms) ≡ true → one_by_one ms ≡ true
unfolding one_by_one
one_less (single i) ms one = one
one_less (whole is) ms one = absurd_bool one refl

-- calls on any image that commit no list are a trace of the supervised system
pub calls-supervised : (p : Plan) (b : Image) (s : Supervised) → Holds p b s → (cs : List Call) → one_by_one (committed_by p b cs) ≡ true → Supervises p b s cs
unfolding called_all exchanges commits_in commit_of one_by_one stutter_free end_of committed_moves left_by bytes_after
calls-supervised p b s h [] one = record { trace = []; steps = still; moves = refl; holds = h }
calls-supervised p b s h (x ∷ xs) one = joined p b s x xs (one_call x one) (λ t m. calls-supervised p (called p b x).image t m xs (later one))
  where
    later : one_by_one (committed_by p b (x ∷ xs)) ≡ true → one_by_one (committed_by p (called p b x).image xs) ≡ true
    later one =
        bool_cases (commits (called p b x).answer) (λ t. one_less (commit_of x (called p b x).answer) (committed_by p (called p b x).image xs) (rw t at one))
        (λ t. rw t at one)

    performed_call : (x : Call) → one_by_one (committed_by p b (x ∷ xs)) ≡ true → ¬ Refused (called p b x).answer → Supervises p b s (x ∷ [])
    performed_call offered one f =
        let e = (accepted_exactly p b).2.1 ((unrefused_exactly p (calling b offered)).0 f) in
        quiet p b s offered h (leaves p b offered e) (ap (λ (a : Answer). commits a) e)
    performed_call (try i) one f = let (l, s', t, e, m) = try_supervised p b i f s h in one_step p b s i l e t m
    performed_call settle one f = settle_supervised p b f s h
    performed_call (list l) one f =
        let a = list_is p b l f in
        elim a.one_of_two [
          | inl e ↦ absurd (false≢true (rw e at one))
          | inr (n, e) ↦ quiet p b s (list l) h (a.restores_whole n e) (ap (λ (a : Answer). commits a) e)
        ]

    one_call : (x : Call) → one_by_one (committed_by p b (x ∷ xs)) ≡ true → Supervises p b s (x ∷ [])
    one_call x one =
        bool_cases (eqb (called p b x).answer.kind 5)
        (λ t.
        let e : (called p b x).answer.kind ≡ 5 = eqb-true _ _ t in
        quiet p b s x h (kind_5_unchanged p b x e) (ap (λ (n : ℕ). eqb n 1) e))
        (λ t. performed_call x one (eqb-false _ _ t))
