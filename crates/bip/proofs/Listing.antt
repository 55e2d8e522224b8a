-- A list handed in (02, job 6) in the papers' terms, on any image that is not refused: it is committed exactly where it is a transaction, and else leaves the whole
-- image as it was; and histories, single moves and lists one after the other.
use mathlib.Core.Path.{◌≡◌, refl, sym, ap, ◌∙◌, subst}
use mathlib.Core.Logic.{◌↔◌, ◌⊎◌, inl, inr}
use Prim.Native.Nat.{ℕ, suc, ◌≤◌, ◌<◌}
use mathlib.Core.Bool.{true, false}
use mathlib.Core.List.{List, [], ◌∷◌, ◌++◌}
use lib.ListN.{length}
use Rattle.semantics.specs.Bytes.{entries}
use Rattle.semantics.specs.Plan.{Plan}
use Rattle.semantics.specs.Rules.{plan_rules, plan_refusal}
use Rattle.semantics.specs.Move.{Configuration, after, good, replay}
use Rattle.semantics.specs.Load.{max_moves, list_rules, entry_allowed, stops_at, completes}
use Rattle.semantics.specs.Image.{Image, configuration_of, image_rules}
use Rattle.semantics.specs.Calls.{Answer, committed, cancelled, list, call_rules, called}
use Rattle.semantics.specs.Run.{commits, Commit, single, whole, moves_of, committed_moves, is_history}
use Rattle.semantics.proofs.Basics.{bool_cases, absurd_bool, each, all_of_lem, ltb-true, lt-ltb}
use Rattle.semantics.proofs.RuleLists.{Kept, kept_append}
use Rattle.semantics.proofs.AcceptedPlan.{accepted_plan}
use Rattle.semantics.proofs.Sound.{Sound, sound_after}
use Rattle.semantics.proofs.Ranking.{commit_enabled}
use Rattle.semantics.proofs.Loads.{list_sized, stops_later, stops_here, completes_all, completes-good, completes-from, entry_sound, sound_replay, replay_append}
use Rattle.semantics.proofs.RefusedUnchanged.{Refused}
use Rattle.semantics.proofs.RefusalConditions.{calling}
use Rattle.semantics.proofs.ExactAnswers.{unrefused_exactly}
use Rattle.semantics.proofs.ListExactly.{stops_exactly, list_committed_exactly, list_cancelled_exactly, list-bytes, list_restores}
use Rattle.bip.specs.Steps.{Composite, Chosen, Path, here, further}
use Rattle.bip.specs.Monitor.{Allows, Forbids, Denotes, Label, did, Monitored, rule_2, rule_3, RankedCommit, Begins}
use Rattle.bip.specs.Transaction.{PassStep, RankedPass, Transaction}
use Rattle.bip.proofs.Events.{bad_forbids}
use Rattle.bip.proofs.KnownImage.{Known, known, written_held}
use Rattle.bip.proofs.MonitorRules.{commits_means, did_not_ε, ranked_commit_exactly}
use Rattle.bip.proofs.OracleRules.{not_both}
use Rattle.bip.proofs.Paths.{path_join, path_keeps, path_part}
use Rattle.bip.proofs.Priorities.{ranked_steps}
use Rattle.bip.proofs.Transactions.{ranked_pass_exactly, transaction_ends, list_exactly, Judged, path_judged, list-passes, list_read}

-- ---- where a list stops

-- "the index, from 0, of the first entry not allowed, or the number of entries when only the end was not good", of the entries is from c on
pub data Stops (p : Plan) (c : Configuration) (is : List ℕ) (n : ℕ) : Type 0 where
  at_entry : (before : List ℕ) (i : ℕ) (rest : List ℕ) (d : Configuration) → is ≡ before ++ (i ∷ rest) → length before ≡ n → Path (RankedPass p) c before d
      → ((d' : Configuration) → RankedPass p d i d' → ⊥) → Stops p c is n
  at_end : (d : Configuration) → length is ≡ n → Path (RankedPass p) c is d → Forbids p d.oracles → Stops p c is n

module _ (p : Plan) (ok : plan_refusal p ≡ 0) where
  one_later : {c d : Configuration} {i : ℕ} {is : List ℕ} {n : ℕ} → RankedPass p c i d → Stops p d is n → Stops p c (i ∷ is) (suc n)
  one_later {i} r (at_entry before j rest d e n path none) = at_entry (i ∷ before) j rest d (ap (i ∷◌) e) (ap suc n) (further r path) none
  one_later r (at_end d n path f) = at_end d (ap suc n) (further r path) f

  stops_at_lem : (c : Configuration) → Sound p c → (is : List ℕ) → completes p c is ≡ false → Stops p c is (stops_at p c is)
  unfolding replay
  stops_at_lem c h [] e =
      let none : stops_at p c [] ≡ 0 = unfold stops_at in refl in
      let bad : good p c ≡ false = bool_cases (good p c) (λ g. absurd_bool (completes-from p c [] none g) e) (λ g. g) in
      at_end c (sym none) here ((bad_forbids p c).0 bad)
  stops_at_lem c h (i ∷ is) e =
      bool_cases (entry_allowed p c i)
      (λ a.
      let later = stops_later p c i is a in
      let incomplete : completes p (after p c i) is ≡ false
      = bool_cases (completes p (after p c i) is)
      (λ t. absurd_bool (completes-from p c (i ∷ is) (later ∙ ap suc (completes_all p (after p c i) is t)) (completes-good p (after p c i) is t)) e) (λ t. t) in
      rw later (one_later ((ranked_pass_exactly p ok c h i (after p c i)).1 (a, refl)) (stops_at_lem (after p c i) (entry_sound p (accepted_plan p ok) c h i a) is incomplete)))
      (λ a. rw (stops_here p c i is a) (at_entry [] i is c refl refl here (λ d r. absurd_bool ((ranked_pass_exactly p ok c h i d).0 r).0 a)))

-- ---- the call

-- what a list l handed in on the image b is, of the system and a monitor that can go back as many steps as the list has
pub record ListIs (p : Plan) (b : Image) (l : List ℕ) : Type 0 where
  -- its tolerance is 1 to 8 steps
  pub some : 0 < length (entries l)
  pub few : length (entries l) ≤ max_moves
  -- it commits or it cancels
  pub one_of_two : ((called p b (list l)).answer ≡ committed (length (entries l))) ⊎ ((n : ℕ) × ((called p b (list l)).answer ≡ cancelled n))
  -- it commits exactly where its entries are a transaction
  pub commits_exactly : (called p b (list l)).answer ≡ committed (length (entries l))
      ↔ ((d : Configuration) × Transaction p (length (entries l)) (configuration_of b) (entries l) d)
  -- a commit leaves the configuration that the transaction leads to
  pub leads : (n : ℕ) → (called p b (list l)).answer ≡ committed n → Transaction p n (configuration_of b) (entries l) (configuration_of (called p b (list l)).image)
  -- a cancelled list says where it stops
  pub stops : (n : ℕ) → (called p b (list l)).answer ≡ cancelled n → Stops p (configuration_of b) (entries l) n
  -- and leaves the whole image as it was
  pub restores_whole : (n : ℕ) → (called p b (list l)).answer ≡ cancelled n → (called p b (list l)).image ≡ b

module _ (p : Plan) (b : Image) (l : List ℕ) (f : ¬ Refused (called p b (list l)).answer) where
  abbrev c : Configuration
  c = configuration_of b

  abbrev is : List ℕ
  is = entries l

  kept : Kept (call_rules p b (list l))
  kept = (unrefused_exactly p (calling b (list l))).0 f

  image_known : Known p b
  unfolding call_rules
  image_known = known p b ((kept_append (plan_rules p ++ image_rules p b) (list_rules l)).0 kept).0

  -- 22: "empty, odd in bytes, or longer than 8 moves"
  counted : (0 < length is) × (length is ≤ max_moves)
  unfolding call_rules
  counted = list_sized l ((kept_append (plan_rules p ++ image_rules p b) (list_rules l)).0 kept).1

  exactly : completes p c is ≡ true ↔ Transaction p (length is) c is (replay p c is)
  exactly = list_exactly p image_known.plan c image_known.sound is

  left : (n : ℕ) → (called p b (list l)).answer ≡ committed n → completes p c is ≡ true → configuration_of (called p b (list l)).image ≡ replay p c is
  left n e t =
      ap configuration_of (list-bytes p b l (ap (λ (a : Answer). commits a) e))
      ∙ written_held p (replay p c is) (sound_replay p (accepted_plan p image_known.plan) c image_known.sound is (completes_all p c is t))

  -- 02, job 6: a list that is not refused, on any image, is such a transaction or leaves the image as it was
  pub list_is : ListIs p b l
  list_is =
      record {
        some = counted.0;
        few = counted.1;
        one_of_two = bool_cases (completes p c is) (λ t. inl ((list_committed_exactly p b l (length is)).1 (kept, (t, refl))))
            (λ t. inr (stops_at p c is, (list_cancelled_exactly p b l (stops_at p c is)).1 (kept, (t, (stops_exactly p c is (stops_at p c is)).0 refl))));
        commits_exactly = (
          (λ e. (replay p c is, exactly.0 ((list_committed_exactly p b l (length is)).0 e).1.0)),
          (λ (d, t).
              let ends = transaction_ends p image_known.plan c image_known.sound is (length is) d t in
              (list_committed_exactly p b l (length is)).1 (kept, (exactly.1 (subst (Transaction p (length is) c is) ends t), refl))),
        );
        leads = λ n e.
            let (_, (t, many)) = (list_committed_exactly p b l n).0 e in
            rw (many, left n e t) (exactly.0 t);
        stops = λ n e.
            let (_, (t, s)) = (list_cancelled_exactly p b l n).0 e in
            subst (Stops p c is) ((stops_exactly p c is n).1 s) (stops_at_lem p image_known.plan c image_known.sound is t);
        restores_whole = λ n e. list_restores p b l (ap (λ (a : Answer). commits a) e);
      }

-- ---- histories

-- what is committed at once: a move by the priority rule over the monitor's commits, or a list
pub data CommitIs (p : Plan) (c : Configuration) : Commit → Configuration → Type 0 where
  one_move : {i : ℕ} {d : Configuration} → RankedCommit p c i d → CommitIs p c (single i) d
  one_list : {is : List ℕ} {d : Configuration} → Transaction p (length is) c is d → CommitIs p c (whole is) d

module _ (p : Plan) (ok : plan_refusal p ≡ 0) where
  -- 02, job 6: a history is a sequence of such commits
  pub history_path : (c : Configuration) (ms : List Commit) → Sound p c → is_history p c ms ≡ true → Path (CommitIs p) c ms (replay p c (committed_moves ms))
  unfolding is_history committed_moves moves_of replay
  history_path c [] h e = here
  history_path c (single i ∷ ms) h e =
      let (number, (m, (rest, _))) = each _ e in
      let l = ltb-true _ _ number in
      further (one_move ((ranked_commit_exactly p ok c h i (after p c i)).1 (l, m, refl)))
      (history_path (after p c i) ms (sound_after p (accepted_plan p ok) c h i l (commit_enabled p c i m)) rest)
  history_path c (whole is ∷ ms) h e =
      let (m, (rest, _)) = each _ e in
      rw (replay_append p c is (committed_moves ms))
      (further (one_list ((list_exactly p ok c h is).0 m)) (history_path (replay p c is) ms (sound_replay p (accepted_plan p ok) c h is (completes_all p c is m)) rest))

  path_history : {c d : Configuration} {ms : List Commit} → Sound p c → Path (CommitIs p) c ms d → (is_history p c ms ≡ true) × (d ≡ replay p c (committed_moves ms))
  unfolding is_history committed_moves moves_of replay
  path_history h here = (refl, refl)
  path_history h (further {s = c} {t} {ls = ms} (one_move {i} r) rest) =
      let (l, m, same) = (ranked_commit_exactly p ok c h i t).0 r in
      let (later, ends) = path_history (subst (Sound p) (sym same) (sound_after p (accepted_plan p ok) c h i l (commit_enabled p c i m))) rest in (
        all_of_lem _ (lt-ltb _ _ l, (m, (subst (λ (x : Configuration). is_history p x ms ≡ true) same later, tt))),
        ends ∙ ap (λ (x : Configuration). replay p x (committed_moves ms)) same,
      )
  path_history h (further {s = c} {t} {ls = ms} (one_list {is} r) rest) =
      let same = transaction_ends p ok c h is (length is) t r in
      let m = (list_exactly p ok c h is).1 (subst (Transaction p (length is) c is) same r) in
      let (later, ends) = path_history (subst (Sound p) (sym same) (sound_replay p (accepted_plan p ok) c h is (completes_all p c is m))) rest in (
        all_of_lem _ (m, (subst (λ (x : Configuration). is_history p x ms ≡ true) same later, tt)),
        ends ∙ ap (λ (x : Configuration). replay p x (committed_moves ms)) same ∙ sym (replay_append p c is (committed_moves ms)),
      )

  -- and every such sequence is a history, with the configuration that it leads to
  pub history_exactly : (c d : Configuration) → Sound p c → (ms : List Commit)
      → Path (CommitIs p) c ms d ↔ ((is_history p c ms ≡ true) × (d ≡ replay p c (committed_moves ms)))
  history_exactly c d h ms = (path_history h, λ (e, same). subst (Path (CommitIs p) c ms) (sym same) (history_path c ms h e))

-- a commit of rule 2 is a step that passes, to a verdict that allows
commit_passes : {p : Plan} {i : ℕ} {c d : Configuration} {l : Label} → Monitored p (Chosen p) i c l d → l ≡ did i → PassStep p c i d × Allows p d.oracles
commit_passes {p} (rule_2 {θ'} {e} s h a b) x =
    let (r, w) = commits_means b in
    (record { moves = s; event = e; observed = h; reading = r; tolerated = λ v. not_both p θ' w (inl v) }, w)
commit_passes (rule_3 s h a b) x = absurd (did_not_ε (sym x))

module _ {p : Plan} where
  history_passes : {c d : Configuration} {ms : List Commit} → Path (CommitIs p) c ms d → Path (PassStep p) c (committed_moves ms) d
  unfolding committed_moves moves_of
  history_passes here = here
  history_passes (further (one_move r) rest) = further (commit_passes (ranked_steps r) refl).0 (history_passes rest)
  history_passes (further (one_list t) rest) = path_join (list-passes t) (history_passes rest)

  -- 001 and 002, definition 7: every move of such commits, within a list too, is a step of the composite system
  pub history_composite : {c d : Configuration} {ms : List Commit} → Path (CommitIs p) c ms d → Path (Composite p) c.state (committed_moves ms) d.state
  history_composite r = path_part (λ (x : Configuration). x.state) (λ x i y s. s.moves.step) (history_passes r)

  -- and has its event, which the oracles read
  pub history_shown : {c d : Configuration} {ms : List Commit} → Path (CommitIs p) c ms d → Judged p (length (committed_moves ms)) c (committed_moves ms) d
  history_shown r = path_judged (history_passes r)

  commit_allows : (c : Configuration) (m : Commit) (d : Configuration) → CommitIs p c m d → Allows p c.oracles → Allows p d.oracles
  commit_allows c m d (one_move r) w = (commit_passes (ranked_steps r) refl).1
  commit_allows c m d (one_list t) w = t.ends

  -- 002 corollary 1 with lists (02, job 6): from a judged beginning that the oracles allow, such commits end with their events in the property
  pub history_denotes : {c d : Configuration} {ms : List Commit} (begins : Begins p c) → Allows p c.oracles → (r : Path (CommitIs p) c ms d)
      → Denotes p (begins.first_event ∷ (history_shown r).events)
  history_denotes {d} begins w r =
      (d.oracles, further begins.judged-first (list_read (history_shown r)), path_keeps (λ (x : Configuration). Allows p x.oracles) commit_allows r w)
