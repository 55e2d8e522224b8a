-- Demand 3 for each lane of a box: over turns and calls in any order, the outcomes on a lane's 312 bytes are those of its own book. What happens to the
-- other lanes, and how the host holds and frees them, the book is not told.
use mathlib.Core.Path.{◌≡◌, refl, sym, ap, ap₂, subst, ◌∙◌}
use Prim.Native.Nat.{ℕ, ◌+◌, ◌*◌, ◌≤◌}
use mathlib.Core.Bool.{Bool, true, false, cond, ◌&&◌, and-true}
use mathlib.Core.List.{List, [], ◌∷◌, ◌++◌}
use lib.Dec.{ltb, eqb}
use lib.ListN.{length}
use Rattle.semantics.specs.Bytes.{all_of}
use Rattle.semantics.specs.Plan.{Plan}
use Rattle.semantics.specs.Refusal.{refusal}
use Rattle.semantics.specs.Image.{Image, image_length}
use Rattle.semantics.specs.Calls as calls
use Rattle.semantics.specs.Calls.{Answer, outcome, Call, Call.settle, called, called_all}
use Rattle.semantics.specs.Book.{blank, told}
use Rattle.semantics.proofs.Basics.{bool_cases, and_both, not_yes, eqb-true, eq-eqb, eqb-false, ltb-true, ltb-false}
use Rattle.semantics.proofs.Lengths.{called-length, start-length, unsized_unchanged, unsized_unstarted}
use Rattle.semantics.proofs.Demand3.{Starts, calls-told}
use Rattle.roster.specs.declared.record.Lane.{Lane}
use Rattle.roster.specs.Roster.{chosen}
use Rattle.roster.specs.Turn.{part, with_part, turn_rules, TurnAnswer, turned_away, idle, served, Dispatched, unchanged, settled_part, given, dispatch}
use Rattle.roster.specs.Events.{Event, turn, call, start, answered, buffer_after, seen_of, seen, goes_to, calls_on, calls_of, starts_not, unstarted}
use Rattle.roster.proofs.OtherLanes.{Inside, part_length, part_inside, same_stays, with_length, part_same, part_other}
use Rattle.roster.proofs.Dispatch.{dispatch-refused, dispatch-given, dispatch_idle}

-- ---- an image put in the place of lane j's, as long as it was

module _ (b : List ℕ) (j : ℕ) (c : Image) (e : length c ≡ length (part b j)) where
  own_put : Inside b j → part (with_part b j c) j ≡ c
  own_put h = part_same b j c h (e ∙ part_length b j h)

  -- where lane j's image is not whole, it is as it was
  other_put : (i : ℕ) → ((length (part b j) ≡ image_length → ⊥) → c ≡ part b j) → (i ≡ j → ⊥) → part (with_part b j c) i ≡ part b i
  other_put i f g =
      bool_cases (eqb (length (part b j)) image_length)
      (λ t. let l = eqb-true (length (part b j)) image_length t in part_other b j i c (part_inside b j l) (e ∙ l) g)
      (λ t. ap (λ (z : List ℕ). part z i) (ap (with_part b j) (f (eqb-false (length (part b j)) image_length t)) ∙ same_stays b j))

-- ---- one event: it is a call on lane i's image, or it leaves that image as it was

module _ (p : Plan) (b : List ℕ) (i : ℕ) (inside : Inside b i) where
  data Happens (cs : List Call) (a : TurnAnswer) (b' : List ℕ) : Type 0 where
    own : (k : Call) → length b' ≡ length b → cs ≡ k ∷ [] → seen_of i a (part b' i) ≡ called p (part b i) k ∷ [] → part b' i ≡ (called p (part b i) k).image
        → Happens cs a b'
    other : length b' ≡ length b → cs ≡ [] → seen_of i a (part b' i) ≡ [] → part b' i ≡ part b i → Happens cs a b'

  abbrev Happened : Event → Type 0
  Happened e = Happens (calls_on p (length b) i e) (answered p b e) (buffer_after p b e)

  -- an answer of lane j, and its image
  seen_own : (a : Answer) (c : Image) → seen_of i (served i a) c ≡ outcome a c ∷ []
  unfolding seen_of
  seen_own a c = ap (λ (x : Bool). cond x (outcome a c ∷ []) []) (eq-eqb i i refl)

  seen_other : (j : ℕ) (a : Answer) (c : Image) → eqb j i ≡ false → seen_of i (served j a) c ≡ []
  unfolding seen_of
  seen_other j a c q = ap (λ (x : Bool). cond x (outcome a c ∷ []) []) q

  call_own : (k : Call) → Happened (call i k)
  unfolding calls_on answered buffer_after
  call_own k =
      let o = called p (part b i) k in
      let m : part (with_part b i o.image) i ≡ o.image = own_put b i o.image (called-length p (part b i) k) inside in
      own k (with_length b i o.image (called-length p (part b i) k)) (ap (λ (x : Bool). cond x (k ∷ []) []) (eq-eqb i i refl))
      (seen_own o.answer _ ∙ ap (λ (c : Image). outcome o.answer c ∷ []) m) m

  call_other : (j : ℕ) (k : Call) → eqb j i ≡ false → Happened (call j k)
  unfolding calls_on answered buffer_after
  call_other j k q =
      let o = called p (part b j) k in
      other (with_length b j o.image (called-length p (part b j) k)) (ap (λ (x : Bool). cond x (k ∷ []) []) q) (seen_other j o.answer _ q)
      (other_put b j o.image (called-length p (part b j) k) i (unsized_unchanged p (part b j) k) (λ e. eqb-false j i q (sym e)))

  call_happens : (j : ℕ) (k : Call) → Happened (call j k)
  call_happens j k = bool_cases (eqb j i) (λ q. subst (λ (m : ℕ). Happened (call m k)) (sym (eqb-true j i q)) (call_own k)) (call_other j k)

  start_happens : (j : ℕ) → eqb j i ≡ false → Happened (start j)
  unfolding calls_on answered buffer_after
  start_happens j q =
      let o = calls.start p (part b j) in
      other (with_length b j o.image (start-length p (part b j))) refl (seen_other j o.answer _ q)
      (other_put b j o.image (start-length p (part b j)) i (unsized_unstarted p (part b j)) (λ e. eqb-false j i q (sym e)))

  -- a turn: of a lane, a settling of its image; of nobody, nothing
  module _ (l : List Lane) where
    abbrev r : ℕ
    r = refusal (turn_rules p l (length b))

    happens_as : (cs : List Call) (d : Dispatched) → calls_on p (length b) i (turn l) ≡ cs → dispatch p l b ≡ d → Happens cs d.answer d.images
        → Happened (turn l)
    unfolding answered buffer_after
    happens_as cs d c e h =
        subst (λ (x : List Call). Happens x (dispatch p l b).answer (dispatch p l b).images) (sym c)
        (subst (λ (x : Dispatched). Happens cs x.answer x.images) (sym e) h)

    nobody : (a : TurnAnswer) → ((c : Image) → seen_of i a c ≡ []) → goes_to p l (length b) i ≡ false → dispatch p l b ≡ unchanged a l b → Happened (turn l)
    unfolding calls_on
    nobody a f g e = happens_as [] (unchanged a l b) (ap (λ (x : Bool). cond x (settle ∷ []) []) g) e (other refl refl (f (part b i)) refl)

    turned : Happened (turn l)
    unfolding seen_of goes_to calls_on answered buffer_after given settled_part all_of
    turned =
        bool_cases (eqb r 0)
        (λ u.
        bool_cases (ltb (chosen l) (length l))
        (λ t. happens_as (cond (eqb (chosen l) i) (settle ∷ []) []) (given p l b (chosen l))
        (ap (λ (x : Bool). cond x (settle ∷ []) []) (ap₂ (λ (x y : Bool). x && (y && (eqb (chosen l) i && true))) u t ∙ and-true (eqb (chosen l) i)))
        (dispatch-given p l b (eqb-true r 0 u) (chosen l) refl (ltb-true _ _ t)) (call_happens (chosen l) settle))
        (λ t. nobody idle (λ c. refl) (ap₂ (λ (x y : Bool). x && (y && (eqb (chosen l) i && true))) u t) (dispatch_idle p l b (eqb-true r 0 u) (ltb-false _ _ t))))
        (λ u. nobody (turned_away r) (λ c. refl) (ap (λ (x : Bool). x && (ltb (chosen l) (length l) && (eqb (chosen l) i && true))) u)
        (dispatch-refused p l b r refl (eqb-false r 0 u)))

  happens : (e : Event) → starts_not i e ≡ true → Happened e
  unfolding starts_not
  happens (turn l) s = turned l
  happens (call j k) s = call_happens j k
  happens (start j) s = start_happens j (not_yes (eqb j i) s)

-- ---- all events

-- one event, and what comes after it
one_event : (p : Plan) (i : ℕ) (e : Event) (es : List Event) (b : List ℕ) (h : Inside b i) → Happened p b i h e
    → (length (buffer_after p b e) ≡ length b → seen p (buffer_after p b e) i es ≡ called_all p (part (buffer_after p b e) i)
    (calls_of p (length (buffer_after p b e)) i es))
    → seen p b i (e ∷ es) ≡ called_all p (part b i) (calls_of p (length b) i (e ∷ es))
unfolding seen calls_of called_all
one_event p i e es b h x f = go x
  where
    cs : List Call
    cs = calls_of p (length b) i es

    later : (c : Image) → length (buffer_after p b e) ≡ length b → part (buffer_after p b e) i ≡ c → seen p (buffer_after p b e) i es ≡ called_all p c cs
    later c l m = f l ∙ ap₂ (λ (x : Image) (n : ℕ). called_all p x (calls_of p n i es)) m l

    go : Happened p b i h e → seen_of i (answered p b e) (part (buffer_after p b e) i) ++ seen p (buffer_after p b e) i es ≡ called_all p (part b i)
        (calls_on p (length b) i e ++ cs)
    go (own k l c s m) = ap₂ ◌++◌ s (later (called p (part b i) k).image l m) ∙ ap (λ (x : List Call). called_all p (part b i) (x ++ cs)) (sym c)
    go (other l c s m) = ap₂ ◌++◌ s (later (part b i) l m) ∙ ap (λ (x : List Call). called_all p (part b i) (x ++ cs)) (sym c)

-- the outcomes on lane i's bytes are those of calls on its image alone
pub lane_alone : (p : Plan) (i : ℕ) (es : List Event) (b : List ℕ) → Inside b i → unstarted i es ≡ true
    → seen p b i es ≡ called_all p (part b i) (calls_of p (length b) i es)
unfolding seen calls_of called_all unstarted
lane_alone p i [] b h u = refl
lane_alone p i (e ∷ es) b h u =
    let v = and_both (starts_not i e) (unstarted i es) u in
    one_event p i e es b h (happens p b i h e v.0)
    (λ l. lane_alone p i es (buffer_after p b e) (subst (λ (n : ℕ). image_length * i + image_length ≤ n) (sym l) h) v.1)

-- From an accepted start of lane i on, every answer that it gets, by turns and calls, and its 312 bytes then, are those of its own book.
pub each_lane : (p : Plan) (x : Image) → Starts p x → (b : List ℕ) (i : ℕ) → Inside b i → part b i ≡ (calls.start p x).image
    → (es : List Event) → unstarted i es ≡ true → seen p b i es ≡ told p blank (calls_of p (length b) i es)
each_lane p x s b i h e es u =
    lane_alone p i es b h u ∙ ap (λ (c : Image). called_all p c (calls_of p (length b) i es)) e ∙ calls-told p x s (calls_of p (length b) i es)
