-- Which rule of a list refuses: its own rule is broken and each rule that stands before it in the list is kept.
-- The order is that of the list. The numbers only name the rules: they differ from one another, and none is 0.
use mathlib.Core.Path.{◌≡◌, refl, sym, ap, ap₂, ◌∙◌}
use mathlib.Core.Logic.{◌↔◌, ◌≢◌}
use Prim.Native.Nat.{ℕ}
use mathlib.Core.Bool.{Bool, true, false, not, cond, ◌&&◌, ◌||◌, true≢false, false≢true}
use mathlib.Core.List.{List, [], ◌∷◌, ◌++◌}
use lib.Dec.{eqb}
use Rattle.semantics.specs.Refusal.{Rule, unless, refusal}
use Rattle.semantics.proofs.Counting.{among}
use Rattle.semantics.proofs.Basics.{bool_cases, absurd_bool, not_yes, and_both, or_cases, or_left, or_right, Each, eqb-true, eq-eqb, ne_eqb}
use Rattle.semantics.proofs.Refusing.{numbered, tests, none-refused}

-- Each rule of the list is kept.
abbrev pub Kept : List Rule → Type 0
Kept rs = Each (tests rs)

-- The rules that stand before rule n; all of the list where it has none.
unfoldable pub before : ℕ → List Rule → List Rule
before n [] = []
before n (r ∷ rs) = cond (eqb r.number n) [] (r ∷ before n rs)

-- Rule n of the list is kept; so it is where the list has none.
unfoldable pub keeps : ℕ → List Rule → Bool
keeps n [] = true
keeps n (r ∷ rs) = cond (eqb r.number n) r.kept (keeps n rs)

-- Rule n of the list is broken, and each rule before it is kept.
abbrev pub Exactly : ℕ → List Rule → Type 0
Exactly n rs = Kept (before n rs) × (keeps n rs ≡ false)

abbrev pub numbers : List Rule → List ℕ
numbers [] = []
numbers (r ∷ rs) = r.number ∷ numbers rs

-- No two rules of the list have one number.
unfoldable pub distinct : List Rule → Bool
distinct [] = true
distinct (r ∷ rs) = not (among r.number (numbers rs)) && distinct rs

-- ---- rules that are kept

pub kept-number : (n : ℕ) (rs : List Rule) → Kept rs → keeps n rs ≡ true
unfolding keeps
kept-number n [] h = refl
kept-number n (r ∷ rs) (k, h) = bool_cases (eqb r.number n) (λ e. rw e k) (λ e. rw e (kept-number n rs h))

-- Nothing is refused: each rule is kept, by its number.
pub rule-kept : (rs : List Rule) → numbered rs ≡ true → refusal rs ≡ 0 → (n : ℕ) → keeps n rs ≡ true
rule-kept rs h e n = kept-number n rs (none-refused rs h e)

-- Two lists of rules are kept exactly where each is.
pub kept_append : (rs qs : List Rule) → Kept (rs ++ qs) ↔ Kept rs × Kept qs
kept_append [] qs = (λ h. (tt, h), λ (_, h). h)
kept_append (r ∷ rs) qs =
    ((λ (h, hs). let (a, b) = (kept_append rs qs).0 hs in ((h, a), b)), (λ ((h, a), b). (h, (kept_append rs qs).1 (a, b))))

-- ---- the rule that is broken

-- A number that a broken rule has is one of the list's, and is not 0.
pub broken_among : (n : ℕ) (rs : List Rule) → keeps n rs ≡ false → among n (numbers rs) ≡ true
unfolding keeps
broken_among n [] e = absurd (true≢false e)
broken_among n (r ∷ rs) e =
    bool_cases (eqb r.number n) (or_left (eqb r.number n) (among n (numbers rs)))
    (λ d. or_right (eqb r.number n) (among n (numbers rs)) (broken_among n rs (rw d at e)))

pub no_rule_0 : (rs : List Rule) → numbered rs ≡ true → keeps 0 rs ≡ true
unfolding keeps numbered
no_rule_0 [] h = refl
no_rule_0 (r ∷ rs) h =
    let (n, ns) = and_both (not (eqb r.number 0)) (numbered rs) h in rw (not_yes (eqb r.number 0) n) (no_rule_0 rs ns)

-- One rule more in front, with another number or with the number n.
exactly_later : (n : ℕ) (r : Rule) (rs : List Rule) → eqb r.number n ≡ false → Exactly n (r ∷ rs) ↔ (r.kept ≡ true) × Exactly n rs
unfolding before keeps
exactly_later n r rs d = rw d (λ ((k, ks), b). (k, (ks, b)), λ (k, (ks, b)). ((k, ks), b))

exactly_own : (n : ℕ) (r : Rule) (rs : List Rule) → eqb r.number n ≡ true → Exactly n (r ∷ rs) ↔ r.kept ≡ false
unfolding before keeps
exactly_own n r rs e = rw e (λ (_, b). b, λ b. (tt, b))

-- A later rule that is broken has another number than the first.
broken_other : (n : ℕ) (r : Rule) (rs : List Rule) → distinct (r ∷ rs) ≡ true → keeps n rs ≡ false → eqb r.number n ≡ false
unfolding distinct
broken_other n r rs d b =
    ne_eqb r.number n
    (λ e. let (fresh, _) = and_both (not (among r.number (numbers rs))) (distinct rs) d in
    absurd_bool (ap (λ (m : ℕ). among m (numbers rs)) e ∙ broken_among n rs b) (not_yes (among r.number (numbers rs)) fresh))

refusal→exactly : (n : ℕ) (rs : List Rule) → distinct rs ≡ true → n ≢ 0 → refusal rs ≡ n → Exactly n rs
unfolding distinct refusal unless
refusal→exactly n [] d f e = absurd (f (sym e))
refusal→exactly n (r ∷ rs) d f e =
    let (_, ds) = and_both (not (among r.number (numbers rs))) (distinct rs) d in
    bool_cases r.kept
    (λ k. let x = refusal→exactly n rs ds f (rw k at e) in (exactly_later n r rs (broken_other n r rs d x.1)).1 (k, x))
    (λ k. (exactly_own n r rs (eq-eqb r.number n (rw k at e))).1 k)

exactly→refusal : (n : ℕ) (rs : List Rule) → Exactly n rs → refusal rs ≡ n
unfolding keeps refusal unless
exactly→refusal n [] (ks, b) = absurd (true≢false b)
exactly→refusal n (r ∷ rs) x =
    bool_cases (eqb r.number n) (λ e. rw ((exactly_own n r rs e).0 x) (eqb-true r.number n e))
    (λ e. let (k, y) = (exactly_later n r rs e).0 x in rw k (exactly→refusal n rs y))

-- The first broken rule of a list has the number n exactly where rule n is broken and each rule before it is kept.
pub refusal_exactly : (n : ℕ) (rs : List Rule) → distinct rs ≡ true → n ≢ 0 → refusal rs ≡ n ↔ Exactly n rs
refusal_exactly n rs d f = (refusal→exactly n rs d f, exactly→refusal n rs)

-- ---- rules that come after rule n change nothing

before_append : (n : ℕ) (rs qs : List Rule) → among n (numbers rs) ≡ true → before n (rs ++ qs) ≡ before n rs
unfolding before
before_append n [] qs h = absurd (false≢true h)
before_append n (r ∷ rs) qs h =
    bool_cases (eqb r.number n) (λ e. rw e refl)
    (λ e. ap (λ (ks : List Rule). cond (eqb r.number n) [] (r ∷ ks)) (before_append n rs qs (rw e at h)))

keeps_append : (n : ℕ) (rs qs : List Rule) → among n (numbers rs) ≡ true → keeps n (rs ++ qs) ≡ keeps n rs
unfolding keeps
keeps_append n [] qs h = absurd (false≢true h)
keeps_append n (r ∷ rs) qs h =
    bool_cases (eqb r.number n) (λ e. rw e refl)
    (λ e. ap (cond (eqb r.number n) r.kept) (keeps_append n rs qs (rw e at h)))

pub exactly_append : (n : ℕ) (rs qs : List Rule) → among n (numbers rs) ≡ true → Exactly n (rs ++ qs) ≡ Exactly n rs
exactly_append n rs qs h =
    ap₂ (λ (ks : List Rule) (b : Bool). Kept ks × (b ≡ false)) (before_append n rs qs h) (keeps_append n rs qs h)

-- ---- two lists of numbers

pub among_append : (n : ℕ) (ms ns : List ℕ) → among n ms ≡ true → among n (ms ++ ns) ≡ true
among_append n [] ns h = absurd (false≢true h)
among_append n (m ∷ ms) ns h =
    or_cases (eqb m n) (among n ms) h (or_left (eqb m n) (among n (ms ++ ns))) (λ k. or_right (eqb m n) (among n (ms ++ ns)) (among_append n ms ns k))
