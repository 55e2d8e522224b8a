-- Bounded quantifiers: every number below n, some number below n, the lowest one.
use mathlib.Core.Path.{◌≡◌, refl, sym, ◌∙◌, subst}
use Prim.Native.Nat.{ℕ, zero, suc, ◌≤◌, ◌<◌, zero-le, suc-le-suc}
use native.Mathlib.Nat.{not-suc-le-zero, le_refl, le_trans, le_of_lt, le_antisymm, lt_irrefl}
use mathlib.Core.Bool.{Bool, true, false, cond, false≢true}
use lib.Dec.{ltb}
use Rattle.semantics.specs.Bytes.{every, some_below, lowest}
use Rattle.semantics.proofs.Booleans.{bool_cases, absurd_bool, same_test, and_both, both_and, or_cases, or_left, or_right}
use Rattle.semantics.proofs.Comparisons.{ltb-true, ltb-false, below_suc}

pub every-at : (n : ℕ) (f : ℕ → Bool) → every n f ≡ true → (k : ℕ) → k < n → f k ≡ true
unfolding every
every-at zero f e k h = absurd (not-suc-le-zero h)
every-at (suc n) f e k h =
    let b = and_both (every n f) (f n) e in below_suc h (λ l. every-at n f b.0 k l) (λ q. subst (λ (x : ℕ). f x ≡ true) (sym q) b.1)

pub every_all : (n : ℕ) (f : ℕ → Bool) → ((k : ℕ) → k < n → f k ≡ true) → every n f ≡ true
unfolding every
every_all zero f h = refl
every_all (suc n) f h = both_and (every_all n f (λ k l. h k (le_trans l (le_of_lt (le_refl (suc n)))))) (h n (le_refl (suc n)))

-- f fails at a number below n
pub every_fails : (n : ℕ) (f : ℕ → Bool) (k : ℕ) → k < n → f k ≡ false → every n f ≡ false
every_fails n f k h e = bool_cases (every n f) (λ q. absurd_bool (every-at n f q k h) e) (λ q. q)

-- the same tests hold together
pub every_same : (n : ℕ) (f g : ℕ → Bool) → ((k : ℕ) → k < n → f k ≡ g k) → every n f ≡ every n g
every_same n f g e =
    same_test (every n f) (every n g) (λ h. every_all n g (λ k l. sym (e k l) ∙ every-at n f h k l))
    (λ h. every_all n f (λ k l. e k l ∙ every-at n g h k l))

pub every-none : (f : ℕ → Bool) → every 0 f ≡ true
unfolding every
every-none f = refl

pub some_has : (n : ℕ) (f : ℕ → Bool) (k : ℕ) → k < n → f k ≡ true → some_below n f ≡ true
unfolding some_below
some_has zero f k h e = absurd (not-suc-le-zero h)
some_has (suc n) f k h e =
    below_suc h (λ l. or_left (some_below n f) (f n) (some_has n f k l e)) (λ q. or_right (some_below n f) (f n) (subst (λ (x : ℕ). f x ≡ true) q e))

pub some_found : (n : ℕ) (f : ℕ → Bool) → some_below n f ≡ true → (k : ℕ) × (k < n) × (f k ≡ true)
unfolding some_below
some_found zero f e = absurd (false≢true e)
some_found (suc n) f e =
    or_cases (some_below n f) (f n) e (λ l. let r = some_found n f l in (r.0, le_trans r.1 (le_of_lt (le_refl (suc n))), r.2))
    (λ h. (n, le_refl (suc n), h))

pub some-none : (n : ℕ) (f : ℕ → Bool) → some_below n f ≡ false → (k : ℕ) → k < n → f k ≡ false
some-none n f e k h = bool_cases (f k) (λ q. absurd_bool (some_has n f k h q) e) (λ q. q)

-- the same below n, and none from n to w
pub some_wider : (n w : ℕ) (f g : ℕ → Bool) → n ≤ w → ((k : ℕ) → k < n → g k ≡ f k) → ((k : ℕ) → n ≤ k → k < w → g k ≡ false)
    → some_below w g ≡ some_below n f
some_wider n w f g h e d =
    same_test (some_below w g) (some_below n f)
    (λ q.
    let (k, l, t) = some_found w g q in
    bool_cases (ltb k n) (λ m. some_has n f k (ltb-true _ _ m) (sym (e k (ltb-true _ _ m)) ∙ t)) (λ m. absurd_bool t (d k (ltb-false _ _ m) l)))
    (λ q. let (k, l, t) = some_found n f q in some_has w g k (le_trans l h) (e k l ∙ t))

pub some_same : (n : ℕ) (f g : ℕ → Bool) → ((k : ℕ) → k < n → g k ≡ f k) → some_below n g ≡ some_below n f
some_same n f g e = some_wider n n f g (le_refl n) e (λ k h l. absurd (lt_irrefl n (le_trans (suc-le-suc h) l)))

-- ---- the lowest number

-- what the lowest number is: one at which f holds, or n; f fails at each number below it
pub record Lowest (n : ℕ) (f : ℕ → Bool) (k : ℕ) : Type 0 where
  pub at_most : k ≤ n
  pub hit : k < n → f k ≡ true
  pub missed : (j : ℕ) → j < k → f j ≡ false

lowest_step : (n : ℕ) (f : ℕ → Bool) (k : ℕ) → Lowest n f k → Lowest (suc n) f (cond (ltb k n) k (cond (f n) n (suc n)))
lowest_step n f k l = bool_cases (ltb k n) found (λ e. bool_cases (f n) (here e) (gone e))
  where
    found : ltb k n ≡ true → Lowest (suc n) f (cond (ltb k n) k (cond (f n) n (suc n)))
    found e =
        subst (λ (b : Bool). Lowest (suc n) f (cond b k (cond (f n) n (suc n)))) (sym e)
        (record { at_most = le_trans l.at_most (le_of_lt (le_refl (suc n))); hit = λ h. l.hit (ltb-true k n e); missed = l.missed })

    here : ltb k n ≡ false → f n ≡ true → Lowest (suc n) f (cond (ltb k n) k (cond (f n) n (suc n)))
    here e q =
        subst (λ (b : Bool). Lowest (suc n) f (cond b k (cond (f n) n (suc n)))) (sym e)
        (subst (λ (b : Bool). Lowest (suc n) f (cond b n (suc n))) (sym q)
        (record { at_most = le_of_lt (le_refl (suc n)); hit = λ h. q; missed = λ j h. l.missed j (le_trans h (ltb-false k n e)) }))

    gone : ltb k n ≡ false → f n ≡ false → Lowest (suc n) f (cond (ltb k n) k (cond (f n) n (suc n)))
    gone e q =
        subst (λ (b : Bool). Lowest (suc n) f (cond b k (cond (f n) n (suc n)))) (sym e)
        (subst (λ (b : Bool). Lowest (suc n) f (cond b n (suc n))) (sym q)
        (record {
          at_most = le_refl (suc n);
          hit = λ h. absurd (lt_irrefl (suc n) h);
          missed = λ j h. below_suc h (λ m. l.missed j (le_trans m (ltb-false k n e))) (λ m. subst (λ (x : ℕ). f x ≡ false) (sym m) q);
        }))

pub lowest_is : (n : ℕ) (f : ℕ → Bool) → Lowest n f (lowest n f)
unfolding lowest
lowest_is zero f = record { at_most = zero-le; hit = λ h. absurd (not-suc-le-zero h); missed = λ j h. absurd (not-suc-le-zero h) }
lowest_is (suc n) f = lowest_step n f (lowest n f) (lowest_is n f)

pub lowest_le : (n : ℕ) (f : ℕ → Bool) → lowest n f ≤ n
lowest_le n f = (lowest_is n f).at_most

pub lowest_unique : (n : ℕ) (f : ℕ → Bool) (j k : ℕ) → Lowest n f j → Lowest n f k → j ≡ k
lowest_unique n f j k a b =
    bool_cases (ltb j k) (λ e. let h : j < k = ltb-true j k e in absurd_bool (a.hit (le_trans h b.at_most)) (b.missed j h))
    (λ e. bool_cases (ltb k j) (λ d. let h : k < j = ltb-true k j d in absurd_bool (b.hit (le_trans h a.at_most)) (a.missed k h))
    (λ d. le_antisymm (ltb-false k j d) (ltb-false j k e)))

-- the same tests have the same lowest number
pub lowest_same : (n : ℕ) (f g : ℕ → Bool) → ((k : ℕ) → k < n → f k ≡ g k) → lowest n f ≡ lowest n g
lowest_same n f g e =
    let l = lowest_is n f in
    lowest_unique n g (lowest n f) (lowest n g)
    (record {
      at_most = l.at_most;
      hit = λ h. sym (e (lowest n f) h) ∙ l.hit h;
      missed = λ j h. sym (e j (le_trans h l.at_most)) ∙ l.missed j h;
    })
    (lowest_is n g)

-- there is none: f fails at each number below n
pub lowest-none : (n : ℕ) (f : ℕ → Bool) → ltb (lowest n f) n ≡ false → (k : ℕ) → k < n → f k ≡ false
lowest-none n f e k h = (lowest_is n f).missed k (le_trans h (ltb-false (lowest n f) n e))
