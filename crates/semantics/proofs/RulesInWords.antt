-- The planner's rules 1, 9 and 20 in words: each test holds exactly where what 01 and 02 say does.
use mathlib.Core.Path.{◌≡◌}
use mathlib.Core.Logic.{◌↔◌}
use Prim.Native.Nat.{ℕ, ◌+◌, ◌≤◌, ◌<◌}
use native.Mathlib.Omega.{arith}
use mathlib.Core.Bool.{true, false}
use lib.ListN.{length}
use lib.Dec.{eqb}
use Rattle.semantics.specs.Bytes.{byte, every}
use Rattle.semantics.specs.Plan.{Plan, letters, oracle_states, verdict, next}
use Rattle.semantics.specs.Rules.{head_ok, verdict_ok, follower_ok, oracle_ok, table_ok}
use Rattle.semantics.proofs.Basics.{bool_cases, absurd_bool, both_and, implies-yes, implies-at, each, all_of_lem, leb-true, le_leb, ltb-true, lt-ltb, eqb-true, eq-eqb, every-at, every_all}

-- ---- 1

-- "fewer than 48 bytes, wrong letters, or bytes 42–47 not zero", of which 02, job 1, leaves 46 and 47: what a plan has that is not met by 1. PLAN is 80 76 65 78.
pub record HeadLawful (p : Plan) : Type 0 where
  pub long : 48 ≤ length p
  pub letter_P : byte p 0 ≡ 80
  pub letter_L : byte p 1 ≡ 76
  pub letter_A : byte p 2 ≡ 65
  pub letter_N : byte p 3 ≡ 78
  pub zero_46 : byte p 46 ≡ 0
  pub zero_47 : byte p 47 ≡ 0

pub head_exactly : (p : Plan) → head_ok p ≡ true ↔ HeadLawful p
unfolding head_ok every
head_exactly p = (
  (λ e.
      let (n, (a, (b, (c, (d, (z, _)))))) = each _ e in
      record {
        long = leb-true _ _ n;
        letter_P = eqb-true _ _ a;
        letter_L = eqb-true _ _ b;
        letter_A = eqb-true _ _ c;
        letter_N = eqb-true _ _ d;
        zero_46 = eqb-true _ _ (every-at 2 (λ k. eqb (byte p (46 + k)) 0) z 0 (omega arith));
        zero_47 = eqb-true _ _ (every-at 2 (λ k. eqb (byte p (46 + k)) 0) z 1 (omega arith));
      }),
  (λ h.
      all_of_lem _ (
        le_leb _ _ h.long,
        (
          eq-eqb _ _ h.letter_P,
          (
            eq-eqb _ _ h.letter_L,
            (eq-eqb _ _ h.letter_A, (eq-eqb _ _ h.letter_N, (both_and (eq-eqb _ _ h.zero_46) (eq-eqb _ _ h.zero_47), tt))),
          ),
        ),
      )),
)

-- ---- 9 and 20

-- "a verdict other than 0, 2, 3, a next state at or above S, a bad state with a follower that is not bad, a 3 state with a follower that is not 3": what a table has
-- that is not met by 9 or 20. 02, job 6: verdict 1 is lawful, "with no rule on its followers", and a bad state is one of verdict 0.
pub record TableLawful (p : Plan) (n : ℕ) : Type 0 where
  pub verdict≤ : (q : ℕ) → q < oracle_states p n → verdict p n q ≤ 3
  pub next< : (q a : ℕ) → q < oracle_states p n → a < letters p → next p n q a < oracle_states p n
  pub bad_stays : (q a : ℕ) → q < oracle_states p n → a < letters p → verdict p n q ≡ 0 → verdict p n (next p n q a) ≡ 0
  pub three_stays : (q a : ℕ) → q < oracle_states p n → a < letters p → verdict p n q ≡ 3 → verdict p n (next p n q a) ≡ 3

module _ (p : Plan) (n : ℕ) where
  follows : table_ok p n ≡ true → (q a : ℕ) → q < oracle_states p n → a < letters p → follower_ok p n q (next p n q a) ≡ true
  unfolding table_ok oracle_ok
  follows e q a l m =
      let (_, (f, _)) = each _ (every-at (oracle_states p n) (oracle_ok p n) e q l) in every-at (letters p) (λ b. follower_ok p n q (next p n q b)) f a m

  pub table_exactly : table_ok p n ≡ true ↔ TableLawful p n
  table_exactly = (to, from)
    where
      to : table_ok p n ≡ true → TableLawful p n
      to e =
          record {
            verdict≤ = λ q l. unfold table_ok oracle_ok verdict_ok in (let (v, _) = each _ (every-at (oracle_states p n) (oracle_ok p n) e q l) in leb-true _ _ v);
            next< = λ q a l m. unfold follower_ok in (let (r, _) = each _ (follows e q a l m) in ltb-true _ _ r);
            bad_stays = λ q a l m z. unfold follower_ok in
                (let (_, (b, _)) = each _ (follows e q a l m) in eqb-true _ _ (implies-at _ _ b (eq-eqb _ _ z)));
            three_stays = λ q a l m z. unfold follower_ok in
                (let (_, (_, (t, _))) = each _ (follows e q a l m) in eqb-true _ _ (implies-at _ _ t (eq-eqb _ _ z)));
          }

      from : TableLawful p n → table_ok p n ≡ true
      from h = unfold table_ok oracle_ok verdict_ok follower_ok in
          every_all (oracle_states p n) (oracle_ok p n)
          (λ q l. all_of_lem _ (
            le_leb _ _ (h.verdict≤ q l),
            (
              every_all (letters p) (λ a. follower_ok p n q (next p n q a))
                  (λ a m. all_of_lem _ (
                    lt-ltb _ _ (h.next< q a l m),
                    (
                      implies-yes _ _ (λ z. eq-eqb _ _ (h.bad_stays q a l m (eqb-true _ _ z))),
                      (implies-yes _ _ (λ z. eq-eqb _ _ (h.three_stays q a l m (eqb-true _ _ z))), tt),
                    ),
                  )),
              tt,
            ),
          ))

  -- the rule is broken exactly where the table is not so
  pub table-broken : table_ok p n ≡ false ↔ ¬ TableLawful p n
  table-broken = (
    (λ e h. absurd_bool (table_exactly.1 h) e),
    (λ f. bool_cases (table_ok p n) (λ t. absurd (f (table_exactly.0 t))) (λ t. t)),
  )
