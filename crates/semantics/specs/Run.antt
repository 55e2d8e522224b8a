-- Runs of the ranked system, 01 "The book of demand 3", the tries that commit one, and what a sequence of calls committed and crossed off.
use Rattle.std.specs.Prelude.{ℕ, zero, suc, Bool, true, false, not, cond, ◌&&◌, ◌||◌, List, [], ◌∷◌, ◌++◌, map, length, leb, ltb, eqb}
use Rattle.semantics.specs.Bytes.{entries, all_of, satisfying}
use Rattle.semantics.specs.Plan.{Plan, interactions, below}
use Rattle.semantics.specs.Code.{State}
use Rattle.semantics.specs.Move.{Configuration, enabled, after, may_commit, replay}
use Rattle.semantics.specs.Load.{max_moves, completes}
use Rattle.semantics.specs.Image.{Image}
use Rattle.semantics.specs.Calls.{Answer, committed, cancelled, Outcome, Call, offered, try, settle, list, called_all}

-- "A run of the ranked system is a list of moves, each enabled, unoutranked and ending good after those before it". 02, job 3: ".. a run of this ranking, where
-- an enabled good move above is what outranks".
unfoldable pub is_run : Plan → Configuration → List ℕ → Bool
is_run p c [] = true
is_run p c (i ∷ is) = all_of (ltb i (interactions p) ∷ may_commit p c i ∷ is_run p (after p c i) is ∷ [])

-- ---- the tries that commit a run

-- How many enabled interactions lie above i: 0 at the top.
unfoldable pub enabled_above : Plan → State → ℕ → ℕ
enabled_above p s i = length (satisfying (interactions p) (λ j. below p i j && enabled p s j))

-- The enabled interactions of the set f with n enabled ones above them.
unfoldable pub level : Plan → State → (ℕ → Bool) → ℕ → List ℕ
level p s f n = satisfying (interactions p) (λ j. all_of (f j ∷ enabled p s j ∷ eqb (enabled_above p s j) n ∷ []))

-- The same with fewer than n, from the top, level by level.
unfoldable pub levels : Plan → State → (ℕ → Bool) → ℕ → List ℕ
levels p s f zero = []
levels p s f (suc n) = levels p s f n ++ level p s f n

-- All enabled interactions of the set f, each behind those that lie above it.
abbrev pub from_top : Plan → State → (ℕ → Bool) → List ℕ
from_top p s f = levels p s f (interactions p)

-- The moves to try so that a run is committed: before each the enabled ones above it, which end bad, from the top.
unfoldable pub tries_of : Plan → Configuration → List ℕ → List ℕ
tries_of p c [] = []
tries_of p c (i ∷ is) = from_top p c.state (below p i) ++ (i ∷ tries_of p (after p c i) is)

-- What these tries answer: the ones above are cancelled, the move of the run is committed.
unfoldable pub tried_answers : Plan → Configuration → List ℕ → List Answer
tried_answers p c [] = []
tried_answers p c (i ∷ is) = map cancelled (from_top p c.state (below p i)) ++ (committed i ∷ tried_answers p (after p c i) is)

-- ---- what calls committed and crossed off

-- A call and its outcome: what an answer's number says depends on the call.
pub record Exchange : Type 0 where
  pub call : Call
  pub outcome : Outcome

-- The calls of a sequence with their outcomes.
unfoldable pub exchanges : List Call → List Outcome → List Exchange
exchanges [] os = []
exchanges (k ∷ ks) [] = []
exchanges (k ∷ ks) (o ∷ os) = record { call = k; outcome = o } ∷ exchanges ks os

-- The answer is a commit: kind 1.
abbrev pub commits : Answer → Bool
commits a = eqb a.kind 1

-- What was committed at once: 01's one move, or the entries of a list (02, job 6).
pub data Commit : Type 0 where
  single : ℕ → Commit
  whole : List ℕ → Commit

-- What a call committed that answers so.
unfoldable pub commit_of : Call → Answer → Commit
commit_of offered a = single a.number
commit_of (try i) a = single a.number
commit_of settle a = single a.number
commit_of (list l) a = whole (entries l)

-- All that was committed, in order.
unfoldable pub commits_in : List Exchange → List Commit
commits_in [] = []
commits_in (x ∷ xs) = let rest = commits_in xs in cond (commits x.outcome.answer) (commit_of x.call x.outcome.answer ∷ rest) rest

-- The same of calls on the image b.
abbrev pub committed_by : Plan → Image → List Call → List Commit
committed_by p b ks = commits_in (exchanges ks (called_all p b ks))

-- No list was committed.
unfoldable pub one_by_one : List Commit → Bool
one_by_one [] = true
one_by_one (single i ∷ ms) = one_by_one ms
one_by_one (whole is ∷ ms) = false

-- The moves of a commit, and of several.
unfoldable pub moves_of : Commit → List ℕ
moves_of (single i) = i ∷ []
moves_of (whole is) = is

unfoldable pub committed_moves : List Commit → List ℕ
committed_moves [] = []
committed_moves (m ∷ ms) = moves_of m ++ committed_moves ms

-- Single moves of a run and committed lists, each after those before it. 02, job 6: "A run may pass through verdict 1 only inside a list."
unfoldable pub is_history : Plan → Configuration → List Commit → Bool
is_history p c [] = true
is_history p c (single i ∷ ms) = all_of (ltb i (interactions p) ∷ may_commit p c i ∷ is_history p (after p c i) ms ∷ [])
is_history p c (whole is ∷ ms) = all_of (completes p c is ∷ is_history p (replay p c is) ms ∷ [])

-- Each committed list has 1 to 8 entries: 22 met it where it was "empty, odd in bytes, or longer than 8 moves".
unfoldable pub lists_sized : List Commit → Bool
lists_sized [] = true
lists_sized (single i ∷ ms) = lists_sized ms
lists_sized (whole is ∷ ms) = all_of (ltb 0 (length is) ∷ leb (length is) max_moves ∷ lists_sized ms ∷ [])

-- f holds of every configuration on the way of the moves, the first and the last included.
unfoldable pub every_state : (Configuration → Bool) → Plan → Configuration → List ℕ → Bool
every_state f p c [] = f c
every_state f p c (i ∷ is) = f c && every_state f p (after p c i) is

-- No call of the list committed.
unfoldable pub no_commit : List Exchange → Bool
no_commit [] = true
no_commit (x ∷ xs) = not (commits x.outcome.answer) && no_commit xs

-- What came since the last commit; all of it where there is none.
unfoldable pub since_commit : List Exchange → List Exchange
since_commit [] = []
since_commit (x ∷ xs) = let rest = since_commit xs in cond (no_commit xs) (cond (commits x.outcome.answer) xs (x ∷ xs)) rest

-- The image that a sequence of calls left, begun on b.
unfoldable pub left_by : Image → List Outcome → Image
left_by b [] = b
left_by b (o ∷ os) = left_by o.image os

-- The image that the last commit left, or b where there is none.
unfoldable pub last_committed : Image → List Outcome → Image
last_committed b [] = b
last_committed b (o ∷ os) = last_committed (cond (commits o.answer) o.image b) os

-- A call that answers so crosses off move i, in the configuration c: it cancels i, or it is penned and i is enabled. A list crosses off nothing: its number is an
-- index.
unfoldable pub crosses : Plan → Configuration → ℕ → Call → Answer → Bool
crosses p c i offered a = false
crosses p c i (try j) a = eqb a.kind 2 && eqb i a.number
crosses p c i settle a = eqb a.kind 4 && enabled p c.state i
crosses p c i (list l) a = false

-- Some exchange of the list crosses off move i.
unfoldable pub some_crosses : Plan → Configuration → ℕ → List Exchange → Bool
some_crosses p c i [] = false
some_crosses p c i (x ∷ xs) = crosses p c i x.call x.outcome.answer || some_crosses p c i xs
