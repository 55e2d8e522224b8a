-- Bytes and bounded tests: the vocabulary of all the definitions. A plan and an image are lists of bytes.
use Rattle.std.specs.Prelude.{ℕ, zero, suc, ◌+◌, ◌*◌, ◌/◌, ◌%◌, Bool, true, false, cond, ◌&&◌, ◌||◌, List, [], ◌∷◌, ◌++◌, length, get_or, ltb, eqb}

-- The byte at place i; 0 past the end.
abbrev pub byte : List ℕ → ℕ → ℕ
byte bs i = get_or bs i 0

-- 01, head: "Numbers are stored lowest byte first." 16, 32 and 64 bits read at place i.
unfoldable pub u16 : List ℕ → ℕ → ℕ
u16 bs i = byte bs i + 256 * byte bs (i + 1)

unfoldable pub u32 : List ℕ → ℕ → ℕ
u32 bs i = byte bs i + 256 * byte bs (i + 1) + 65536 * byte bs (i + 2) + 16777216 * byte bs (i + 3)

unfoldable pub u64 : List ℕ → ℕ → ℕ
u64 bs i = u32 bs i + 4294967296 * u32 bs (i + 4)

-- The n lowest bytes of x, lowest first.
unfoldable pub le_bytes : ℕ → ℕ → List ℕ
le_bytes zero x = []
le_bytes (suc n) x = (x % 256) ∷ le_bytes n (x / 256)

-- Every test of the list holds.
unfoldable pub all_of : List Bool → Bool
all_of [] = true
all_of (b ∷ bs) = b && all_of bs

-- Where the first holds, the second does.
unfoldable pub implies : Bool → Bool → Bool
implies true b = b
implies false b = true

-- f holds at each number below n.
unfoldable pub every : ℕ → (ℕ → Bool) → Bool
every zero f = true
every (suc n) f = every n f && f n

-- f holds at some number below n.
unfoldable pub some_below : ℕ → (ℕ → Bool) → Bool
some_below zero f = false
some_below (suc n) f = some_below n f || f n

-- The lowest number below n at which f holds; n where there is none.
unfoldable pub lowest : ℕ → (ℕ → Bool) → ℕ
lowest zero f = zero
lowest (suc n) f = let k = lowest n f in cond (ltb k n) k (cond (f n) n (suc n))

-- The numbers below n at which f holds, the lowest first.
unfoldable pub satisfying : ℕ → (ℕ → Bool) → List ℕ
satisfying zero f = []
satisfying (suc n) f = satisfying n f ++ cond (f n) (n ∷ []) []

-- The list f 0, f 1, .. of n entries.
unfoldable pub table : {A : Type 0} → ℕ → (ℕ → A) → List A
table zero f = []
table (suc n) f = f zero ∷ table n (λ k. f (suc k))

-- 02, jobs 4 and 6: moves, "16 bits each", of a log or a list. A last byte without its second one is no entry.
unfoldable pub entries : List ℕ → List ℕ
entries bs = table (length bs / 2) (λ k. u16 bs (2 * k))

-- Bit k of m.
unfoldable pub bit : ℕ → ℕ → Bool
bit m zero = eqb (m % 2) 1
bit m (suc k) = bit (m / 2) k

-- The number below 2 ^ n whose bit k is set where f holds at k.
unfoldable pub mask : ℕ → (ℕ → Bool) → ℕ
mask zero f = zero
mask (suc n) f = cond (f zero) 1 0 + 2 * mask n (λ k. f (suc k))

-- The 64-bit mask m with bit i set.
unfoldable pub with_bit : ℕ → ℕ → ℕ
with_bit m i = mask 64 (λ j. bit m j || eqb j i)
