-- The fourteen proved cases of 01 "The sample lane", as one table: what the definitions give, and what 01 says, cases 9 and 13 as 02, jobs 3 and 2, have them.
use Rattle.std.specs.Prelude.{ℕ, Bool, true, false, ◌&&◌, List, [], ◌∷◌, ◌++◌, map, length, replicate, take, drop, ℤ, pos}
use Rattle.semantics.specs.Bytes.{byte, u32}
use Rattle.semantics.specs.Signed.{signed, equal_z, add}
use Rattle.semantics.specs.Plan.{Plan}
use Rattle.semantics.specs.Image.{Image, image_length}
use Rattle.semantics.specs.Calls.{Outcome, check, start, called, Call, offered, try, settle}
use Rattle.semantics.specs.Sample.{sample, ranked, weighed_at_start, still, underflow}

pub record Case : Type 0 where
  pub gives : List ℤ
  pub says : List ℤ

unfoldable pub agree : List ℤ → List ℤ → Bool
agree [] [] = true
agree [] (y ∷ ys) = false
agree (x ∷ xs) [] = false
agree (x ∷ xs) (y ∷ ys) = equal_z x y && agree xs ys

unfoldable pub all_agree : List Case → Bool
all_agree [] = true
all_agree (c ∷ cs) = agree c.gives c.says && all_agree cs

abbrev pub numbers : List ℕ → List ℤ
numbers ns = map pos ns

-- An answer's kind and number.
abbrev pub answered : Outcome → List ℕ
answered o = o.answer.kind ∷ o.answer.number ∷ []

-- A case in numbers alone.
abbrev pub case : List ℕ → List ℕ → Case
case given said = record { gives = numbers given; says = numbers said }

-- The memory of an image, which holds anything.
abbrev pub memory : Image
memory = replicate image_length 170

abbrev pub begun : Plan → Outcome
begun p = start p memory

-- The call after a start.
abbrev pub first : Plan → Call → Outcome
first p k = called p (begun p).image k

-- The image that case 1 describes, byte by byte.
unfoldable pub start_image : Image
start_image = (89 ∷ 65 ∷ 82 ∷ 68 ∷ 1 ∷ 1 ∷ 1 ∷ 3 ∷ 0 ∷ 0 ∷ 0 ∷ 0 ∷ 7 ∷ 0 ∷ 0 ∷ 0 ∷ []) ++ replicate 24 0 ++ replicate 16 255 ++ replicate 256 0

-- The image that case 7 describes: location 1, last port 0, value 9000, no marks.
unfoldable pub tared_image : Image
tared_image =
    (89 ∷ 65 ∷ 82 ∷ 68 ∷ 1 ∷ 1 ∷ 1 ∷ 3 ∷ 0 ∷ 0 ∷ 0 ∷ 0 ∷ 7 ∷ 0 ∷ 0 ∷ 0 ∷ []) ++ replicate 8 0 ++ (1 ∷ replicate 15 0) ++ (0 ∷ replicate 15 255)
    ++ (40 ∷ 35 ∷ replicate 254 0)

-- An image with the eight mark bytes of m and all others as they are.
abbrev pub marked : Image → ℕ → Image
marked b m = take 16 b ++ (m ∷ replicate 7 0) ++ drop 24 b

unfoldable pub cases : List Case
cases =
    -- 1. Start is accepted: oracle state 0, location 0, no marks.
    case (answered (begun sample) ++ (begun sample).image) (0 ∷ 0 ∷ start_image)
    -- 2. Offered then is 3.
    ∷ case (answered (first sample offered) ++ (first sample offered).answer.bits ∷ (first sample offered).image) (0 ∷ 0 ∷ 3 ∷ start_image)
    -- 3. Trying 0 is cancelled; marks are 1.
    ∷ case (answered (first sample (try 0)) ++ (first sample (try 0)).image) (2 ∷ 0 ∷ marked start_image 1)
    -- 4. Trying 0 after that: 19.
    ∷ case (answered (called sample (first sample (try 0)).image (try 0)) ++ (called sample (first sample (try 0)).image (try 0)).image)
    (5 ∷ 19 ∷ marked start_image 1)
    -- 5. At start, trying 2: 17.
    ∷ case (answered (first sample (try 2)) ++ (first sample (try 2)).image) (5 ∷ 17 ∷ start_image)
    -- 6. Trying 3: 16.
    ∷ case (answered (first sample (try 3)) ++ (first sample (try 3)).image) (5 ∷ 16 ∷ start_image)
    -- 7. Settling at start commits 1: location 1, value 9000, last port 0.
    ∷ record {
      gives = numbers (answered (first sample settle) ++ byte (first sample settle).image 24 ∷ byte (first sample settle).image 40 ∷ [])
          ++ signed (u32 (first sample settle).image 56) ∷ numbers (first sample settle).image;
      says = numbers (1 ∷ 1 ∷ 1 ∷ 0 ∷ []) ++ pos 9000 ∷ numbers tared_image;
    }
    -- 8. Settling after case 3 gives case 7's image.
    ∷ case (answered (called sample (first sample (try 0)).image settle) ++ (called sample (first sample (try 0)).image settle).image)
    (1 ∷ 1 ∷ (first sample settle).image)
    -- 9. With interaction 1 below 0: offered 1, trying 1 gives 18, settling commits 1 (02, job 3) and gives case 7's image.
    ∷ case ((first ranked offered).answer.bits ∷ answered (first ranked (try 1)) ++ answered (first ranked settle) ++ (first ranked settle).image)
    (1 ∷ 5 ∷ 18 ∷ 1 ∷ 1 ∷ tared_image)
    -- 10. With starting location 2: 15.
    ∷ case (answered (begun weighed_at_start) ++ (begun weighed_at_start).image) (5 ∷ 15 ∷ memory)
    -- 11. With T 0, no transition records, and offsets and length to match: settling answers stalled.
    ∷ case (length still ∷ answered (begun still) ++ answered (first still settle) ++ (first still settle).image) (186 ∷ 0 ∷ 0 ∷ 3 ∷ 0 ∷ start_image)
    -- 12. The starting image with mark bit 1 set: 14.
    ∷ case (answered (called sample (marked start_image 2) settle) ++ answered (called sample (marked start_image 2) offered) ++ answered (called sample (marked start_image 2) (try 1)))
    (5 ∷ 14 ∷ 5 ∷ 14 ∷ 5 ∷ 14 ∷ [])
    -- 13. 2147483647 add 1 is 2147483647 (02, job 2).
    ∷ record { gives = add (pos 2147483647) (pos 1) ∷ []; says = pos 2147483647 ∷ [] }
    -- 14. A guard of the one word 6000: 10.
    ∷ case (length sample ∷ (check sample).kind ∷ length underflow ∷ (check underflow).kind ∷ (check underflow).number ∷ []) (234 ∷ 0 ∷ 236 ∷ 5 ∷ 10 ∷ [])
    ∷ []
