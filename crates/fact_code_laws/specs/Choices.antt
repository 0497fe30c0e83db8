-- The choice of one of several cases by a number: in one table, or in two levels of tables where there are more than 64 cases, so
-- that few blocks stand within one another.
use Rattle.std.specs.Prelude.{◌≡◌, ℕ, ◌<◌, ◌≤◌, List, [], ◌∷◌, ◌++◌, length, map}
use Rattle.std.specs.List.{AllByRecursion, flat_map}
use Rattle.fact_wasm.specs.declared.instr.Instr.{Instr}
use Rattle.fact_wasm.specs.declared.instr.Instr.TheVariants as I
use Rattle.fact_code_laws.specs.Code.{cases_code, labels_from, sum_code}

-- ---- chunks of 64 cases

-- the elements of lists, one list behind the other
abbrev pub all_of_chunks : {X : Type 0} → List (List X) → List X
all_of_chunks = flat_map (λ chunk. chunk)

-- codes in chunks of 64, with at most 64 behind them
pub record AreChunks (codes : List (List Instr)) (chunks : List (List (List Instr))) (rest : List (List Instr)) : Type 0 where
  pub full : AllByRecursion (λ chunk. length chunk ≡ 64) chunks
  pub few : length rest ≤ 64
  pub all : codes ≡ all_of_chunks chunks ++ rest

-- the chunk that a number is in, and its place there
abbrev pub chunk_number : List Instr → List Instr
chunk_number number = number ++ I.I32Const 6 ∷ I.I32ShrU ∷ []

abbrev pub place_in_chunk : List Instr → List Instr
place_in_chunk number = number ++ I.I32Const 63 ∷ I.I32And ∷ []

-- the code of the case of a place among 64
abbrev pub full_chunk_code : List Instr → List (List Instr) → List Instr
full_chunk_code number codes = cases_code (place_in_chunk number) (labels_from 0 63) 63 codes

-- the code of each chunk, and of those behind them, with a trap past the last
abbrev pub chunk_codes : (number : List Instr) → (trap : ℕ) → List (List (List Instr)) → List (List Instr) → List (List Instr)
chunk_codes number trap chunks rest = map (full_chunk_code number) chunks ++ sum_code (place_in_chunk number) trap rest ∷ []

-- ---- the choice

-- The code of the case of a number, and a trap past the last: by one table of at most 64 cases, or by one of chunks, and in each by one
-- of its cases.
pub data IsChoice (number : List Instr) (trap : ℕ) (codes : List (List Instr)) (code : List Instr) : Type 0 where
  InOneTable : (few : length codes ≤ 64) → (is : code ≡ sum_code number trap codes) → IsChoice number trap codes code
  InChunks : (chunks : List (List (List Instr))) → (rest : List (List Instr)) → (many : 64 < length codes) → (are : AreChunks codes chunks rest)
      → (is : code ≡ sum_code (chunk_number number) trap (chunk_codes number trap chunks rest)) → IsChoice number trap codes code
