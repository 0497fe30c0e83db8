-- Shapes of code that pieces are made of.
use Rattle.std.specs.Prelude.{ℕ, zero, suc, ◌%◌, ◌^◌, nat_eq, Bool, true, false, List, [], ◌∷◌, ◌++◌, length, Option, if◌then◌else◌}
use Rattle.fact_wasm.specs.declared.instr.BlockType.TheVariants.{Empty}
use Rattle.fact_wasm.specs.declared.instr.FuncName.TheVariants as func
use Rattle.fact_wasm.specs.declared.instr.Instr.{Instr}
use Rattle.fact_wasm.specs.declared.instr.Instr.TheVariants as I
use Rattle.fact_machine.specs.Machine.{page_bytes}
use Rattle.fact_machine.specs.Exits.{nest}

-- a call of a trap's function, which does not return
abbrev pub trap_code : ℕ → List Instr
trap_code place = I.Call (func.Import place) ∷ I.Unreachable ∷ []

-- a condition, and a trap where it is 0
abbrev pub guard_code : List Instr → ℕ → List Instr
guard_code condition place = I.Block Empty (condition ++ I.BrIf 0 ∷ trap_code place) ∷ []

-- the code of each case, and behind it a branch behind all of them
abbrev pub arms : List (List Instr) → List (List Instr)
arms [] = []
arms (c ∷ cs) = (c ++ I.Br (length cs) ∷ []) ∷ arms cs

-- a number, and the case whose label the table has at its place, or else the last
abbrev pub cases_code : List Instr → List ℕ → ℕ → List (List Instr) → List Instr
cases_code number labels last cs = I.Block Empty (nest (arms cs) (number ++ I.BrTable labels last ∷ [])) ∷ []

-- so many labels from one on
abbrev pub labels_from : ℕ → ℕ → List ℕ
labels_from i zero = []
labels_from i (suc n) = i ∷ labels_from (suc i) n

-- the code of each case of a sum, and a trap past the last
abbrev pub sum_code : (number : List Instr) → (trap : ℕ) → List (List Instr) → List Instr
sum_code number trap codes = cases_code number (labels_from 0 (length codes)) (length codes) (codes ++ trap_code trap ∷ [])

-- A turn of a loop: `test` pushes a number that is not 0 where no turn is left, and `body` is a turn, which counts.
abbrev pub turn_code : (test body : List Instr) → List Instr
turn_code test body = test ++ I.BrIf 1 ∷ (body ++ I.Br 0 ∷ [])

abbrev pub counted_code : (test body : List Instr) → List Instr
counted_code test body = I.Block Empty (I.Loop Empty (turn_code test body) ∷ []) ∷ []

-- a body in which a throw goes to a trap
abbrev pub barrier_code : List Instr → ℕ → List Instr
barrier_code body place = I.Block Empty (I.Block Empty (I.TryTable Empty (0 ∷ []) body ∷ I.Br 1 ∷ []) ∷ trap_code place) ∷ []

-- an i64 times a number, which needs no product where the number is 1
abbrev pub scaled_code : ℕ → List Instr
scaled_code factor = if nat_eq factor 1 then [] else (I.I64Const factor ∷ I.I64Mul ∷ [])

-- the number of a memory's pages, as an i64
abbrev pub pages_code : ℕ → Bool → List Instr
pages_code place true = I.MemorySize place ∷ []
pages_code place false = I.MemorySize place ∷ I.I64ExtendI32U ∷ []

-- The length of a memory in bytes, as an i64. A memory whose pages have 2 to the power of 64 bytes or more has none of them.
abbrev pub length_code : ℕ → Bool → Option ℕ → List Instr
length_code place memory64 log2 = pages_code place memory64 ++ scaled_code (page_bytes log2 % 2 ^ 64)
