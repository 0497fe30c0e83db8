-- The code of tests: of numbers, and of regions in memory.
use Rattle.std.specs.Prelude.{ℕ, ◌-◌, nat_eq, Bool, true, false, List, [], ◌∷◌, ◌++◌, Option}
use Rattle.fact_wasm.specs.declared.types.ValType.TheVariants as val
use Rattle.fact_wasm.specs.declared.instr.Instr.{Instr}
use Rattle.fact_wasm.specs.declared.instr.Instr.TheVariants as I
use Rattle.fact_wasm.specs.declared.module.WasmModule.{WasmModule}
use Rattle.fact_types.specs.declared.import.Import.TheVariants as import
use Rattle.fact_types.specs.declared.outside.Trap.TheVariants.{UnalignedPointer}
use Rattle.fact_actions.specs.Running.{ImportPlaces}
use Rattle.fact_code_laws.specs.Code.{guard_code, length_code}
use Rattle.fact_code_laws.specs.Knows.{KnowsFunction}
use Rattle.fact_code_laws.specs.Places.{Number, N32, N64, From, DebugChecks, read_code, widen}

-- ---- numbers

-- below the surrogates, or past them and below the end
abbrev pub scalar_test : ℕ → List Instr
scalar_test temp =
    I.LocalGet temp ∷ I.I32Const 0xD800 ∷ I.I32LtU
    ∷ I.LocalGet temp ∷ I.I32Const 0xDFFF ∷ I.I32GtU
    ∷ I.LocalGet temp ∷ I.I32Const 0x110000 ∷ I.I32LtU
    ∷ I.I32And ∷ I.I32Or ∷ []

-- below the number of cases
abbrev pub case_test : (cases temp : ℕ) → List Instr
case_test cases temp = I.LocalGet temp ∷ I.I32Const cases ∷ I.I32LtU ∷ []

-- ---- pointers and regions

-- whether a pointer is a multiple of an alignment
abbrev pub aligned_code : (pointer align : ℕ) → List Instr
aligned_code pointer align = I.LocalGet pointer ∷ I.I64Const (align - 1) ∷ I.I64And ∷ I.I64Eqz ∷ []

-- whether so many bytes from a pointer on are within a length; no sum is made that could wrap
abbrev pub bounds_code : (pointer bytes length : ℕ) → List Instr
bounds_code pointer bytes length =
    I.LocalGet length ∷ I.LocalGet bytes ∷ I.I64GeU ∷ I.LocalGet length ∷ I.LocalGet bytes ∷ I.I64Sub ∷ I.LocalGet pointer ∷ I.I64GeU ∷ I.I32And ∷ []

-- a pointer is a multiple of its alignment, which needs no test where that is one byte
abbrev pub aligned_guard : (one : Bool) → (pointer align place : ℕ) → List Instr
aligned_guard true pointer align place = []
aligned_guard false pointer align place = guard_code (aligned_code pointer align) place

-- the function of the trap is there where there is a test
abbrev pub HasUnaligned : (one : Bool) → WasmModule → ImportPlaces → (place : ℕ) → Type 0
HasUnaligned true M p place = Unit {0}
HasUnaligned false M p place = KnowsFunction M p (import.Trap UnalignedPointer) place [] []

-- a number as wide as addresses
abbrev pub pointer_of_width : Bool → Number
pointer_of_width true = N64
pointer_of_width false = N32

-- a pointer or length is read into a temporary
abbrev pub read_into : DebugChecks → Bool → From → ℕ → List Instr
read_into checks memory64 from i = read_code checks (pointer_of_width memory64) from ++ (widen (pointer_of_width memory64) val.I64 ++ I.LocalSet i ∷ [])

-- the checks of a region of so many bytes at a pointer, by temporaries that hold them, with one for the memory's length
abbrev pub region_code : (memory : ℕ) (memory64 : Bool) (log2 : Option ℕ) (align : ℕ) (pointer bytes length unaligned outside : ℕ) → List Instr
region_code memory memory64 log2 align pointer bytes length unaligned outside =
    aligned_guard (nat_eq align 1) pointer align unaligned ++ (length_code memory memory64 log2 ++ (I.LocalSet length ∷ guard_code (bounds_code pointer bytes length) outside))
