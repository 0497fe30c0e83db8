-- Tests that trap, as pieces of code.
use Rattle.std.specs.Prelude.{◌≡◌, ℕ, nat_eq, Bool, List, [], ◌++◌}
use Rattle.fact_wasm.specs.declared.types.ValType.{ValType}
use Rattle.fact_wasm.specs.declared.instr.Instr.{Instr}
use Rattle.fact_wasm.specs.declared.module.WasmModule.{WasmModule}
use Rattle.fact_types.specs.declared.outside.Trap.{Trap}
use Rattle.fact_types.specs.declared.import.Import.TheVariants as import
use Rattle.fact_actions.specs.Running.{ImportPlaces}
use Rattle.fact_code_laws.specs.Code.{guard_code}
use Rattle.fact_code_laws.specs.Knows.{KnowsFunction}
use Rattle.fact_code_laws.specs.Places.{From, To, HasUpper, HasAligned, FromChecked, ToChecked, upper_check, place_check, from_check, to_check}
use Rattle.fact_code_laws.specs.Tests.{HasUnaligned, aligned_guard, pointer_of_width, read_into, region_code}
use Rattle.fact_emit.specs.declared.places.LinearMemory.{LinearMemory}
use Rattle.fact_emit.specs.Numbers.{HasUpperAt}
use Rattle.fact_emit.specs.Places.{checks_at}

-- a test with a trap where it gives 0, and code behind it
pub record Guarded (test : List Instr) (t : Trap) (rest : List Instr) (M : WasmModule) (p : ImportPlaces) (locals : List ValType) (code : List Instr) : Type 0 where
  pub place : ℕ
  pub has : KnowsFunction M p (import.Trap t) place [] []
  pub is : code ≡ guard_code test place ++ rest

-- ---- debug checks, which ask for the functions of their traps

pub record ChecksUpper (debug halved : Bool) (local : ℕ) (M : WasmModule) (p : ImportPlaces) (locals : List ValType) (code : List Instr) : Type 0 where
  pub is : code ≡ upper_check (checks_at debug p) halved local
  pub has : HasUpper M p (checks_at debug p) halved

pub record ChecksAddress (debug memory64 : Bool) (align base offset : ℕ) (M : WasmModule) (p : ImportPlaces) (locals : List ValType) (code : List Instr) : Type 0 where
  pub is : code ≡ place_check (nat_eq align 1) (checks_at debug p) memory64 base offset align
  pub has : HasAligned (nat_eq align 1) M p (checks_at debug p)

pub record ChecksFrom (debug memory64 : Bool) (align : ℕ) (from : From) (M : WasmModule) (p : ImportPlaces) (locals : List ValType) (code : List Instr) : Type 0 where
  pub is : code ≡ from_check (checks_at debug p) memory64 align from
  pub has : FromChecked M p (checks_at debug p) align from

pub record ChecksTo (debug memory64 : Bool) (align : ℕ) (to : To) (M : WasmModule) (p : ImportPlaces) (locals : List ValType) (code : List Instr) : Type 0 where
  pub is : code ≡ to_check (checks_at debug p) memory64 align to
  pub has : ToChecked M p (checks_at debug p) align to

-- both places of a node
pub record ChecksPlaces (debug from64 to64 : Bool) (from_align to_align : ℕ) (from : From) (to : To) (M : WasmModule) (p : ImportPlaces) (locals : List ValType) (code : List Instr) : Type 0 where
  pub is : code ≡ from_check (checks_at debug p) from64 from_align from ++ to_check (checks_at debug p) to64 to_align to
  pub from_has : FromChecked M p (checks_at debug p) from_align from
  pub to_has : ToChecked M p (checks_at debug p) to_align to

-- ---- pointers and regions

-- a pointer is read into a local of type i64
pub record ReadsPointer (debug memory64 : Bool) (from : From) (local : ℕ) (M : WasmModule) (p : ImportPlaces) (locals : List ValType) (code : List Instr) : Type 0 where
  pub is : code ≡ read_into (checks_at debug p) memory64 from local
  pub has : HasUpperAt M p (checks_at debug p) (pointer_of_width memory64) from

pub record ChecksAligned (align local : ℕ) (M : WasmModule) (p : ImportPlaces) (locals : List ValType) (code : List Instr) : Type 0 where
  pub place : ℕ
  pub has : HasUnaligned (nat_eq align 1) M p place
  pub is : code ≡ aligned_guard (nat_eq align 1) local align place

-- the checks of a region, whose traps have their places
pub record ChecksRegion (m : LinearMemory) (align pointer bytes length : ℕ) (t : Trap) (M : WasmModule) (p : ImportPlaces) (locals : List ValType) (code : List Instr) : Type 0 where
  pub unaligned : ℕ
  pub outside : ℕ
  pub has_unaligned : HasUnaligned (nat_eq align 1) M p unaligned
  pub has_outside : KnowsFunction M p (import.Trap t) outside [] []
  pub is : code ≡ region_code m.memory m.memory64 m.page_size_log2 align pointer bytes length unaligned outside
