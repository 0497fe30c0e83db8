-- A pointer and a length beside it.
use Rattle.std.specs.Prelude.{◌≡◌, ℕ, Bool, List, ◌++◌}
use Rattle.fact_wasm.specs.declared.types.ValType.{ValType}
use Rattle.fact_wasm.specs.declared.instr.Instr.{Instr}
use Rattle.fact_wasm.specs.declared.module.WasmModule.{WasmModule}
use Rattle.fact_actions.specs.Running.{ImportPlaces}
use Rattle.fact_code_laws.specs.Lists.{put_code}
use Rattle.fact_code_laws.specs.Places.{From, To, size_of}
use Rattle.fact_code_laws.specs.Tests.{pointer_of_width, read_into}
use Rattle.fact_emit.specs.Numbers.{HasUpperAt}
use Rattle.fact_emit.specs.Parts.{from_behind, to_behind}
use Rattle.fact_emit.specs.Places.{checks_at}

-- the length behind the pointer
abbrev pub length_from : Bool → From → From
length_from memory64 from = from_behind 1 1 (size_of (pointer_of_width memory64)) from

abbrev pub length_to : Bool → To → To
length_to memory64 to = to_behind 1 1 (size_of (pointer_of_width memory64)) to

-- a pointer and a length are read into locals
abbrev pub read_pair_code : (debug memory64 : Bool) → (start units : ℕ) → From → ImportPlaces → List Instr
read_pair_code debug memory64 start units from p =
    read_into (checks_at debug p) memory64 from start ++ read_into (checks_at debug p) memory64 (length_from memory64 from) units

pub record ReadsPair (debug memory64 : Bool) (start units : ℕ) (from : From) (M : WasmModule) (p : ImportPlaces) (locals : List ValType) (code : List Instr) : Type 0 where
  pub is : code ≡ read_pair_code debug memory64 start units from p
  pub has_pointer : HasUpperAt M p (checks_at debug p) (pointer_of_width memory64) from
  pub has_length : HasUpperAt M p (checks_at debug p) (pointer_of_width memory64) (length_from memory64 from)

-- a pointer and a length are written out of locals
abbrev pub put_pair_code : (memory64 : Bool) → (start units : ℕ) → To → List Instr
put_pair_code memory64 start units to = put_code memory64 start to ++ put_code memory64 units (length_to memory64 to)
