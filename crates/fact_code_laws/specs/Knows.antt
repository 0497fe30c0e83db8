-- What a piece of code has to know of the module that it will stand in.
use Rattle.std.specs.Prelude.{◌≡◌, ℕ, Bool, true, List, Option, Some, slice_get}
use Rattle.std.specs.List.{AllByRecursion, filter_map}
use Rattle.fact_wasm.specs.declared.types.ValType.{ValType}
use Rattle.fact_wasm.specs.declared.types.ValType.TheVariants as val
use Rattle.fact_wasm.specs.declared.module.WasmModule.{WasmModule}
use Rattle.fact_types.specs.declared.outside.CoreDef.{CoreDef}
use Rattle.fact_machine.specs.Machine.{func_import, memory_import}
use Rattle.fact_machine.specs.Trace.{Grows}
use Rattle.fact_types.specs.declared.import.Import.{Import}
use Rattle.fact_actions.specs.Running.{ImportPlaces}
use Rattle.fact_machine.specs.Typed.{type_of_memory, type_of_global}
use Rattle.fact_machine.specs.Typing.{global_import}

-- The memories and the globals at these places are those that a module imports (core specification, "Modules", "Imports").
pub record ArePlacesOf (M : WasmModule) (p : ImportPlaces) : Type 0 where
  pub memories : p.memory_types ≡ filter_map type_of_memory M.imports
  pub globals : p.global_types ≡ filter_map type_of_global M.imports

-- An import that code asks for, with its place among those of its kind.
pub data NeededImport : Type 0 where
  FunctionImport : Import → (place : ℕ) → (params results : List ValType) → NeededImport
  -- a memory: whether its addresses have 64 bits, and the exponent of its page size where that is a custom one
  MemoryImport : CoreDef → (place : ℕ) → (memory64 : Bool) → (log2 : Option ℕ) → NeededImport
  -- the flags of an instance
  FlagsImport : (instance place : ℕ) → NeededImport

pub record KnowsFunction (M : WasmModule) (p : ImportPlaces) (i : Import) (place : ℕ) (params results : List ValType) : Type 0 where
  pub type_at : ℕ
  pub placed : p.function i ≡ place
  pub imported : func_import M.imports place ≡ Some type_at
  pub type_is : slice_get M.types type_at ≡ Some (record { params = params; results = results })

pub record KnowsMemory (M : WasmModule) (p : ImportPlaces) (d : CoreDef) (place : ℕ) (memory64 : Bool) (log2 : Option ℕ) : Type 0 where
  pub placed : p.memory d ≡ place
  pub kind : slice_get p.memory_types place ≡ Some (memory64, log2)
  pub imported : memory_import M.imports place ≡ Some (memory64, log2)

pub record KnowsFlags (M : WasmModule) (p : ImportPlaces) (instance place : ℕ) : Type 0 where
  pub placed : p.flags instance ≡ place
  pub kind : slice_get p.global_types place ≡ Some val.I32
  pub imported : global_import M.imports place ≡ Some (val.I32, true)

abbrev pub Has : WasmModule → ImportPlaces → NeededImport → Type 0
Has M p (FunctionImport i place params results) = KnowsFunction M p i place params results
Has M p (MemoryImport d place memory64 log2) = KnowsMemory M p d place memory64 log2
Has M p (FlagsImport instance place) = KnowsFlags M p instance place

-- all that is asked for is there
pub record Knows (M : WasmModule) (p : ImportPlaces) (asks : List NeededImport) : Type 0 where
  pub all : AllByRecursion (Has M p) asks

-- A module with more imports and types behind those of another, where what the other imports has the places that it had.
pub record ExtendsModule (M M' : WasmModule) (p p' : ImportPlaces) : Type 0 where
  pub imports : Grows M.imports M'.imports
  pub types : Grows M.types M'.types
  pub memory_types : Grows p.memory_types p'.memory_types
  pub global_types : Grows p.global_types p'.global_types
  pub functions : (i : Import) (t : ℕ) → func_import M.imports (p.function i) ≡ Some t → p'.function i ≡ p.function i
  pub memories : (d : CoreDef) (k : Bool × Option ℕ) → memory_import M.imports (p.memory d) ≡ Some k → p'.memory d ≡ p.memory d
  pub flags : (i : ℕ) (g : ValType × Bool) → global_import M.imports (p.flags i) ≡ Some g → p'.flags i ≡ p.flags i
