-- What a module that is being made imports, and the later modules that import it too.
use Rattle.std.specs.Prelude.{◌≡◌, ◌≤◌, ℕ, Bool, true, List, Option, Some, slice_get}
use Rattle.fact_wasm.specs.declared.types.ValType.{ValType}
use Rattle.fact_wasm.specs.declared.types.ValType.TheVariants as val
use Rattle.fact_wasm.specs.declared.module.WasmModule.{WasmModule}
use Rattle.fact_machine.specs.Machine.{func_import, memory_import}
use Rattle.fact_machine.specs.Trace.{Grows}
use Rattle.fact_machine.specs.Typing.{global_import}
use Rattle.fact_types.specs.declared.import.Import.{Import}
use Rattle.fact_types.specs.declared.import.Import.TheVariants as known
use Rattle.fact_types.specs.declared.outside.CoreDef.{CoreDef}
use Rattle.fact_types.specs.declared.outside.CoreDef.TheVariants as def
use Rattle.fact_actions.specs.Running.{ImportPlaces}
use Rattle.fact_code_laws.specs.Knows.{KnowsFlags, KnowsFunction, KnowsMemory}
use Rattle.fact_emit.specs.declared.transcoders.Transcoder.{Transcoder}
use Rattle.fact_emit.specs.ImportSection.{is_made_once}
use Rattle.fact_emit.specs.States.{ModuleSoFar, functions_of, globals_of, memories_of, type_of_transcoder}

-- an import is the function of this place, with this type
pub record HasImport (s : ModuleSoFar) (i : Import) (place : ℕ) (params results : List ValType) : Type 0 where
  pub there : slice_get (functions_of s) place ≡ Some i
  pub type_at : ℕ
  pub imported : func_import s.section place ≡ Some type_at
  pub type_is : slice_get s.types type_at ≡ Some (record { params = params; results = results })

-- a transcoder between the memories of its places is the function of this place
pub record HasTranscoder (s : ModuleSoFar) (t : Transcoder) (place : ℕ) : Type 0 where
  pub from : CoreDef
  pub to : CoreDef
  pub from_there : slice_get (memories_of s) t.from_memory.number ≡ Some (known.CoreDef from)
  pub to_there : slice_get (memories_of s) t.to_memory.number ≡ Some (known.CoreDef to)
  pub has : HasImport s (known.Transcode t.op from t.from_memory64 to t.to_memory64) place (type_of_transcoder t).params (type_of_transcoder t).results

-- a memory is that of this place
pub record HasMemory (s : ModuleSoFar) (d : CoreDef) (place : ℕ) (memory64 : Bool) (log2 : Option ℕ) : Type 0 where
  pub there : slice_get (memories_of s) place ≡ Some (known.CoreDef d)
  pub imported : memory_import s.section place ≡ Some (memory64, log2)

-- the flags of an instance are the global of this place
pub record HasFlags (s : ModuleSoFar) (instance place : ℕ) : Type 0 where
  pub there : slice_get (globals_of s) place ≡ Some (known.CoreDef (def.InstanceFlags (record { table = _; number = instance })))
  pub imported : global_import s.section place ≡ Some (val.I32, true)

-- More was imported behind what was there, more helpers were asked for, and more functions are numbered.
pub record Extended (old new : ModuleSoFar) : Type 0 where
  pub types : Grows old.types new.types
  pub section : Grows old.section new.section
  pub imports : Grows old.imports new.imports
  pub functions : Grows (functions_of old) (functions_of new)
  pub memories : Grows (memories_of old) (memories_of new)
  pub globals : Grows (globals_of old) (globals_of new)
  pub helpers : Grows old.helpers new.helpers
  pub numbered : old.numbered ≤ new.numbered

-- none that is made once stands at two places
pub record StandOnce (is : List Import) : Type 0 where
  pub one : (i j : ℕ) (x : Import) → is_made_once x ≡ true → slice_get is i ≡ Some x → slice_get is j ≡ Some x → i ≡ j

-- No import of a kind was imported twice, and no start-call of one callback, one post-return and one type.
pub record AreOnce (s : ModuleSoFar) : Type 0 where
  pub functions : StandOnce (functions_of s)
  pub memories : StandOnce (memories_of s)
  pub globals : StandOnce (globals_of s)
  pub starts : (i j : ℕ) (callback post_return : Option CoreDef) (params results : List ValType)
      → HasImport s (known.StartCall callback post_return) i params results → HasImport s (known.StartCall callback post_return) j params results → i ≡ j

-- a module imports a function at a place, with this type
pub record ImportsFunction (M : WasmModule) (place : ℕ) (params results : List ValType) : Type 0 where
  pub type_at : ℕ
  pub imported : func_import M.imports place ≡ Some type_at
  pub type_is : slice_get M.types type_at ≡ Some (record { params = params; results = results })

-- A module and places that have all that was imported so far, what is made once at its one place. A definition that has the place of a memory
-- is that which is imported there.
pub record Serves (M : WasmModule) (p : ImportPlaces) (s : ModuleSoFar) : Type 0 where
  pub imports : (i : Import) (place : ℕ) (params results : List ValType) → HasImport s i place params results → ImportsFunction M place params results
  pub functions : (i : Import) (place : ℕ) (params results : List ValType) → is_made_once i ≡ true → HasImport s i place params results → KnowsFunction M p i place params results
  pub memories : (d : CoreDef) (place : ℕ) (memory64 : Bool) (log2 : Option ℕ) → HasMemory s d place memory64 log2 → KnowsMemory M p d place memory64 log2
  pub flags : (instance place : ℕ) → HasFlags s instance place → KnowsFlags M p instance place
  pub one_memory : (d e : CoreDef) (place : ℕ) → p.memory d ≡ place → slice_get (memories_of s) place ≡ Some (known.CoreDef e) → d ≡ e
