-- The parts of a module that is being made, and what the calls on them change.
use Rattle.std.specs.Prelude.{◌≡◌, ℕ, ◌⊎◌, ◌+◌, ◌<◌, max, List, [], ◌∷◌, ◌++◌, Option, Some, None, Contains, codes, length, slice_get}
use Rattle.fact_wasm.specs.declared.types.FuncType.{FuncType}
use Rattle.fact_wasm.specs.declared.module.ImportType.{ImportType}
use Rattle.fact_wasm.specs.declared.module.ImportType.TheVariants as import
use Rattle.fact_wasm.specs.declared.module.WasmImport.{WasmImport}
use Rattle.fact_wasm.specs.declared.module.WasmFunc.{WasmFunc}
use Rattle.fact_wasm.specs.declared.module.WasmExport.{WasmExport}
use Rattle.fact_wasm.specs.declared.module.WasmModule.{WasmModule}
use Rattle.fact_wasm.specs.declared.instr.FuncName.{FuncName}
use Rattle.fact_wasm.specs.declared.instr.FuncName.TheVariants as func
use Rattle.fact_types.specs.declared.outside.CoreDef.{CoreDef}
use Rattle.fact_types.specs.declared.outside.Trap.{Trap}
use Rattle.fact_types.specs.declared.import.Import.{Import}
use Rattle.fact_types.specs.declared.import.Import.TheVariants as known
use Rattle.fact_types.specs.TranscoderNames.{transcoder_name}
use Rattle.fact_code_laws.specs.StringCode.{transcoder_type}
use Rattle.fact_emit.specs.declared.helpers.Helper.{Helper}
use Rattle.fact_emit.specs.declared.imported.ImportedItem.{ImportedItem}
use Rattle.fact_emit.specs.declared.imported.ImportedItem.TheVariants as item
use Rattle.fact_emit.specs.declared.imported.PrepareCallItem.{PrepareCallItem}
use Rattle.fact_emit.specs.declared.imported.RuntimeFunction.{RuntimeFunction}
use Rattle.fact_emit.specs.declared.imported.RuntimeFunction.TheVariants as runtime
use Rattle.fact_emit.specs.declared.transcoders.Transcoder.{Transcoder}
use Rattle.fact_emit.specs.ImportSection.{HasMemoryWidth, a_function, a_memory, a_global, imported_type, imports_of, sort_of}
use Rattle.fact_emit.specs.Runtime.{import_of, name_of_runtime, origin_of_runtime, type_of_runtime}
use Rattle.fact_emit.specs.TaskTypes.{prepare_call_type, start_call_type}

-- What `ModuleSections` holds: the sections of a module so far, and what its imports are. The exports of imported functions stand behind the others. Each
-- helper that code asked for stands beside the number of its function. Functions below a number may be numbered ahead, before there is code of them.
pub record ModuleSoFar : Type 0 where
  pub types : List FuncType
  pub section : List WasmImport
  pub imports : List Import
  pub functions : List WasmFunc
  pub exports : List WasmExport
  pub callees : List WasmExport
  pub helpers : List (Helper × ℕ)
  pub numbered : ℕ

abbrev pub nothing_so_far : ModuleSoFar
nothing_so_far = record { types = []; section = []; imports = []; functions = []; exports = []; callees = []; helpers = []; numbered = 0 }

abbrev pub module_of : ModuleSoFar → WasmModule
module_of s = record { types = s.types; imports = s.section; funcs = s.functions; exports = s.exports ++ s.callees }

-- the imported functions, memories and globals, in order
abbrev pub functions_of : ModuleSoFar → List Import
functions_of s = imports_of a_function s.section s.imports

abbrev pub memories_of : ModuleSoFar → List Import
memories_of s = imports_of a_memory s.section s.imports

abbrev pub globals_of : ModuleSoFar → List Import
globals_of s = imports_of a_global s.section s.imports

abbrev pub known_as : ImportedItem → Import
known_as (item.Def d) = known.CoreDef d
known_as (item.Runtime f) = import_of f
known_as (item.Transcoder t) = known.Transcode t.op t.from t.from64 t.to t.to64
known_as (item.StartCall c) = known.StartCall c.callback c.post_return
known_as (item.PrepareCall c) = known.PrepareCall c.memory

-- the type of a function of the runtime; a core definition has that of its role
abbrev pub type_of_item : ImportedItem → Option FuncType
type_of_item (item.Def d) = None
type_of_item (item.Runtime f) = Some (type_of_runtime f)
type_of_item (item.Transcoder t) = Some (transcoder_type t.op t.from64 t.to64)
type_of_item (item.StartCall c) = Some (start_call_type c.results)
type_of_item (item.PrepareCall c) = Some (prepare_call_type c.params)

-- An item may be imported with a type: a function of the runtime has its own, and a prepare-call the place behind all imported functions.
pub record MayImport (s : ModuleSoFar) (x : ImportedItem) (ty : ImportType) : Type 0 where
  pub typed : (f : FuncType) → type_of_item x ≡ Some f → imported_type s.types ty ≡ Some f
  pub placed : (c : PrepareCallItem) → x ≡ item.PrepareCall c → c.place ≡ length (functions_of s)

abbrev pub name_of_transcoder : Transcoder → List ℕ
name_of_transcoder t = transcoder_name t.op t.from_memory.number t.to_memory.number

abbrev pub type_of_transcoder : Transcoder → FuncType
type_of_transcoder t = transcoder_type t.op t.from_memory64 t.to_memory64

-- both memories are imported
pub record AreMemoriesImported (t : Transcoder) (s : ModuleSoFar) : Type 0 where
  pub from : t.from_memory.number < length (memories_of s)
  pub to : t.to_memory.number < length (memories_of s)

-- they have addresses of these widths
pub record HaveMemoryWidths (t : Transcoder) (s : ModuleSoFar) : Type 0 where
  pub from : HasMemoryWidth s.section t.from_memory.number t.from_memory64
  pub to : HasMemoryWidth s.section t.to_memory.number t.to_memory64

-- ---- steps

abbrev pub import_as : List ℕ → List ℕ → ImportType → WasmImport
import_as origin name ty = record { «module» = origin; name = name; ty = ty }

abbrev pub export_as : List ℕ → FuncName → WasmExport
export_as name func = record { name = name; func = func }

-- one more function, under its name
abbrev pub with_exported : ModuleSoFar → List ℕ → WasmFunc → ModuleSoFar
with_exported s name f = record s { functions = s.functions ++ f ∷ []; exports = s.exports ++ export_as name (func.Defined (length s.functions)) ∷ [] }

-- an imported function is exported too
abbrev pub with_callee : ModuleSoFar → List ℕ → (place : ℕ) → ModuleSoFar
with_callee s name place = record s { callees = s.callees ++ export_as name (func.Import place) ∷ [] }

abbrev pub with_import : ModuleSoFar → WasmImport → Import → ModuleSoFar
with_import s w i = record s { section = s.section ++ w ∷ []; imports = s.imports ++ i ∷ [] }

-- the number of the next function, behind those that are defined and those that are numbered ahead
abbrev pub next_number : ModuleSoFar → ℕ
next_number s = max s.numbered (length s.functions)

-- so many functions more are numbered ahead
abbrev pub with_numbered : ModuleSoFar → (count : ℕ) → ModuleSoFar
with_numbered s count = record s { numbered = next_number s + count }

-- one helper more, whose function has the next number
abbrev pub with_helper : ModuleSoFar → Helper → ModuleSoFar
with_helper s key = record s { helpers = s.helpers ++ (key, next_number s) ∷ []; numbered = next_number s + 1 }

-- A helper is there, as it was before, or anew behind the others, and its function has this number.
pub record IsHelperAsked (old new : ModuleSoFar) (key : Helper) (number : ℕ) : Type 0 where
  pub there : Contains new.helpers (key, number)
  pub below : number < new.numbered
  pub step : (new ≡ old) ⊎ ((new ≡ with_helper old key) × (number ≡ next_number old) × ((n : ℕ) → Contains old.helpers (key, n) → ⊥))

-- Something is imported, as it was before among the imports of its kind, or anew behind the others, and has this place among
-- the imports of its kind.
pub record IsImported (old new : ModuleSoFar) (w : WasmImport) (i : Import) (place : ℕ) : Type 0 where
  pub there : slice_get (imports_of (sort_of w.ty) new.section new.imports) place ≡ Some i
  pub step :
      ((new ≡ old) × Contains (imports_of (sort_of w.ty) old.section old.imports) i)
      ⊎ ((new ≡ with_import old w i) × (Contains (imports_of (sort_of w.ty) old.section old.imports) i → ⊥))

-- An index of a function type is that of one of the types.
abbrev pub IsTypeThere : ModuleSoFar → ImportType → Type 0
IsTypeThere s (import.Func ty) = ty < length s.types
IsTypeThere s (import.Memory least wide page) = Unit {0}
IsTypeThere s (import.Global t mutable) = Unit {0}

-- Where a core definition is imported already, its import has this type.
pub record HasNoOtherType (s : ModuleSoFar) (d : CoreDef) (ty : ImportType) : Type 0 where
  pub same : (n : ℕ) (w : WasmImport) → slice_get s.section n ≡ Some w → slice_get s.imports n ≡ Some (known.CoreDef d) → w.ty ≡ ty

-- A type is among the types, as it was before, or anew behind the others.
abbrev pub HasType : (old new : ModuleSoFar) → FuncType → Type 0
HasType old new ty = (new ≡ old) ⊎ ((Contains old.types ty → ⊥) × (new ≡ record old { types = old.types ++ ty ∷ [] }))

-- A function of the runtime is imported, and has this place among the imported functions.
pub record IsRuntimeImported (old new : ModuleSoFar) (f : RuntimeFunction) (place : ℕ) : Type 0 where
  pub ty : ℕ
  pub typed : ModuleSoFar
  pub types : HasType old typed (type_of_runtime f)
  pub ty_there : slice_get typed.types ty ≡ Some (type_of_runtime f)
  pub imported : IsImported typed new (import_as (origin_of_runtime f) (name_of_runtime f) (import.Func ty)) (import_of f) place

-- So is a trap.
abbrev pub IsTrapImported : (old new : ModuleSoFar) → Trap → (place : ℕ) → Type 0
IsTrapImported old new t place = IsRuntimeImported old new (runtime.Trap t) place

-- A transcoder is imported, and has this place among the imported functions. It reads and writes the memories of the definitions that
-- have its places among the imported memories, which have its widths.
pub record IsTranscoderImported (old new : ModuleSoFar) (t : Transcoder) (place : ℕ) : Type 0 where
  pub from : CoreDef
  pub to : CoreDef
  pub from_there : slice_get (memories_of old) t.from_memory.number ≡ Some (known.CoreDef from)
  pub to_there : slice_get (memories_of old) t.to_memory.number ≡ Some (known.CoreDef to)
  pub widths : HaveMemoryWidths t old
  pub ty : ℕ
  pub typed : ModuleSoFar
  pub types : HasType old typed (type_of_transcoder t)
  pub ty_there : slice_get typed.types ty ≡ Some (type_of_transcoder t)
  pub imported : IsImported typed new (import_as (codes "transcode") (name_of_transcoder t) (import.Func ty)) (known.Transcode t.op from t.from_memory64 to t.to_memory64) place

-- The functions that the module defines, and its exports, are the same.
pub record KeepsDefined (old new : ModuleSoFar) : Type 0 where
  pub functions : new.functions ≡ old.functions
  pub exports : new.exports ≡ old.exports
  pub callees : new.callees ≡ old.callees

-- at most types were added
abbrev pub OnlyTypesAdded : (old new : ModuleSoFar) → Type 0
OnlyTypesAdded old new = new ≡ record old { types = new.types }
