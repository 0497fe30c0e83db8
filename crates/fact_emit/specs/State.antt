-- Cited by private clauses alone.
-- What the imports of a module that is being made are found by.
use Rattle.std.specs.Prelude.{◌≡◌, ℕ, ◌+◌, ◌<◌, ◌^◌, List, [], ◌∷◌, ◌++◌, Contains, Option, None, Some, map, length, slice_get}
use Rattle.std.specs.List.{AllByRecursion}
use Rattle.fact_wasm.specs.declared.types.FuncType.{FuncType}
use Rattle.fact_wasm.specs.declared.types.ValType.{ValType}
use Rattle.fact_wasm.specs.declared.module.WasmImport.{WasmImport}
use Rattle.fact_entity.specs.declared.id.Id.{Id}
use Rattle.fact_entity.specs.declared.table.Memories.{Memories}
use Rattle.fact_types.specs.declared.import.Import.{Import}
use Rattle.fact_types.specs.declared.import.Import.TheVariants as known
use Rattle.fact_types.specs.declared.outside.CoreDef.{CoreDef}
use Rattle.fact_emit.specs.declared.imported.ImportedItem.{ImportedItem}
use Rattle.fact_emit.specs.declared.imported.ImportedItem.TheVariants as item
use Rattle.fact_emit.specs.declared.imported.PrepareCallItem.{PrepareCallItem}
use Rattle.fact_emit.specs.declared.task_calls.StartCall.{StartCall}
use Rattle.fact_emit.specs.declared.transcoders.Transcoder.{Transcoder}
use Rattle.fact_emit.specs.ImportSection.{Sort, a_function, a_memory, a_global, imports_of}
use Rattle.fact_emit.specs.Imports.{HasImport}
use Rattle.fact_emit.specs.States.{ModuleSoFar, functions_of, known_as, memories_of, next_number, type_of_item}
use Rattle.fact_emit.specs.TaskCalls.{IsFunctionThere, IsMemoryThere}

-- the items of a kind, where these are the globals, the memories and the functions
abbrev pub by_sort : (globals memories functions : List ImportedItem) → Sort → List ImportedItem
by_sort globals memories functions a_global = globals
by_sort globals memories functions a_memory = memories
by_sort globals memories functions a_function = functions

-- The imports of each kind are listed in order, the memories are core definitions, all functions have a number, each function of the runtime
-- has its type, be it a transcoder, a start-call or a prepare-call, and each prepare-call knows its place.
pub record IsIndexed (s : ModuleSoFar) (globals memories functions : List ImportedItem) : Type 0 where
  pub same_length : length s.section ≡ length s.imports
  pub lists : (sort : Sort) → imports_of sort s.section s.imports ≡ map known_as (by_sort globals memories functions sort)
  pub memory_defs : (n : ℕ) (x : ImportedItem) → slice_get memories n ≡ Some x → type_of_item x ≡ None
  pub numbered : length functions + next_number s < 2 ^ 32
  pub helpers_below : AllByRecursion (λ e. e.1 < s.numbered) s.helpers
  pub typed : (n : ℕ) (x : ImportedItem) (ty : FuncType) → type_of_item x ≡ Some ty → slice_get functions n ≡ Some x → HasImport s (known_as x) n ty.params ty.results
  pub prepared : (n : ℕ) (c : PrepareCallItem) → slice_get functions n ≡ Some (item.PrepareCall c) → c.place ≡ n

-- The lists are what they were.
pub record IsKept (ws ws' : List WasmImport) (is is' : List Import) (xs xs' : List ImportedItem) : Type 0 where
  pub section : ws' ≡ ws
  pub imports : is' ≡ is
  pub items : xs' ≡ xs

-- An item that was not there, and its import, stand behind the others.
pub record IsAdded (ws ws' : List WasmImport) (is is' : List Import) (xs xs' : List ImportedItem) (x : ImportedItem) (w : WasmImport) : Type 0 where
  pub section : ws' ≡ ws ++ w ∷ []
  pub imports : is' ≡ is ++ known_as x ∷ []
  pub items : xs' ≡ xs ++ x ∷ []
  pub absent : Contains xs x → ⊥

-- what a transcoder between imported memories is imported as
pub record IsItemOf (t : Transcoder) (s : ModuleSoFar) (x : ImportedItem) : Type 0 where
  pub from : CoreDef
  pub to : CoreDef
  pub from_there : slice_get (memories_of s) t.from_memory.number ≡ Some (known.CoreDef from)
  pub to_there : slice_get (memories_of s) t.to_memory.number ≡ Some (known.CoreDef to)
  pub is : x ≡ item.Transcoder (record { op = t.op; from = from; from64 = t.from_memory64; to = to; to64 = t.to_memory64 })

-- what a start-call of these functions and results is imported as
abbrev pub IsStartItem : ModuleSoFar → StartCall → (results : List ValType) → ImportedItem → Type 0
IsStartItem s c results (item.StartCall x) = IsFunctionThere s c.callback x.callback × IsFunctionThere s c.post_return x.post_return × (x.results ≡ results)
IsStartItem s c results x = ⊥

-- what a prepare-call of this memory and these parameters is imported as: its place is behind all imported functions
abbrev pub IsPrepareItem : ModuleSoFar → Option (Id Memories) → (params : List ValType) → ImportedItem → Type 0
IsPrepareItem s m params (item.PrepareCall x) = IsMemoryThere s m x.memory × (x.params ≡ params) × (x.place ≡ length (functions_of s))
IsPrepareItem s m params x = ⊥
