-- The functions of the runtime to which an async adapter hands a call: one is told of the call, and one starts the callee (Component
-- Model, canonical ABI, "`canon lower`": a call of an async function is a subtask, whose parameters are lowered when it starts and whose
-- results are lifted when it resolves).
use Rattle.std.specs.Prelude.{◌≡◌, ℕ, ◌⊎◌, List, [], Contains, Option, None, Some, codes, length, slice_get}
use Rattle.fact_wasm.specs.declared.module.ImportType.TheVariants as import
use Rattle.fact_wasm.specs.declared.module.WasmImport.{WasmImport}
use Rattle.fact_wasm.specs.declared.types.ValType.{ValType}
use Rattle.fact_entity.specs.declared.id.Id.{Id}
use Rattle.fact_entity.specs.declared.table.Funcs.{Funcs}
use Rattle.fact_entity.specs.declared.table.Memories.{Memories}
use Rattle.fact_types.specs.declared.import.Import.TheVariants as known
use Rattle.fact_types.specs.declared.outside.CoreDef.{CoreDef}
use Rattle.fact_emit.specs.declared.imported.ImportedItem.{ImportedItem}
use Rattle.fact_emit.specs.declared.imported.ImportedItem.TheVariants as item
use Rattle.fact_emit.specs.declared.task_calls.StartCall.{StartCall}
use Rattle.fact_emit.specs.ImportSection.{Sort, imports_of, sort_of}
use Rattle.fact_emit.specs.Imports.{HasImport}
use Rattle.fact_emit.specs.States.{HasType, ModuleSoFar, functions_of, import_as, known_as, memories_of, with_import}
use Rattle.fact_emit.specs.TaskTypes.{prepare_call_name, prepare_call_type, start_call_name, start_call_type}

-- ---- what they are imported as

-- the definition of a place among the imported functions, where there is a place
abbrev pub IsFunctionThere : ModuleSoFar → Option (Id Funcs) → Option CoreDef → Type 0
IsFunctionThere s None None = Unit {0}
IsFunctionThere s (Some f) (Some d) = slice_get (functions_of s) f.number ≡ Some (known.CoreDef d)
IsFunctionThere s _ _ = ⊥

abbrev pub IsMemoryThere : ModuleSoFar → Option (Id Memories) → Option CoreDef → Type 0
IsMemoryThere s None None = Unit {0}
IsMemoryThere s (Some m) (Some d) = slice_get (memories_of s) m.number ≡ Some (known.CoreDef d)
IsMemoryThere s _ _ = ⊥

-- ---- items

-- a start-call of this callback, of this post-return and of these results is imported
pub record HasStartCall (s : ModuleSoFar) (callback post_return : Option CoreDef) (results : List ValType) : Type 0 where
  pub place : ℕ
  pub has : HasImport s (known.StartCall callback post_return) place (start_call_type results).params results

-- An item is among the imports of a kind. A prepare-call never is: each is imported anew.
abbrev pub IsItemThere : ModuleSoFar → Sort → ImportedItem → Type 0
IsItemThere s sort (item.StartCall c) = HasStartCall s c.callback c.post_return c.results
IsItemThere s sort (item.PrepareCall c) = ⊥
IsItemThere s sort x = Contains (imports_of sort s.section s.imports) (known_as x)

-- An item is imported, as it was before among the imports of its kind, or anew behind the others, and has this place among the imports of
-- its kind.
pub record IsItemImported (old new : ModuleSoFar) (w : WasmImport) (x : ImportedItem) (place : ℕ) : Type 0 where
  pub there : slice_get (imports_of (sort_of w.ty) new.section new.imports) place ≡ Some (known_as x)
  pub step :
      ((new ≡ old) × IsItemThere old (sort_of w.ty) x)
      ⊎ ((new ≡ with_import old w (known_as x)) × (IsItemThere old (sort_of w.ty) x → ⊥))
  pub last : (IsItemThere old (sort_of w.ty) x → ⊥) → place ≡ length (imports_of (sort_of w.ty) old.section old.imports)

-- ---- steps

-- A start-call is imported, under the name of this adapter where it is new, and has this place among the imported functions.
pub record IsStartCallImported (old new : ModuleSoFar) (adapter : List ℕ) (c : StartCall) (results : List ValType) (place : ℕ) : Type 0 where
  pub callback : Option CoreDef
  pub post_return : Option CoreDef
  pub callback_is : IsFunctionThere old c.callback callback
  pub post_return_is : IsFunctionThere old c.post_return post_return
  pub ty : ℕ
  pub typed : ModuleSoFar
  pub types : HasType old typed (start_call_type results)
  pub ty_there : slice_get typed.types ty ≡ Some (start_call_type results)
  pub has : HasImport new (known.StartCall callback post_return) place (start_call_type results).params results
  pub step :
      ((new ≡ typed) × HasStartCall typed callback post_return results)
      ⊎ ((new ≡ with_import typed (import_as (codes "async") (start_call_name adapter) (import.Func ty)) (known.StartCall callback post_return)) × (HasStartCall typed callback post_return results → ⊥))

-- A prepare-call is imported behind all other functions, under the name of this adapter.
pub record IsPrepareCallImported (old new : ModuleSoFar) (adapter : List ℕ) (m : Option (Id Memories)) (params : List ValType) (place : ℕ) : Type 0 where
  pub memory : Option CoreDef
  pub memory_is : IsMemoryThere old m memory
  pub ty : ℕ
  pub typed : ModuleSoFar
  pub types : HasType old typed (prepare_call_type params)
  pub ty_there : slice_get typed.types ty ≡ Some (prepare_call_type params)
  pub is_new : new ≡ with_import typed (import_as (codes "sync") (prepare_call_name adapter) (import.Func ty)) (known.PrepareCall memory)
  pub place_is : place ≡ length (functions_of old)
  pub has : HasImport new (known.PrepareCall memory) place (prepare_call_type params).params []
