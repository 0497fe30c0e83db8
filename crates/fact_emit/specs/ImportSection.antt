-- The core definitions that adapters mention, and the import section that names them.
use Rattle.std.specs.Prelude.{◌≡◌, ◌≢◌, ℕ, ◌<◌, Bool, true, false, ◌&&◌, nat_eq, List, [], ◌∷◌, ◌++◌, AllPairs, Contains, Option, Some, None, filter, slice_get, map, take, codes, count_by, if◌then◌else◌}
use Rattle.std.specs.List.{AllZip, list_any, flat_map, filter_map}
use Rattle.std.specs.Fmt.{decimal}
use Rattle.fact_wasm.specs.declared.types.ValType.{ValType}
use Rattle.fact_wasm.specs.declared.types.ValType.TheVariants as val
use Rattle.fact_wasm.specs.declared.types.FuncType.{FuncType}
use Rattle.fact_wasm.specs.declared.instr.FuncName.{FuncName}
use Rattle.fact_wasm.specs.declared.instr.FuncName.TheVariants as func
use Rattle.fact_wasm.specs.declared.module.ImportType.{ImportType}
use Rattle.fact_wasm.specs.declared.module.ImportType.TheVariants as import
use Rattle.fact_wasm.specs.declared.module.WasmImport.{WasmImport}
use Rattle.fact_wasm.specs.declared.module.WasmModule.{WasmModule}
use Rattle.fact_machine.specs.Typed.{type_of_memory}
use Rattle.fact_types.specs.declared.outside.CoreDef.{CoreDef}
use Rattle.fact_types.specs.declared.outside.CoreDef.TheVariants as def
use Rattle.fact_types.specs.declared.import.Import.{Import}
use Rattle.fact_types.specs.declared.import.Import.TheVariants as known
use Rattle.fact_types.specs.declared.outside.MemoryOption.{MemoryOption}
use Rattle.fact_types.specs.declared.outside.Transcode.{Transcode}
use Rattle.fact_types.specs.Adapters.{LinkedAdapter, Side, is_async, is_crossing, is_wide, same_def}
use Rattle.fact_types.specs.ImportTypes.{callback_type, post_return_type, realloc_type}
use Rattle.fact_types.specs.TranscoderNames.{transcoder_name}
use Rattle.fact_actions.specs.Adapters.{def_of_memory}
use Rattle.fact_actions.specs.Sides.{options_of}
use Rattle.fact_code_laws.specs.StringCode.{transcoder_type}
use Rattle.fact_emit.specs.declared.imported.RuntimeFunction.{RuntimeFunction}
use Rattle.fact_emit.specs.declared.imported.RuntimeFunction.TheVariants as runtime
use Rattle.fact_emit.specs.Runtime.{name_of_runtime, origin_of_runtime, type_of_runtime}
use Rattle.fact_emit.specs.TaskTypes.{prepare_call_name, prepare_call_type, start_call_name, start_call_type}

-- ---- what the adapters mention

-- what a core definition is used as, with what its import is named and typed by
pub data Role : Type 0 where
  Flags : (instance : ℕ) → Role
  Storage : (memory64 : Bool) → (page_size_log2 : ℕ) → Role
  Realloc : (memory64 : Bool) → Role
  Callback : Role
  Callee : (adapter : List ℕ) → (ty : FuncType) → Role
  PostReturn : (adapter : List ℕ) → (results : List ValType) → Role

pub record Mention : Type 0 where
  pub def : CoreDef
  pub role : Role

abbrev pub mention : Role → Option CoreDef → List Mention
mention r None = []
mention r (Some d) = record { def = d; role = r } ∷ []

abbrev pub memory_mention : Option MemoryOption → List Mention
memory_mention None = []
memory_mention (Some m) = record { def = m.def; role = Storage m.memory64 m.page_size_log2 } ∷ []

-- flags, memory, realloc and callback of a side
abbrev pub side_mentions : Side → List Mention
side_mentions s =
    record { def = def.InstanceFlags (record { table = _; number = s.instance }); role = Flags s.instance }
    ∷ (memory_mention s.memory ++ (mention (Realloc (is_wide s.memory)) s.realloc ++ mention Callback s.callback))

-- the lift side's, the lower side's, the callee, the post-return
abbrev pub adapter_mentions : LinkedAdapter → List Mention
adapter_mentions a =
    side_mentions a.lift
    ++ (side_mentions a.lower ++ (record { def = a.callee; role = Callee a.name a.lift.core_type } ∷ mention (PostReturn a.name a.lift.core_type.results) a.lift.post_return))

-- the definition is mentioned
abbrev pub is_mentioned : CoreDef → List Mention → Bool
is_mentioned d ms = list_any (λ m. same_def m.def d) ms

-- a mention behind others, unless its definition is mentioned there
abbrev pub with_mention : List Mention → Mention → List Mention
with_mention ms m = if is_mentioned m.def ms then ms else ms ++ m ∷ []

abbrev pub with_mentions : List Mention → List Mention → List Mention
with_mentions ms [] = ms
with_mentions ms (x ∷ xs) = with_mentions (with_mention ms x) xs

-- the first mention of each definition, in order
abbrev pub mentions : List LinkedAdapter → List Mention
mentions adapters = with_mentions [] (flat_map adapter_mentions adapters)

-- ---- how the import section names them

-- the kinds of imports
pub data Sort : Type 0 where
  a_function : Sort
  a_memory : Sort
  a_global : Sort

abbrev pub sort_of : ImportType → Sort
sort_of (import.Func t) = a_function
sort_of (import.Memory least wide page) = a_memory
sort_of (import.Global t mutable) = a_global

abbrev pub same_sort : Sort → Sort → Bool
same_sort a_function a_function = true
same_sort a_memory a_memory = true
same_sort a_global a_global = true
same_sort _ _ = false

abbrev pub is_of : Sort → WasmImport → Bool
is_of sort w = same_sort sort (sort_of w.ty)

-- the type of an imported function, where these are the types of the module
abbrev pub imported_type : List FuncType → ImportType → Option FuncType
imported_type types (import.Func t) = slice_get types t
imported_type types (import.Memory least wide page) = None
imported_type types (import.Global t mutable) = None

-- the import is a function with these names, of this type
pub record IsImportedFunction (types : List FuncType) (w : WasmImport) (origin name : List ℕ) (ty : FuncType) : Type 0 where
  pub is_from : w.module ≡ origin
  pub is_named : w.name ≡ name
  pub is_typed : imported_type types w.ty ≡ Some ty

-- a page size is written down where it is not the usual one of 2 ^ 16 bytes
abbrev pub custom_page_size : ℕ → Option ℕ
custom_page_size k = if nat_eq k 16 then None else Some k

-- the import, behind these others, is the one that stands for a definition of this role
abbrev pub StandsFor : List FuncType → List WasmImport → Role → WasmImport → Type 0
StandsFor types before (Flags i) w = w ≡ record { «module» = codes "flags"; name = codes "instance" ++ decimal i; ty = import.Global val.I32 true }
StandsFor types before (Storage wide k) w = w ≡ record { «module» = codes "memory"; name = codes "m" ++ decimal (count_by (is_of a_memory) before); ty = import.Memory 0 wide (custom_page_size k) }
StandsFor types before (Realloc wide) w =
    IsImportedFunction types w (codes "realloc") (codes "f" ++ decimal (count_by (is_of a_function) before)) (realloc_type wide)
StandsFor types before Callback w =
    IsImportedFunction types w (codes "callback") (codes "f" ++ decimal (count_by (is_of a_function) before)) callback_type
StandsFor types before (Callee adapter ty) w = IsImportedFunction types w (codes "callee") adapter ty
StandsFor types before (PostReturn adapter results) w = IsImportedFunction types w (codes "post_return") adapter (post_return_type results)

-- the import is this function of the runtime
abbrev pub IsRuntime : List FuncType → RuntimeFunction → WasmImport → Type 0
IsRuntime types f w = IsImportedFunction types w (origin_of_runtime f) (name_of_runtime f) (type_of_runtime f)

-- The import, behind these others, has the names and the type of what it is: a core definition those of the role in which it is
-- mentioned. Transcoders, start-calls and prepare-calls have their types; how a transcoder is named hangs on the places of memories, and how
-- the others are on the adapters, as is said below.
abbrev pub IsNamed : List FuncType → List Mention → List WasmImport → WasmImport → Import → Type 0
IsNamed types ms before w (known.CoreDef d) = (role : Role) × Contains ms (record { def = d; role = role }) × StandsFor types before role w
IsNamed types ms before w (known.Trap t) = IsRuntime types (runtime.Trap t) w
IsNamed types ms before w known.ResourceTransferOwn = IsRuntime types runtime.ResourceTransferOwn w
IsNamed types ms before w known.ResourceTransferBorrow = IsRuntime types runtime.ResourceTransferBorrow w
IsNamed types ms before w known.FutureTransfer = IsRuntime types runtime.FutureTransfer w
IsNamed types ms before w known.StreamTransfer = IsRuntime types runtime.StreamTransfer w
IsNamed types ms before w known.ErrorContextTransfer = IsRuntime types runtime.ErrorContextTransfer w
IsNamed types ms before w known.EnterSyncCall = IsRuntime types runtime.EnterSyncCall w
IsNamed types ms before w known.ExitSyncCall = IsRuntime types runtime.ExitSyncCall w
IsNamed types ms before w (known.UnsafeIntrinsic s) = IsRuntime types (runtime.UnsafeIntrinsic s) w
IsNamed types ms before w (known.Transcode o from from64 to to64) = imported_type types w.ty ≡ Some (transcoder_type o from64 to64)
IsNamed types ms before w (known.StartCall callback post_return) = (results : List ValType) × (imported_type types w.ty ≡ Some (start_call_type results))
IsNamed types ms before w (known.PrepareCall memory) = (params : List ValType) × (imported_type types w.ty ≡ Some (prepare_call_type params))

-- The imports `ws`, behind `before`, are what `is` says, one by one.
abbrev pub AreNamed : List FuncType → List Mention → List WasmImport → List WasmImport → List Import → Type 0
AreNamed types ms before [] [] = Unit {0}
AreNamed types ms before (w ∷ ws) (i ∷ is) = IsNamed types ms before w i × AreNamed types ms (before ++ w ∷ []) ws is
AreNamed types ms before [] (i ∷ is) = ⊥
AreNamed types ms before (w ∷ ws) [] = ⊥

-- the imports of a kind, in order
abbrev pub imports_of : Sort → List WasmImport → List Import → List Import
imports_of sort (w ∷ ws) (i ∷ is) = if is_of sort w then i ∷ imports_of sort ws is else imports_of sort ws is
imports_of sort _ _ = []

-- The imported memory of this place has addresses of this width.
pub record HasMemoryWidth (ws : List WasmImport) (place : ℕ) (memory64 : Bool) : Type 0 where
  pub page : Option ℕ
  pub imported : slice_get (filter_map type_of_memory ws) place ≡ Some (memory64, page)

-- The import, behind these others, is this transcoder between the memories of these definitions, which have their places among the memories
-- that are imported before it, and these widths of addresses.
pub record IsTranscoderNamed (types : List FuncType) (before : List WasmImport) (memories : List Import) (o : Transcode) (from : CoreDef) (from64 : Bool) (to : CoreDef) (to64 : Bool) (w : WasmImport) : Type 0 where
  pub from_place : ℕ
  pub to_place : ℕ
  pub from_there : slice_get memories from_place ≡ Some (known.CoreDef from)
  pub to_there : slice_get memories to_place ≡ Some (known.CoreDef to)
  pub from_wide : HasMemoryWidth before from_place from64
  pub to_wide : HasMemoryWidth before to_place to64
  pub is : IsImportedFunction types w (codes "transcode") (transcoder_name o from_place to_place) (transcoder_type o from64 to64)

abbrev pub IsNamedIfTranscoder : List FuncType → (before : List WasmImport) → (memories : List Import) → WasmImport → Import → Type 0
IsNamedIfTranscoder types before memories w (known.Transcode o from from64 to to64) = IsTranscoderNamed types before memories o from from64 to to64 w
IsNamedIfTranscoder types before memories w _ = Unit {0}

-- Each transcoder among the imports is named so.
pub record AreTranscodersNamed (types : List FuncType) (ws : List WasmImport) (is : List Import) : Type 0 where
  pub each : (k : ℕ) (w : WasmImport) (i : Import) → slice_get ws k ≡ Some w → slice_get is k ≡ Some i
      → IsNamedIfTranscoder types (take k ws) (imports_of a_memory (take k ws) (take k is)) w i

abbrev pub def_of : Import → Option CoreDef
def_of (known.CoreDef d) = Some d
def_of _ = None

-- ---- the calls by which async adapters hand their calls to the runtime

-- an async adapter (`is_async`) between two instances (`is_crossing`), in whose stead the runtime calls the callee
abbrev pub is_awaited : LinkedAdapter → Bool
is_awaited a = is_async a && is_crossing a

-- The import is the start-call of this adapter: of the callback and the post-return of its lift side, and of what its core type gives.
pub record IsStartOf (types : List FuncType) (a : LinkedAdapter) (w : WasmImport) (callback post_return : Option CoreDef) : Type 0 where
  pub awaited : is_awaited a ≡ true
  pub callback_is : a.lift.callback ≡ callback
  pub post_return_is : a.lift.post_return ≡ post_return
  pub typed : imported_type types w.ty ≡ Some (start_call_type a.lower.core_type.results)

-- A start-call has the name of the first of the adapters whose start-call it is.
pub record IsStartNamed (types : List FuncType) (adapters : List LinkedAdapter) (w : WasmImport) (callback post_return : Option CoreDef) : Type 0 where
  pub number : ℕ
  pub first : LinkedAdapter
  pub first_there : slice_get adapters number ≡ Some first
  pub is : IsStartOf types first w callback post_return
  pub none_before : (k : ℕ) (a : LinkedAdapter) → k < number → slice_get adapters k ≡ Some a → IsStartOf types a w callback post_return → ⊥
  pub named : IsImportedFunction types w (codes "async") (start_call_name first.name) (start_call_type first.lower.core_type.results)

-- the prepare-calls among imports, in order, each with the memory that it is told of
abbrev pub if_prepare : WasmImport → Import → List (WasmImport × Option CoreDef)
if_prepare w (known.PrepareCall memory) = (w, memory) ∷ []
if_prepare w _ = []

abbrev pub prepares_in : List WasmImport → List Import → List (WasmImport × Option CoreDef)
prepares_in (w ∷ ws) (i ∷ is) = if_prepare w i ++ prepares_in ws is
prepares_in _ _ = []

-- one is that of an adapter: it has the adapter's name, the adapter's core parameters behind the fixed ones, and the memory of its lift side
pub record IsPrepareNamed (types : List FuncType) (x : WasmImport × Option CoreDef) (a : LinkedAdapter) : Type 0 where
  pub memory : x.1 ≡ def_of_memory (options_of a.lift)
  pub named : IsImportedFunction types x.0 (codes "sync") (prepare_call_name a.name) (prepare_call_type a.lower.core_type.params)

-- The start-call of this adapter is among the imports.
pub record HasStartOf (types : List FuncType) (ws : List WasmImport) (is : List Import) (a : LinkedAdapter) : Type 0 where
  pub place : ℕ
  pub import : WasmImport
  pub there : slice_get ws place ≡ Some import
  pub is_call : slice_get is place ≡ Some (known.StartCall a.lift.callback a.lift.post_return)
  pub typed : imported_type types import.ty ≡ Some (start_call_type a.lower.core_type.results)

-- Each start-call among the imports is that of an adapter, one for each callback, post-return and type; and each async adapter between two
-- instances has its own there.
pub record AreStartCallsNamed (types : List FuncType) (adapters : List LinkedAdapter) (ws : List WasmImport) (is : List Import) : Type 0 where
  pub named : (k : ℕ) (w : WasmImport) (callback post_return : Option CoreDef) → slice_get ws k ≡ Some w → slice_get is k ≡ Some (known.StartCall callback post_return)
      → IsStartNamed types adapters w callback post_return
  pub once : (j k : ℕ) (v w : WasmImport) (callback post_return : Option CoreDef) → slice_get ws j ≡ Some v → slice_get ws k ≡ Some w
      → slice_get is j ≡ Some (known.StartCall callback post_return) → slice_get is k ≡ Some (known.StartCall callback post_return)
      → imported_type types v.ty ≡ imported_type types w.ty → j ≡ k
  pub each : (k : ℕ) (a : LinkedAdapter) → slice_get adapters k ≡ Some a → is_awaited a ≡ true → HasStartOf types ws is a

-- So are the start-calls; and the prepare-calls are those of the async adapters between two instances, one for each, in order.
pub record AreTaskCallsNamed (types : List FuncType) (adapters : List LinkedAdapter) (ws : List WasmImport) (is : List Import) : Type 0 where
  pub starts : AreStartCallsNamed types adapters ws is
  pub prepares : AllZip (IsPrepareNamed types) (prepares_in ws is) (filter is_awaited adapters)

-- ---- the whole

-- all imports are made once but prepare-calls, of which each async adapter has one of its own, and start-calls, of which there may be one for
-- each result
abbrev pub is_made_once : Import → Bool
is_made_once (known.PrepareCall memory) = false
is_made_once (known.StartCall callback post_return) = false
is_made_once _ = true

-- The import section names these imports: the core definitions among them are, in order, those that the adapters mention, each
-- import has the names and the type of what it is, nothing that is made once is imported twice, and no type stands twice.
pub record NamesImports (m : WasmModule) (is : List Import) (adapters : List LinkedAdapter) : Type 0 where
  pub defs : filter_map def_of is ≡ map (λ r. r.def) (mentions adapters)
  pub named : AreNamed m.types (mentions adapters) [] m.imports is
  pub transcoders : AreTranscodersNamed m.types m.imports is
  pub task_calls : AreTaskCallsNamed m.types adapters m.imports is
  pub once : AllPairs (λ i j. i ≢ j) (filter is_made_once is)
  pub signatures : AllPairs (λ t u. t ≢ u) m.types

-- ---- what an index of the module names

abbrev pub imported_function : WasmModule → List Import → FuncName → Option Import
imported_function m is (func.Import k) = slice_get (imports_of a_function m.imports is) k
imported_function m is (func.Defined k) = None
