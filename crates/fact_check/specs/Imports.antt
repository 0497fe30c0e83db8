-- What adapter modules import: the rows by which each import of one is named and typed, whatever plan it was made for (Component
-- Model, canonical ABI, "Canonical ABI options" and "Canonical Definitions"; the names are those of this project's modules). The types
-- of realloc, callbacks and transcoders are said here once more, so that a check of bytes trusts no table of types.
use Rattle.std.specs.Prelude.{◌≡◌, ℕ, ◌<◌, ◌≤◌, ◌^◌, Bool, true, false, ◌⊎◌, List, [], ◌∷◌, ◌++◌, Option, Some, None, codes, length, slice_get, take, if◌then◌else◌}
use Rattle.std.specs.List.{filter_map, list_all}
use Rattle.std.specs.Str.{bytes_eq}
use Rattle.std.specs.Fmt.{decimal}
use Rattle.fact_wasm.specs.declared.types.ValType.{ValType}
use Rattle.fact_wasm.specs.declared.types.ValType.TheVariants.{I32, FuncRef}
use Rattle.fact_wasm.specs.declared.types.FuncType.{FuncType}
use Rattle.fact_wasm.specs.declared.module.ImportType.{ImportType}
use Rattle.fact_wasm.specs.declared.module.ImportType.TheVariants as import
use Rattle.fact_wasm.specs.declared.module.WasmImport.{WasmImport}
use Rattle.fact_wasm.specs.declared.module.WasmModule.{WasmModule}
use Rattle.fact_machine.specs.Typing.{address_type, is_number}
use Rattle.fact_check.specs.declared.imports.Origin.{Origin}
use Rattle.fact_check.specs.declared.imports.Origin.TheVariants as origin
use Rattle.fact_check.specs.declared.imports.Signature.{Signature}
use Rattle.fact_check.specs.declared.imports.Signature.TheVariants as signature
use Rattle.fact_check.specs.declared.imports.Operation.{Operation}
use Rattle.fact_check.specs.declared.imports.Operation.TheVariants as operation

-- ---- imports that stand before

-- the index of the type of a function
abbrev pub type_of_function : WasmImport → Option ℕ
type_of_function w = elim w.ty [ import.Func t ↦ Some t | import.Memory least wide page ↦ None | import.Global t mutable ↦ None ]

-- how many functions, and the memories: whether the addresses of each have 64 bits
abbrev pub functions_in : List WasmImport → ℕ
functions_in before = length (filter_map type_of_function before)

abbrev pub width_of_memory : WasmImport → Option Bool
width_of_memory w = elim w.ty [ import.Func t ↦ None | import.Memory least wide page ↦ Some wide | import.Global t mutable ↦ None ]

abbrev pub memories_in : List WasmImport → List Bool
memories_in before = filter_map width_of_memory before

-- ---- names and types

-- a prefix, and behind it a number of 32 bits in decimal digits without a leading zero
abbrev pub IsNumbered : (prefix : List ℕ) → ℕ → (name : List ℕ) → Type 0
IsNumbered prefix n name = (n < 2 ^ 32) × (name ≡ prefix ++ decimal n)

-- a prefix, and behind it any text
abbrev pub BeginsWith : (prefix name : List ℕ) → Type 0
BeginsWith prefix name = (text : List ℕ) × (name ≡ prefix ++ text)

-- numbers, and no references
abbrev pub AreNumbers : List ValType → Type 0
AreNumbers ts = list_all is_number ts ≡ true

abbrev pub function : (params results : List ValType) → FuncType
function params results = record { params = params; results = results }

-- ---- functions of one name

-- The instance is entered and left again; a handle's number, its table and the table that it goes to give its number there; a slot of
-- the context is read or set.
abbrev pub type_of_signature : Signature → FuncType
type_of_signature signature.Enter = function (I32 ∷ I32 ∷ []) []
type_of_signature signature.Exit = function [] []
type_of_signature signature.Transfer = function (I32 ∷ I32 ∷ I32 ∷ []) (I32 ∷ [])
type_of_signature signature.Get = function [] (I32 ∷ [])
type_of_signature signature.Set = function (I32 ∷ []) []

-- those of a module, by their names
unfoldable pub fixed_signature : Origin → (name : List ℕ) → Option Signature
fixed_signature origin.Async name =
    if bytes_eq name (codes "enter-sync-call") then Some signature.Enter else
    (if bytes_eq name (codes "exit-sync-call") then Some signature.Exit else None)
fixed_signature origin.Transfer name = if bytes_eq name (codes "transfer") then Some signature.Transfer else None
fixed_signature origin.Resource name =
    if bytes_eq name (codes "transfer-own") then Some signature.Transfer else
    (if bytes_eq name (codes "transfer-borrow") then Some signature.Transfer else None)
fixed_signature origin.Context name =
    if bytes_eq name (codes "get0") then Some signature.Get else
    (if bytes_eq name (codes "get1") then Some signature.Get else
    (if bytes_eq name (codes "set0") then Some signature.Set else
    (if bytes_eq name (codes "set1") then Some signature.Set else None)))
fixed_signature _ name = None

-- ---- transcoders

-- by what a transcoder's name begins with
unfoldable pub operation_of : (description : List ℕ) → Option Operation
operation_of s =
    if bytes_eq s (codes "utf8-to-utf8") then Some operation.Exact else
    (if bytes_eq s (codes "utf16-to-utf16") then Some operation.Exact else
    (if bytes_eq s (codes "latin1-to-latin1") then Some operation.Exact else
    (if bytes_eq s (codes "latin1-to-utf16") then Some operation.Exact else
    (if bytes_eq s (codes "utf8-to-utf16") then Some operation.Counted else
    (if bytes_eq s (codes "utf16-to-compact-probably-utf16") then Some operation.Counted else
    (if bytes_eq s (codes "utf16-to-utf8") then Some operation.Fitting else
    (if bytes_eq s (codes "latin1-to-utf8") then Some operation.Fitting else
    (if bytes_eq s (codes "utf8-to-latin1") then Some operation.Narrow else
    (if bytes_eq s (codes "utf16-to-latin1") then Some operation.Narrow else
    (if bytes_eq s (codes "utf8-to-compact-utf16") then Some operation.Widening else
    (if bytes_eq s (codes "utf16-to-compact-utf16") then Some operation.Widening else None)))))))))))

-- The source and how many units it has, and the destination: of a front its room, and whether it is the first one; of what was
-- written the room, and how many bytes. A front tells how many units were read and written, and a count how many were written.
abbrev pub transcoder_type : Operation → (from64 to64 : Bool) → FuncType
transcoder_type operation.Exact from to = function (address_type from ∷ address_type from ∷ address_type to ∷ []) []
transcoder_type operation.Counted from to = function (address_type from ∷ address_type from ∷ address_type to ∷ []) (address_type to ∷ [])
transcoder_type operation.Fitting from to = function (address_type from ∷ address_type from ∷ address_type to ∷ address_type to ∷ I32 ∷ []) (address_type from ∷ address_type to ∷ [])
transcoder_type operation.Narrow from to = function (address_type from ∷ address_type from ∷ address_type to ∷ []) (address_type from ∷ address_type to ∷ [])
transcoder_type operation.Widening from to = function (address_type from ∷ address_type from ∷ address_type to ∷ address_type to ∷ address_type to ∷ []) (address_type to ∷ [])

-- A transcoder of an operation, between two of these memories.
pub record IsTranscoderRow (memories : List Bool) (name : List ℕ) (ty : FuncType) : Type 0 where
  pub description : List ℕ
  pub operation : Operation
  pub from : ℕ
  pub to : ℕ
  pub from64 : Bool
  pub to64 : Bool
  pub described : operation_of description ≡ Some operation
  pub from_small : from < 2 ^ 32
  pub to_small : to < 2 ^ 32
  pub from_there : slice_get memories from ≡ Some from64
  pub to_there : slice_get memories to ≡ Some to64
  pub named : name ≡ description ++ (codes " (mem" ++ (decimal from ++ (codes " => mem" ++ (decimal to ++ codes ")"))))
  pub typed : ty ≡ transcoder_type operation from64 to64

-- ---- the rows

abbrev pub realloc_type : (memory64 : Bool) → FuncType
realloc_type wide = function (address_type wide ∷ address_type wide ∷ address_type wide ∷ address_type wide ∷ []) (address_type wide ∷ [])

abbrev pub callback_type : FuncType
callback_type = function (I32 ∷ I32 ∷ I32 ∷ []) (I32 ∷ [])

-- what a prepare-call is told before the adapter's own parameters, and what a start-call is told
abbrev pub prepare_types : List ValType
prepare_types = FuncRef ∷ FuncRef ∷ I32 ∷ I32 ∷ I32 ∷ I32 ∷ I32 ∷ I32 ∷ []

abbrev pub start_types : List ValType
start_types = FuncRef ∷ I32 ∷ I32 ∷ I32 ∷ []

-- the number of the last trap
abbrev pub last_trap : ℕ
last_trap = 12

-- by the module that an import names
unfoldable pub origin_of : List ℕ → Option Origin
origin_of s =
    if bytes_eq s (codes "realloc") then Some origin.Realloc else
    (if bytes_eq s (codes "callback") then Some origin.Callback else
    (if bytes_eq s (codes "callee") then Some origin.Callee else
    (if bytes_eq s (codes "post_return") then Some origin.PostReturn else
    (if bytes_eq s (codes "transcode") then Some origin.Transcode else
    (if bytes_eq s (codes "sync") then Some origin.Sync else
    (if bytes_eq s (codes "async") then Some origin.Async else
    (if bytes_eq s (codes "future") then Some origin.Transfer else
    (if bytes_eq s (codes "stream") then Some origin.Transfer else
    (if bytes_eq s (codes "error-context") then Some origin.Transfer else
    (if bytes_eq s (codes "resource") then Some origin.Resource else
    (if bytes_eq s (codes "context") then Some origin.Context else
    (if bytes_eq s (codes "runtime") then Some origin.Runtime else None))))))))))))

-- one that has neither a fixed name nor a row of its own is none
abbrev pub IsNamedFunction : (functions : ℕ) → (memories : List Bool) → (name : List ℕ) → FuncType → Origin → Type 0
IsNamedFunction functions memories name ty origin.Realloc = IsNumbered (codes "f") functions name × ((ty ≡ realloc_type false) ⊎ (ty ≡ realloc_type true))
IsNamedFunction functions memories name ty origin.Callback = IsNumbered (codes "f") functions name × (ty ≡ callback_type)
IsNamedFunction functions memories name ty origin.Callee = AreNumbers ty.params × AreNumbers ty.results
IsNamedFunction functions memories name ty origin.PostReturn = AreNumbers ty.params × (ty.results ≡ [])
IsNamedFunction functions memories name ty origin.Transcode = IsTranscoderRow memories name ty
IsNamedFunction functions memories name ty origin.Sync =
    BeginsWith (codes "[prepare-call]") name × ((params : List ValType) × AreNumbers params × (ty ≡ function (prepare_types ++ params) []))
IsNamedFunction functions memories name ty origin.Async = BeginsWith (codes "[start-call]") name × ((ty.params ≡ start_types) × AreNumbers ty.results)
IsNamedFunction functions memories name ty origin.Runtime = ((trap : ℕ) × (trap ≤ last_trap) × IsNumbered (codes "trap") trap name) × (ty ≡ function [] [])
IsNamedFunction functions memories name ty _ = ⊥

abbrev pub IsFunctionIn : (functions : ℕ) → (memories : List Bool) → (name : List ℕ) → FuncType → Origin → Option Signature → Type 0
IsFunctionIn functions memories name ty o (Some s) = ty ≡ type_of_signature s
IsFunctionIn functions memories name ty o None = IsNamedFunction functions memories name ty o

-- a function that is imported behind so many others and these memories, from a module, under a name
abbrev pub IsFunctionRow : (functions : ℕ) → (memories : List Bool) → Option Origin → (name : List ℕ) → FuncType → Type 0
IsFunctionRow functions memories None name ty = ⊥
IsFunctionRow functions memories (Some o) name ty = IsFunctionIn functions memories name ty o (fixed_signature o name)

-- a custom page size is that of one byte
abbrev pub IsPageSize : Option ℕ → Type 0
IsPageSize page = (page ≡ None) ⊎ (page ≡ Some 0)

-- The import has the module, the name and the type of a row, behind these others.
abbrev pub IsRow : List FuncType → (before : List WasmImport) → (origin name : List ℕ) → ImportType → Type 0
IsRow types before origin name (import.Func t) = (ty : FuncType) × (slice_get types t ≡ Some ty) × IsFunctionRow (functions_in before) (memories_in before) (origin_of origin) name ty
IsRow types before origin name (import.Memory least wide page) = (origin ≡ codes "memory") × IsNumbered (codes "m") (length (memories_in before)) name × (least ≡ 0) × IsPageSize page
IsRow types before origin name (import.Global t mutable) = (origin ≡ codes "flags") × ((instance : ℕ) × IsNumbered (codes "instance") instance name) × (t ≡ I32) × (mutable ≡ true)

-- The nth import of the module is there, and has those of a row.
pub record IsAdapterImport (m : WasmModule) (n : ℕ) : Type 0 where
  pub import : WasmImport
  pub there : slice_get m.imports n ≡ Some import
  pub is_row : IsRow m.types (take n m.imports) import.module import.name import.ty
