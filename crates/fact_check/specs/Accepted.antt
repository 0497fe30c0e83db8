-- Which bytes spell an adapter module, and why others do not.
use Rattle.std.specs.Prelude.{◌≡◌, ◌≢◌, ℕ, ◌<◌, true, false, List, Some, Result, Ok, Err, length, slice_get}
use Rattle.fact_wasm.specs.declared.module.WasmExport.{WasmExport}
use Rattle.fact_wasm.specs.declared.module.WasmModule.{WasmModule}
use Rattle.fact_wasm.specs.Ranges.{InRange}
use Rattle.fact_binary.specs.Spelling.{Spells}
use Rattle.fact_machine.specs.Typing.{typed_function, typed_module}
use Rattle.fact_check.specs.Imports.{IsAdapterImport}
use Rattle.fact_check.specs.declared.error.CheckError.{CheckError}
use Rattle.fact_check.specs.declared.error.CheckError.TheVariants as error
use Rattle.fact_check.specs.declared.error.CheckPlace.TheVariants as place

-- ---- adapter modules

-- The imports are those of adapter modules, and the module is well typed.
pub record IsAdapterModule (m : WasmModule) : Type 0 where
  pub imports : (n : ℕ) → n < length m.imports → IsAdapterImport m n
  pub typed : typed_module m ≡ true

-- The bytes spell the module, which is in range and an adapter module.
pub record IsAccepted (bytes : List ℕ) (m : WasmModule) : Type 0 where
  pub in_range : InRange m
  pub spelled : Spells bytes m
  pub is_adapter : IsAdapterModule m

-- ---- causes

-- the imports before the nth are those of adapter modules
abbrev pub AreAdapterImports : WasmModule → ℕ → Type 0
AreAdapterImports m n = (k : ℕ) → k < n → IsAdapterImport m k

-- the nth import is the first that is none of an adapter module
pub record IsFirstForeign (m : WasmModule) (n : ℕ) : Type 0 where
  pub within : n < length m.imports
  pub is_foreign : IsAdapterImport m n → ⊥
  pub before : AreAdapterImports m n

-- the functions before the nth that the module defines are well typed
abbrev pub AreTypedFunctions : WasmModule → ℕ → Type 0
AreTypedFunctions m n = (k : ℕ) → k < n → typed_function m k ≡ true

-- the nth of them is the first that is not
pub record IsFirstIllTyped (m : WasmModule) (n : ℕ) : Type 0 where
  pub within : n < length m.funcs
  pub is_ill_typed : typed_function m n ≡ false
  pub before : AreTypedFunctions m n

-- the nth export has the name of an earlier one
pub record IsRepeatedExport (exports : List WasmExport) (n : ℕ) : Type 0 where
  pub export : WasmExport
  pub there : slice_get exports n ≡ Some export
  pub place : ℕ
  pub before : place < n
  pub earlier : WasmExport
  pub earlier_there : slice_get exports place ≡ Some earlier
  pub same_name : earlier.name ≡ export.name

-- and it is the first of these
pub record IsFirstRepeated (exports : List WasmExport) (n : ℕ) : Type 0 where
  pub is_repeated : IsRepeatedExport exports n
  pub before : (k : ℕ) → k < n → IsRepeatedExport exports k → ⊥

-- what is wrong with a module: the first import that is none, behind those the first function that is ill typed, and behind those the
-- first export whose name an earlier one has
abbrev pub HasCause : WasmModule → CheckError → Type 0
HasCause m error.OutOfMemory = ⊥
HasCause m error.NotInGrammar = ⊥
HasCause m (error.NotAdapter n) = IsFirstForeign m n
HasCause m (error.IllTyped (place.Func n)) = AreAdapterImports m (length m.imports) × IsFirstIllTyped m n
HasCause m (error.IllTyped (place.Export n)) = AreAdapterImports m (length m.imports) × AreTypedFunctions m (length m.funcs) × IsFirstRepeated m.exports n

-- The bytes spell no module, or one that has the cause.
abbrev pub IsCause : List ℕ → CheckError → Type 0
IsCause bytes error.OutOfMemory = Unit {0}
IsCause bytes error.NotInGrammar = (m : WasmModule) → InRange m → Spells bytes m → ⊥
IsCause bytes (error.NotAdapter n) = (m : WasmModule) × InRange m × Spells bytes m × HasCause m (error.NotAdapter n)
IsCause bytes (error.IllTyped place) = (m : WasmModule) × InRange m × Spells bytes m × HasCause m (error.IllTyped place)

-- This module, or a want of memory.
abbrev pub IsModuleOrMemory : Result WasmModule CheckError → WasmModule → Type 0
IsModuleOrMemory (Ok found) m = found ≡ m
IsModuleOrMemory (Err error.OutOfMemory) m = Unit {0}
IsModuleOrMemory (Err _) m = ⊥

-- This cause, or a want of memory.
abbrev pub IsErrorOrMemory : Result WasmModule CheckError → CheckError → Type 0
IsErrorOrMemory (Ok found) e = ⊥
IsErrorOrMemory (Err error.OutOfMemory) e = Unit {0}
IsErrorOrMemory (Err told) e = told ≡ e

-- Bytes that are accepted have no cause: each input of the check has one answer, but for a want of memory.
abbrev pub AcceptedHasNoCause : Type 0
AcceptedHasNoCause = (bytes : List ℕ) (m : WasmModule) (e : CheckError) → IsAccepted bytes m → e ≢ error.OutOfMemory → IsCause bytes e → ⊥
