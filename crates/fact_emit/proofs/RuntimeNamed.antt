-- The imports of functions of the runtime: they have the names and the types of these.
use Rattle.std.proofs.Common.{◌≡◌, List, None, refl}
use Rattle.fact_wasm.specs.declared.types.FuncType.{FuncType}
use Rattle.fact_wasm.specs.declared.module.WasmImport.{WasmImport}
use Rattle.fact_emit.specs.declared.imported.RuntimeFunction.{RuntimeFunction}
use Rattle.fact_emit.specs.declared.imported.RuntimeFunction.TheVariants as runtime
use Rattle.fact_emit.specs.ImportSection.{IsNamed, IsRuntime, Mention, def_of}
use Rattle.fact_emit.specs.Runtime.{import_of}

module _ (types : List FuncType) (ms : List Mention) (before : List WasmImport) (w : WasmImport) where
  pub runtime-named : (f : RuntimeFunction) → IsRuntime types f w → IsNamed types ms before w (import_of f)
  runtime-named (runtime.Trap t) h = h
  runtime-named runtime.ResourceTransferOwn h = h
  runtime-named runtime.ResourceTransferBorrow h = h
  runtime-named runtime.FutureTransfer h = h
  runtime-named runtime.StreamTransfer h = h
  runtime-named runtime.ErrorContextTransfer h = h
  runtime-named runtime.EnterSyncCall h = h
  runtime-named runtime.ExitSyncCall h = h
  runtime-named (runtime.UnsafeIntrinsic s) h = h

-- none is a core definition
pub runtime-defines-none : (f : RuntimeFunction) → def_of (import_of f) ≡ None
runtime-defines-none (runtime.Trap t) = refl
runtime-defines-none runtime.ResourceTransferOwn = refl
runtime-defines-none runtime.ResourceTransferBorrow = refl
runtime-defines-none runtime.FutureTransfer = refl
runtime-defines-none runtime.StreamTransfer = refl
runtime-defines-none runtime.ErrorContextTransfer = refl
runtime-defines-none runtime.EnterSyncCall = refl
runtime-defines-none runtime.ExitSyncCall = refl
runtime-defines-none (runtime.UnsafeIntrinsic s) = refl
