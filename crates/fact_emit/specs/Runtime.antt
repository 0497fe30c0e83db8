-- The functions of the runtime that adapter code calls, and what they are imported as (Component Model, canonical ABI, "Canonical
-- Definitions": `context.get`, `context.set`; "Canonical ABI", `lift_own`, `lift_borrow` and the like: handles of another instance).
use Rattle.std.specs.Prelude.{ℕ, List, [], ◌∷◌, ◌++◌, codes}
use Rattle.std.specs.Fmt.{decimal}
use Rattle.fact_wasm.specs.declared.types.FuncType.{FuncType}
use Rattle.fact_wasm.specs.declared.types.ValType.TheVariants as val
use Rattle.fact_types.specs.ImportTypes.{trap_type}
use Rattle.fact_types.specs.declared.import.Import.{Import}
use Rattle.fact_types.specs.declared.import.Import.TheVariants as known
use Rattle.fact_types.specs.declared.outside.Trap.{Trap}
use Rattle.fact_types.specs.declared.outside.Trap.TheVariants as trap
use Rattle.fact_types.specs.declared.outside.UnsafeIntrinsic.{UnsafeIntrinsic}
use Rattle.fact_types.specs.declared.outside.UnsafeIntrinsic.TheVariants as slot
use Rattle.fact_emit.specs.declared.imported.RuntimeFunction.{RuntimeFunction}
use Rattle.fact_emit.specs.declared.imported.RuntimeFunction.TheVariants as runtime

abbrev pub import_of : RuntimeFunction → Import
import_of (runtime.Trap t) = known.Trap t
import_of runtime.ResourceTransferOwn = known.ResourceTransferOwn
import_of runtime.ResourceTransferBorrow = known.ResourceTransferBorrow
import_of runtime.FutureTransfer = known.FutureTransfer
import_of runtime.StreamTransfer = known.StreamTransfer
import_of runtime.ErrorContextTransfer = known.ErrorContextTransfer
import_of runtime.EnterSyncCall = known.EnterSyncCall
import_of runtime.ExitSyncCall = known.ExitSyncCall
import_of (runtime.UnsafeIntrinsic s) = known.UnsafeIntrinsic s

-- ---- names

abbrev pub trap_number : Trap → ℕ
trap_number trap.CannotLeaveComponent = 0
trap_number trap.CannotEnterComponent = 1
trap_number trap.MemoryOutOfBounds = 2
trap_number trap.StringOutOfBounds = 3
trap_number trap.ListOutOfBounds = 4
trap_number trap.UnalignedPointer = 5
trap_number trap.InvalidChar = 6
trap_number trap.InvalidDiscriminant = 7
trap_number trap.UncaughtException = 8
trap_number trap.DebugAssertPointerAligned = 9
trap_number trap.DebugAssertUpperBitsUnset = 10
trap_number trap.DebugAssertStringEncodingFinished = 11
trap_number trap.DebugAssertEqualCodeUnits = 12

-- the module that the import names
abbrev pub origin_of_runtime : RuntimeFunction → List ℕ
origin_of_runtime (runtime.Trap t) = codes "runtime"
origin_of_runtime runtime.ResourceTransferOwn = codes "resource"
origin_of_runtime runtime.ResourceTransferBorrow = codes "resource"
origin_of_runtime runtime.FutureTransfer = codes "future"
origin_of_runtime runtime.StreamTransfer = codes "stream"
origin_of_runtime runtime.ErrorContextTransfer = codes "error-context"
origin_of_runtime runtime.EnterSyncCall = codes "async"
origin_of_runtime runtime.ExitSyncCall = codes "async"
origin_of_runtime (runtime.UnsafeIntrinsic s) = codes "context"

-- the name of a function of the context's slots
abbrev pub slot_name : UnsafeIntrinsic → List ℕ
slot_name slot.ContextGetI32_0 = codes "get0"
slot_name slot.ContextGetI32_1 = codes "get1"
slot_name slot.ContextSetI32_0 = codes "set0"
slot_name slot.ContextSetI32_1 = codes "set1"

-- and its name there
abbrev pub name_of_runtime : RuntimeFunction → List ℕ
name_of_runtime (runtime.Trap t) = codes "trap" ++ decimal (trap_number t)
name_of_runtime runtime.ResourceTransferOwn = codes "transfer-own"
name_of_runtime runtime.ResourceTransferBorrow = codes "transfer-borrow"
name_of_runtime runtime.FutureTransfer = codes "transfer"
name_of_runtime runtime.StreamTransfer = codes "transfer"
name_of_runtime runtime.ErrorContextTransfer = codes "transfer"
name_of_runtime runtime.EnterSyncCall = codes "enter-sync-call"
name_of_runtime runtime.ExitSyncCall = codes "exit-sync-call"
name_of_runtime (runtime.UnsafeIntrinsic s) = slot_name s

-- ---- types

-- the number of a handle, its table and the table that it goes to; its number there
abbrev pub transfer_type : FuncType
transfer_type = record { params = val.I32 ∷ val.I32 ∷ val.I32 ∷ []; results = val.I32 ∷ [] }

-- whether the function type is marked as async, and the instance that is entered
abbrev pub enter_type : FuncType
enter_type = record { params = val.I32 ∷ val.I32 ∷ []; results = [] }

abbrev pub exit_type : FuncType
exit_type = record { params = []; results = [] }

abbrev pub get_slot_type : FuncType
get_slot_type = record { params = []; results = val.I32 ∷ [] }

abbrev pub set_slot_type : FuncType
set_slot_type = record { params = val.I32 ∷ []; results = [] }

abbrev pub slot_type : UnsafeIntrinsic → FuncType
slot_type slot.ContextGetI32_0 = get_slot_type
slot_type slot.ContextGetI32_1 = get_slot_type
slot_type slot.ContextSetI32_0 = set_slot_type
slot_type slot.ContextSetI32_1 = set_slot_type

abbrev pub type_of_runtime : RuntimeFunction → FuncType
type_of_runtime (runtime.Trap t) = trap_type
type_of_runtime runtime.ResourceTransferOwn = transfer_type
type_of_runtime runtime.ResourceTransferBorrow = transfer_type
type_of_runtime runtime.FutureTransfer = transfer_type
type_of_runtime runtime.StreamTransfer = transfer_type
type_of_runtime runtime.ErrorContextTransfer = transfer_type
type_of_runtime runtime.EnterSyncCall = enter_type
type_of_runtime runtime.ExitSyncCall = exit_type
type_of_runtime (runtime.UnsafeIntrinsic s) = slot_type s
