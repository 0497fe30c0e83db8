-- Handles, and how they are taken over from a table of one instance to one of another.
use Rattle.std.specs.Prelude.{◌≡◌, ℕ, Option, Some, None}
use Rattle.fact_types.specs.declared.interface.InterfaceType.{InterfaceType}
use Rattle.fact_types.specs.declared.interface.InterfaceType.TheVariants as ty
use Rattle.fact_actions.specs.Actions.{Visit}
use Rattle.fact_actions.specs.Moves as moved
use Rattle.fact_emit.specs.declared.handles.HandleTransfer.{HandleTransfer}
use Rattle.fact_emit.specs.declared.imported.RuntimeFunction.{RuntimeFunction}
use Rattle.fact_emit.specs.declared.imported.RuntimeFunction.TheVariants as runtime
use Rattle.fact_emit.specs.MovesValue.{Act}
use Rattle.fact_emit.specs.Runtime.{import_of, transfer_type, type_of_runtime}

abbrev pub transfer_by : RuntimeFunction → (from_table to_table : ℕ) → HandleTransfer
transfer_by f from_table to_table = record { function = f; from_table = from_table; to_table = to_table }

-- handles of one kind are taken over by the function of that kind
abbrev pub handle_transfer : InterfaceType → InterfaceType → Option HandleTransfer
handle_transfer (ty.Own i) (ty.Own j) = Some (transfer_by runtime.ResourceTransferOwn i.number j.number)
handle_transfer (ty.Borrow i) (ty.Borrow j) = Some (transfer_by runtime.ResourceTransferBorrow i.number j.number)
handle_transfer (ty.Future i) (ty.Future j) = Some (transfer_by runtime.FutureTransfer i.number j.number)
handle_transfer (ty.Stream i) (ty.Stream j) = Some (transfer_by runtime.StreamTransfer i.number j.number)
handle_transfer (ty.ErrorContext i) (ty.ErrorContext j) = Some (transfer_by runtime.ErrorContextTransfer i.number j.number)
handle_transfer _ _ = None

-- its function takes and gives a number of a handle
abbrev pub MovesHandle : HandleTransfer → Type 0
MovesHandle h = type_of_runtime h.function ≡ transfer_type

-- a node that is a handle
abbrev pub handle_moves : HandleTransfer → Act
handle_moves h tr s d = Visit 1 (moved.move_handle tr (import_of h.function) h.from_table h.to_table s d)
