-- What a call on the host is in the terms of adapters: a description of the sides, the places of imports, and what each imported function is.
-- The laws of adapters and honest answers go by such descriptions.
use Rattle.std.specs.Prelude.{◌≡◌, ◌⊎◌, ℕ, false, List, Some, option_map, map, slice_get}
use Rattle.std.specs.List.{filter_map}
use Rattle.fact_wasm.specs.declared.module.WasmImport.{WasmImport}
use Rattle.fact_wasm.specs.declared.module.WasmModule.{WasmModule}
use Rattle.fact_types.specs.declared.outside.CoreDef.{CoreDef}
use Rattle.fact_types.specs.declared.outside.UnsafeIntrinsic.TheVariants as slot
use Rattle.fact_types.specs.declared.import.Import.{Import}
use Rattle.fact_types.specs.declared.import.Import.TheVariants as import
use Rattle.fact_types.specs.Adapters.{Side, LinkedAdapter, is_wide}
use Rattle.fact_types.specs.Functions.{HaveShapes}
use Rattle.fact_types.specs.Tables.{Tables}
use Rattle.fact_machine.specs.declared.types.Event.{Event}
use Rattle.fact_machine.specs.Typed.{type_of_memory, type_of_global}
use Rattle.fact_actions.specs.Calls.{HasOwnCallee}
use Rattle.fact_actions.specs.Running.{ImportPlaces, Call}
use Rattle.fact_host.specs.declared.calling.HostCall.{HostCall}
use Rattle.fact_host.specs.declared.calling.HostSide.{HostSide}
use Rattle.fact_host.specs.declared.roles.Role.{Role}
use Rattle.fact_host.specs.declared.roles.Role.TheVariants as role
use Rattle.fact_host.specs.Roles.{IsRole, function_imports}
use Rattle.fact_host.specs.Rules.{CallShapes}

-- the types of a call stand for these shapes
pub record HasCallShapes (t : Tables) (c : HostCall) (s : CallShapes) : Type 0 where
  pub lower_params : HaveShapes t c.lower.params s.lower_params
  pub lower_results : HaveShapes t c.lower.results s.lower_results
  pub lift_params : HaveShapes t c.lift.params s.lift_params
  pub lift_results : HaveShapes t c.lift.results s.lift_results

-- a side of an adapter, at these places
pub record DescribesHostSide (t : Tables) (h : HostSide) (p : ImportPlaces) (s : Side) : Type 0 where
  pub is_sync : s.async_side ≡ false
  pub params : HaveShapes t h.params s.params
  pub results : HaveShapes t h.results s.results
  pub encoding : s.encoding ≡ h.abi.encoding
  pub memory64 : is_wide s.memory ≡ h.abi.memory64
  pub memory : option_map (λ m. p.memory m.def) s.memory ≡ h.memory
  pub realloc : option_map (λ d. p.function (import.CoreDef d)) s.realloc ≡ h.realloc
  pub flags : p.flags s.instance ≡ h.flags

-- an imported function of a role is this import
abbrev pub IsImportOf : ImportPlaces → LinkedAdapter → Role → Import → Type 0
IsImportOf p a role.Callee i = i ≡ import.CoreDef a.callee
IsImportOf p a role.LiftRealloc i = option_map (λ d. import.CoreDef d) a.lift.realloc ≡ Some i
IsImportOf p a role.LowerRealloc i = option_map (λ d. import.CoreDef d) a.lower.realloc ≡ Some i
IsImportOf p a role.PostReturn i = option_map (λ d. import.CoreDef d) a.lift.post_return ≡ Some i
IsImportOf p a (role.Transcoder o from from64 to to64) i =
    (d : CoreDef) × (e : CoreDef) × (i ≡ import.Transcode o d from64 e to64) × (p.memory d ≡ from) × (p.memory e ≡ to)
IsImportOf p a role.Transfer i =
    (i ≡ import.ResourceTransferOwn) ⊎ ((i ≡ import.ResourceTransferBorrow) ⊎ ((i ≡ import.FutureTransfer) ⊎ ((i ≡ import.StreamTransfer) ⊎ (i ≡ import.ErrorContextTransfer))))
IsImportOf p a role.Slot i = (i ≡ import.UnsafeIntrinsic slot.ContextGetI32_0) ⊎ (i ≡ import.UnsafeIntrinsic slot.ContextGetI32_1)
IsImportOf p a role.Told i =
    (i ≡ import.UnsafeIntrinsic slot.ContextSetI32_0) ⊎ ((i ≡ import.UnsafeIntrinsic slot.ContextSetI32_1) ⊎ ((i ≡ import.EnterSyncCall) ⊎ (i ≡ import.ExitSyncCall)))
-- all else is answered by a trap
IsImportOf p a role.Refused i = Unit {0}

-- A description fits a call of a module: its sides, its callee and its post-return are at the places that the call names, the module has
-- memories and globals so, and the nth imported function is so.
pub record Describes (m : WasmModule) (t : Tables) (c : HostCall) (p : ImportPlaces) (a : LinkedAdapter) (names : ℕ → Import) : Type 0 where
  pub lower : DescribesHostSide t c.lower p a.lower
  pub lift : DescribesHostSide t c.lift p a.lift
  pub callee : p.function (import.CoreDef a.callee) ≡ c.callee
  pub post_return : option_map (λ d. p.function (import.CoreDef d)) a.lift.post_return ≡ c.post_return
  pub own_callee : HasOwnCallee a
  pub memory_types : p.memory_types ≡ filter_map type_of_memory m.imports
  pub global_types : p.global_types ≡ filter_map type_of_global m.imports
  pub functions : (n : ℕ) (w : WasmImport) (r : Role) → slice_get (function_imports m) n ≡ Some w → IsRole m c n w r → IsImportOf p a r (names n)

-- the events of a log as calls of imports
abbrev pub named_calls : (names : ℕ → Import) → List Event → List Call
named_calls names log = map (λ e. record { what = names e.func; args = e.args; before = e.before; answer = e.answer }) log
