-- What is known of the functions of adapters, and of the module in which they stand: the premises of the laws of runs, which a module that is made meets
-- (`WholeFunctions.antt` among the proofs of fact_assembly).
use Rattle.std.specs.Prelude.{◌≡◌, ℕ, List, [], Option, None, Some, codes, slice_get}
use Rattle.fact_wasm.specs.declared.module.WasmFunc.{WasmFunc}
use Rattle.fact_wasm.specs.declared.module.WasmModule.{WasmModule}
use Rattle.fact_types.specs.declared.import.Import.{Import}
use Rattle.fact_types.specs.Adapters.{LinkedAdapter}
use Rattle.fact_types.specs.declared.import.Import.TheVariants as import
use Rattle.fact_types.specs.declared.outside.CoreDef.{CoreDef}
use Rattle.fact_wasm.specs.declared.types.ValType.{ValType}
use Rattle.fact_machine.specs.Typed.{type_of_import}
use Rattle.fact_actions.specs.Adapters.{AdapterTunables, References, def_of_memory}
use Rattle.fact_actions.specs.Sides.{options_of}
use Rattle.fact_actions.specs.TypedAnswers.{HasPlaces, HaveCoreTypes}
use Rattle.fact_action_laws.specs.FaithfulLaws.{IsCheckedAdapter, HasSyncSides}
use Rattle.fact_emit.specs.ImportSection.{NamesImports}
use Rattle.fact_emit.specs.TaskTypes.{prepare_call_name, prepare_call_type, start_call_type}
use Rattle.fact_compound.specs.AsyncParts.{part_type}
use Rattle.fact_compound.specs.Asyncs.{IsPartFunction}
use Rattle.fact_compound.specs.Entries.{HasReferences, IsEntryFunction, with_task_calls}
use Rattle.fact_compound.specs.SameInstance.{IsSameInstanceFunction}
use Rattle.fact_compound.specs.Syncs.{IsSyncFunction, lower_type_of}
use Rattle.fact_compound.specs.declared.asyncs.AsyncPart.{AsyncPart}
use Rattle.fact_function_laws.specs.AsyncRuns.{IsCallNamed, IsCallTyped}
use Rattle.fact_function_laws.specs.Names.{places_in}

-- what the core functions that a module imports give, by the types under which it imports them
abbrev pub core_results : WasmModule → List Import → CoreDef → List ValType
core_results m is d = elim (type_of_import m ((places_in m is).function (import.CoreDef d))) [ None ↦ [] | Some t ↦ t.results ]

-- what the start-calls that a module imports give, by the types under which it imports them
abbrev pub start_results : WasmModule → List Import → (callback post_return : Option CoreDef) → List ValType
start_results m is callback post_return = elim (type_of_import m ((places_in m is).function (import.StartCall callback post_return))) [ None ↦ [] | Some t ↦ t.results ]

-- ---- sync adapters between two instances

-- The function of this number does the adapter's action, in a module that names its imports and has what the adapter names; and the
-- adapter is one that the checks of plans let through.
pub record IsAdapterFunction (m : WasmModule) (is : List Import) (u : AdapterTunables) (a : LinkedAdapter) (adapters : List LinkedAdapter) (f : ℕ) : Type 0 where
  pub function : WasmFunc
  pub function_is : slice_get m.funcs f ≡ Some function
  pub type_is : slice_get m.types function.ty ≡ Some (lower_type_of a)
  pub does : IsSyncFunction u a m (places_in m is) function
  -- the core type of the lower side is its signature
  pub core_type : a.lower.core_type ≡ lower_type_of a
  pub sync_sides : HasSyncSides a
  pub names : NamesImports m is adapters
  pub places : HasPlaces (places_in m is) a
  pub core_types : HaveCoreTypes (core_results m is) a
  pub checked : IsCheckedAdapter (places_in m is) a

-- ---- adapters within one instance

-- The function of this number only traps, in a module that names its imports and has what the adapter names.
pub record IsTrapFunction (m : WasmModule) (is : List Import) (a : LinkedAdapter) (adapters : List LinkedAdapter) (f : ℕ) : Type 0 where
  pub function : WasmFunc
  pub function_is : slice_get m.funcs f ≡ Some function
  pub type_is : slice_get m.types function.ty ≡ Some (lower_type_of a)
  pub does : IsSameInstanceFunction a m (places_in m is) function
  pub core_type : a.lower.core_type ≡ lower_type_of a
  pub names : NamesImports m is adapters

-- ---- async adapters between two instances

-- The function of this number moves the values of that part of the adapter, in a module that names its imports and has what the adapter names;
-- and the adapter is one that the checks of plans let through.
pub record IsPartFunctionOf (x : AsyncPart) (m : WasmModule) (is : List Import) (u : AdapterTunables) (a : LinkedAdapter) (adapters : List LinkedAdapter) (f : ℕ) : Type 0 where
  pub function : WasmFunc
  pub function_is : slice_get m.funcs f ≡ Some function
  pub type_is : slice_get m.types function.ty ≡ Some (part_type x a)
  pub does : IsPartFunction x u a m (places_in m is) function
  pub names : NamesImports m is adapters
  pub places : HasPlaces (places_in m is) a
  pub core_types : HaveCoreTypes (core_results m is) a
  pub checked : IsCheckedAdapter (places_in m is) a

-- The function of this number hands the adapter's call to the runtime, by the calls of these numbers and with these references, which the
-- module has and exports.
pub record IsEntryFunctionOf (m : WasmModule) (is : List Import) (a : LinkedAdapter) (r : References) (adapters : List LinkedAdapter) (f : ℕ) : Type 0 where
  pub prepare_call : ℕ
  pub start_call : ℕ
  pub prepare_is : IsCallNamed m is prepare_call (import.PrepareCall (def_of_memory (options_of a.lift))) (codes "sync") (prepare_call_name a.name) (prepare_call_type a.lower.core_type.params)
  pub start_is : IsCallTyped m is start_call (import.StartCall a.lift.callback a.lift.post_return) (start_call_type a.lower.core_type.results)
  pub function : WasmFunc
  pub function_is : slice_get m.funcs f ≡ Some function
  pub type_is : slice_get m.types function.ty ≡ Some (lower_type_of a)
  pub does : IsEntryFunction a r m (with_task_calls a prepare_call start_call (places_in m is)) function
  pub core_type : a.lower.core_type ≡ lower_type_of a
  pub references : HasReferences m r
  pub names : NamesImports m is adapters
