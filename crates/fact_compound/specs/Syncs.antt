-- What is said of the function of a sync adapter: its body does the adapter's action (`IsSyncFunction`), so that each law of the action is one of its runs.
use Rattle.std.specs.Prelude.{◌≡◌, ℕ, Bool, true, List, [], reverse, Some, slice_get}
use Rattle.fact_wasm.specs.declared.module.WasmFunc.{WasmFunc}
use Rattle.fact_wasm.specs.declared.module.WasmModule.{WasmModule}
use Rattle.fact_wasm.specs.declared.types.FuncType.{FuncType}
use Rattle.fact_types.specs.Adapters.{LinkedAdapter}
use Rattle.fact_types.specs.Tables.{Tables}
use Rattle.fact_machine.specs.Exits.{entry_locals}
use Rattle.fact_machine.specs.Typed.{are_values}
use Rattle.fact_machine.specs.Typing.{is_typed_function}
use Rattle.fact_machine.specs.declared.types.CoreValue.{CoreValue}
use Rattle.fact_machine.specs.World.{World}
use Rattle.fact_actions.specs.Adapters.{AdapterTunables, lower_signature_of}
use Rattle.fact_actions.specs.Plain.{ended_sync}
use Rattle.fact_actions.specs.Running.{ImportPlaces}
use Rattle.fact_code_laws.specs.Typed.{OnStack, IsTyped}
use Rattle.fact_code_laws.specs.Does.{Locals, Onward, held_types, EndsSo}
use Rattle.fact_code_laws.specs.Places.{AreHeld}
use Rattle.fact_code_laws.specs.PieceLaws.{HaveResultTypes}
use Rattle.fact_wasm.specs.declared.instr.Instr.{Instr}
use Rattle.fact_wasm.specs.declared.types.ValType.{ValType}
use Rattle.fact_emit.specs.Asked.{AskedHelper}
use Rattle.fact_emit.specs.Emits.{EmitsAsking, GrewAsking}
use Rattle.fact_emit.specs.Writers.{taken_in}
use Rattle.fact_emit.specs.declared.writer.Writer.{Writer}
use Rattle.fact_compound.specs.Written.{SyncPlaces, HasLocals}
use Rattle.fact_emit.specs.Imports.{Extended, Serves}
use Rattle.fact_emit.specs.States.{ModuleSoFar}
use Rattle.fact_kinds.specs.declared.fuel.Fuel.{Fuel}
use Rattle.fact_compound.specs.Asks.{AsksFor, Having}
use Rattle.fact_compound.specs.Keys.{TranslatesSync}
use Rattle.fact_compound.specs.Described.{DescribesAdapter, KnowsAdapterData}
use Rattle.fact_compound.specs.Events.{AreCallOptions, AreSetTo}
use Rattle.fact_compound.specs.declared.adapters.AdapterData.{AdapterData}
use Rattle.fact_compound.specs.declared.syncs.CallOptions.{CallOptions}

-- the core type of the function that an adapter gives its lower side
abbrev pub lower_type_of : LinkedAdapter → FuncType
lower_type_of a = record { params = (lower_signature_of a).params; results = (lower_signature_of a).results }

-- Code comes to what the adapter comes to, with the adapter's barrier where exceptions are on: it leaves the results on the stack, in
-- at most 1,000 steps for the adapter, and 900 for each unit of weight.
pub record EndsAsSync (u : AdapterTunables) (a : LinkedAdapter) (M : WasmModule) (p : ImportPlaces) (args : List CoreValue) (ls : Locals) (code : List Instr) : Type 0 where
  pub by : (w : World) → EndsSo M p Onward 1000 0 w [] ls code reverse (HaveResultTypes (lower_type_of a)) (ended_sync p u a args w)

-- In a module that has what the function asks for its body does so for typed arguments, and its operands have their types.
pub record IsSyncFunction (u : AdapterTunables) (a : LinkedAdapter) (M : WasmModule) (p : ImportPlaces) (f : WasmFunc) : Type 0 where
  pub does : (args : List CoreValue) → are_values args (lower_signature_of a).params ≡ true → EndsAsSync u a M p args (entry_locals f args) f.body
  pub typed : slice_get M.types f.ty ≡ Some (lower_type_of a) → is_typed_function M f ≡ true

-- A function was written, and what it asks for was imported: it is that of every adapter that the data describe, with the tunables set so, in every later
-- module that has what was imported so far, and what else its code wants, and in which the adapter's own parts have their places.
pub record WritesSync (Has : Having) (t : Tables) (d : AdapterData) (debug concurrency exceptions : Bool) (old new : ModuleSoFar) (f : WasmFunc) : Type 0 where
  pub imports : Extended old new
  pub is : (u : AdapterTunables) (a : LinkedAdapter) → DescribesAdapter t d debug u a → AreSetTo concurrency exceptions u → (M : WasmModule) (p : ImportPlaces) → Serves M p new → Has M p → KnowsAdapterData M p d a → IsSyncFunction u a M p f

-- ---- the body as it is written

-- In a module in which the adapter's parts have their places, and a function with these locals, the code does the adapter's action
-- with the arguments that its locals hold, and comes to what the adapter comes to. It is typed, with the results on the stack.
pub record DoesSync (u : AdapterTunables) (a : LinkedAdapter) (d : AdapterData) (o : CallOptions) (l : SyncPlaces) (taken : ℕ → Bool) (M : WasmModule) (p : ImportPlaces) (locals : List ValType) (code : List Instr) : Type 0 where
  pub does : KnowsAdapterData M p d a → HasLocals a o.context l taken locals → (args : List CoreValue) (ls : Locals) → held_types ls ≡ locals → AreHeld ls l.args args
      → EndsAsSync u a M p args ls code
  pub typed : KnowsAdapterData M p d a → HasLocals a o.context l taken locals → IsTyped M locals [] code [] (OnStack (reverse (lower_signature_of a).results))

-- Code was written that does so, for every adapter that the data describe and that asks for these calls.
pub record EmitsSync (t : Tables) (d : AdapterData) (debug : Bool) (o : CallOptions) (l : SyncPlaces) (before after : Fuel) (old new : Writer) : Type 0 where
  pub asks : List AskedHelper
  pub translated : TranslatesSync t d debug o.concurrency l.passed before after asks
  pub grew : GrewAsking asks old new
  pub asked : AsksFor t debug o.concurrency asks old.sections new.sections
  pub emits : (u : AdapterTunables) (a : LinkedAdapter) → DescribesAdapter t d debug u a → AreCallOptions o u a → EmitsAsking asks old new (DoesSync u a d o l (taken_in old))
