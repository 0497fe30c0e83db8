-- Whole functions of adapters, as they are put into a module.
use Rattle.std.specs.Prelude.{◌≡◌, ℕ, suc, ◌-◌, Bool, true, false, List, [], ◌∷◌, ◌++◌, is_some, length, map, reverse, take, Some, slice_get}
use Rattle.std.specs.List.{AllZip}
use Rattle.fact_wasm.specs.declared.instr.FuncName.TheVariants as func
use Rattle.fact_wasm.specs.declared.instr.Instr.{Instr}
use Rattle.fact_wasm.specs.declared.module.WasmFunc.{WasmFunc}
use Rattle.fact_wasm.specs.declared.types.FuncType.{FuncType}
use Rattle.fact_wasm.specs.declared.module.WasmModule.{WasmModule}
use Rattle.fact_wasm.specs.declared.types.ValType.{ValType}
use Rattle.fact_wasm.specs.declared.types.ValType.TheVariants as val
use Rattle.fact_machine.specs.Trace.{Grows}
use Rattle.fact_machine.specs.declared.types.CoreValue.{CoreValue}
use Rattle.fact_actions.specs.Adapters.{AdapterTunables, lower_signature_of, lift_signature_of}
use Rattle.fact_actions.specs.Running.{ImportPlaces}
use Rattle.fact_types.specs.Adapters.{LinkedAdapter}
use Rattle.fact_types.specs.FlatShapes.{AreCounted}
use Rattle.fact_types.specs.Functions.{HasSignature}
use Rattle.fact_types.specs.Shapes.{Shape}
use Rattle.fact_types.specs.Signatures.{flat_values}
use Rattle.fact_types.specs.Tables.{Tables}
use Rattle.fact_types.specs.Tuples.{tuple_members}
use Rattle.fact_types.specs.declared.signature.Signature.{Signature}
use Rattle.fact_code_laws.specs.Does.{Locals, held_types}
use Rattle.fact_code_laws.specs.Places.{Slot, AreHeld}
use Rattle.fact_code_laws.specs.Typed.{OnStack, IsTyped}
use Rattle.fact_emit.specs.Asked.{AskedHelper, HasHelpers}
use Rattle.fact_emit.specs.Brought.{Brought}
use Rattle.fact_emit.specs.Imports.{Extended, AreOnce, Serves}
use Rattle.fact_emit.specs.Places.{slots_of_locals}
use Rattle.fact_emit.specs.States.{HasType, ModuleSoFar, export_as, with_exported}
use Rattle.fact_emit.specs.Writers.{AreNumberTypes, types_of_locals, used_local_of}
use Rattle.fact_emit.specs.declared.writer.Writer.{Writer}
use Rattle.fact_emit.specs.NamedFunctions.{defined_named}
use Rattle.fact_kinds.specs.declared.fuel.Fuel.{Fuel}
use Rattle.fact_compound.specs.Asks.{AsksFor, Having}
use Rattle.fact_compound.specs.Code.{slot_types}
use Rattle.fact_compound.specs.Described.{DescribesAdapter, KnowsAdapterData}
use Rattle.fact_compound.specs.Events.{AreCallOptions}
use Rattle.fact_compound.specs.Keys.{AsksKeys, IsKeyOfAdapter, sync_asks}
use Rattle.fact_compound.specs.Translated.{IsFullFuel}
use Rattle.fact_compound.specs.Syncs.{IsSyncFunction, EmitsSync, EndsAsSync, WritesSync, lower_type_of}
use Rattle.fact_compound.specs.Written.{SyncPlaces, context_slots}
use Rattle.fact_compound.specs.declared.adapters.AdapterData.{AdapterData}
use Rattle.fact_compound.specs.declared.functions.AdapterLocals.{AdapterLocals}
use Rattle.fact_compound.specs.declared.syncs.CallOptions.{CallOptions}
use Rattle.fact_emit.specs.declared.context.ContextLocals.{ContextLocals}

-- ---- the locals

-- slots of these types, whose locals have the numbers from one on
abbrev pub slots_from : ℕ → List ValType → List Slot
slots_from n [] = []
slots_from n (t ∷ ts) = (n, t) ∷ slots_from (suc n) ts

-- Locals of these types were put behind the others, and are in use.
pub record AddedLocals (old new : Writer) (types : List ValType) (slots : List Slot) : Type 0 where
  pub code : new.code.items ≡ old.code.items
  pub imports : new.sections ≡ old.sections
  pub locals : new.locals.items ≡ old.locals.items ++ map used_local_of types
  pub slots_are : slots ≡ slots_from (length old.locals.items) types

-- the callee's parameters need no locals of their own where the adapter's are handed on as they are
abbrev pub unless_passed : (passed : Bool) → List ValType → List ValType
unless_passed false types = types
unless_passed true types = []

abbrev pub core_slots : (passed : Bool) → (params core : List Slot) → List Slot
core_slots false params core = core
core_slots true params core = params

-- the types of locals for the slots of the context, where these are looked at
abbrev pub context_types : (context : Bool) → List ValType
context_types false = []
context_types true = val.I32 ∷ val.I32 ∷ []

-- locals were added for the slots of the context, where these are looked at
pub record AddedContext (context : Bool) (old new : Writer) (c : ContextLocals) : Type 0 where
  pub added : AddedLocals old new (context_types context) (context_slots context c)

-- the locals of a sync adapter: of its arguments, of the saved flags of both sides, of the callee's parameters and results, of the
-- context that the callee leaves, of the adapter's results, and of its own context
abbrev pub sync_types : (passed context : Bool) → (lower lift : Signature) → List ValType
sync_types passed context lower lift =
    (lower.params ++ val.I32 ∷ val.I32 ∷ []) ++ (unless_passed passed lift.params ++ (lift.results ++ (context_types context ++ (lower.results ++ context_types context))))

abbrev pub added_slots : (context : Bool) → AdapterLocals → List Slot
added_slots context l =
    (slots_of_locals l.args.items ++ (l.saved, val.I32) ∷ (l.lift_saved, val.I32) ∷ [])
    ++ (slots_of_locals l.core.items ++ (slots_of_locals l.given.items ++ (context_slots context l.callee_context ++ (slots_of_locals l.results.items ++ context_slots context l.own_context))))

abbrev pub places_with : (passed : Bool) → AdapterLocals → (params : List Slot) → SyncPlaces
places_with passed l params = record {
  passed = passed;
  args = slots_of_locals l.args.items;
  params = params;
  saved = l.saved;
  lift_saved = l.lift_saved;
  core = core_slots passed params (slots_of_locals l.core.items);
  given = slots_of_locals l.given.items;
  results = slots_of_locals l.results.items;
  callee_context = l.callee_context;
  own_context = l.own_context;
}

pub record AddedSyncLocals (passed context : Bool) (old new : Writer) (lower lift : Signature) (l : AdapterLocals) : Type 0 where
  pub added : AddedLocals old new (sync_types passed context lower lift) (added_slots context l)
  pub args : slots_of_locals l.args.items ≡ slots_from (length old.locals.items) lower.params
  pub core_types : slot_types (slots_of_locals l.core.items) ≡ unless_passed passed lift.params
  pub given_types : slot_types (slots_of_locals l.given.items) ≡ lift.results
  pub results_types : slot_types (slots_of_locals l.results.items) ≡ lower.results

-- the arguments without the return pointer, which there is where results are not flat
abbrev pub params_among : (flat : Bool) → (args : List Slot) → List Slot
params_among true args = args
params_among false args = take (length args - 1) args

-- The code of a sync adapter was written over these locals, whatever the results of the lower side are.
pub record PutBody (t : Tables) (d : AdapterData) (debug : Bool) (o : CallOptions) (passed : Bool) (l : AdapterLocals) (before after : Fuel) (old new : Writer) : Type 0 where
  pub params : List Slot
  pub put : EmitsSync t d debug o (places_with passed l params) before after old new
  pub split : (ps rs : List Shape) → HasSignature t d.lower.ty ps rs → AreCounted (tuple_members rs) → (memory64 : Bool) → params ≡ params_among (is_some (flat_values memory64 1 rs)) (slots_of_locals l.args.items)

-- ---- the body

-- Code of a function whose first locals hold the arguments: it comes to what the adapter comes to, and is typed.
pub record DoesBody (u : AdapterTunables) (a : LinkedAdapter) (M : WasmModule) (p : ImportPlaces) (locals : List ValType) (code : List Instr) : Type 0 where
  pub does : (args : List CoreValue) (ls : Locals) → held_types ls ≡ locals → AreHeld ls (slots_from 0 (lower_signature_of a).params) args → EndsAsSync u a M p args ls code
  pub typed : IsTyped M locals [] code [] (OnStack (reverse (lower_signature_of a).results))

-- The body of a function was written, with its locals, by the core signatures of the two sides: it is that of every adapter that
-- the data describe and that has these signatures and asks for these calls.
pub record WroteBody (t : Tables) (d : AdapterData) (debug : Bool) (o : CallOptions) (lower lift : Signature) (before : Fuel) (old new : Writer) : Type 0 where
  pub imports : Extended old.sections new.sections
  pub once : AreOnce old.sections → AreOnce new.sections
  pub brought : Brought old.sections new.sections new.code.items
  pub params : Grows lower.params (types_of_locals new)
  pub numbers : AreNumberTypes (sync_types false false lower lift) → AreNumberTypes (types_of_locals new)
  pub asks : List AskedHelper
  pub asked : AsksFor t debug o.concurrency asks old.sections new.sections
  pub named : defined_named new.code.items ≡ map (λ (x : AskedHelper). x.number) asks
  pub keys : IsFullFuel before → (u : AdapterTunables) (a : LinkedAdapter) → DescribesAdapter t d debug u a → AllZip (IsKeyOfAdapter t d debug o.concurrency a) asks (sync_asks before.initial a)
  pub is : (u : AdapterTunables) (a : LinkedAdapter) → DescribesAdapter t d debug u a → AreCallOptions o u a → lower ≡ lower_signature_of a → lift ≡ lift_signature_of a
      → (M : WasmModule) (p : ImportPlaces) → Serves M p new.sections → HasHelpers M p asks → KnowsAdapterData M p d a → DoesBody u a M p (types_of_locals new) new.code.items

-- ---- the function

-- A function of this type was written.
pub record WroteFunction (t : Tables) (d : AdapterData) (debug : Bool) (o : CallOptions) (fuel : ℕ) (lower lift : Signature) (type_at : ℕ) (old new : ModuleSoFar) (f : WasmFunc) : Type 0 where
  pub ty : f.ty ≡ type_at
  pub imports : Extended old new
  pub once : AreOnce old → AreOnce new
  pub brought : Brought old new f.body
  pub asks : List AskedHelper
  pub asked : AsksFor t debug o.concurrency asks old new
  pub keys : (u : AdapterTunables) (a : LinkedAdapter) → DescribesAdapter t d debug u a → AsksKeys t d debug o.concurrency a asks f (sync_asks fuel a)
  pub is : (u : AdapterTunables) (a : LinkedAdapter) → DescribesAdapter t d debug u a → AreCallOptions o u a → lower ≡ lower_signature_of a → lift ≡ lift_signature_of a
      → (M : WasmModule) (p : ImportPlaces) → Serves M p new → HasHelpers M p asks → KnowsAdapterData M p d a → IsSyncFunction u a M p f

-- The function of a sync adapter stands behind the module's functions, and its export, under the adapter's name, behind the
-- exports. Before that its type was declared, and its code brought in functions of the runtime. It has the core type of every adapter that the data
-- describe, and is its function.
pub record CompiledSync (Has : Having) (t : Tables) (d : AdapterData) (debug concurrency exceptions : Bool) (old new : ModuleSoFar) : Type 0 where
  pub function : WasmFunc
  pub ty : FuncType
  pub declared : ModuleSoFar
  pub declares : HasType old declared ty
  pub written : ModuleSoFar
  pub brought : Brought declared written function.body
  pub is_last : new ≡ with_exported written d.name function
  pub functions : new.functions ≡ old.functions ++ function ∷ []
  pub exports : new.exports ≡ old.exports ++ export_as d.name (func.Defined (length old.functions)) ∷ []
  pub once : AreOnce old → AreOnce new
  pub typed : (u : AdapterTunables) (a : LinkedAdapter) → DescribesAdapter t d debug u a → slice_get new.types function.ty ≡ Some (lower_type_of a)
  pub writes : WritesSync Has t d debug concurrency exceptions old new function

-- The same, of code that asks for helpers, in modules that have these. With such fuel it asks for those that the adapter's translation asks for.
pub record AskingSync (t : Tables) (d : AdapterData) (debug concurrency exceptions : Bool) (fuel : ℕ) (old new : ModuleSoFar) : Type 0 where
  pub asks : List AskedHelper
  pub asked : AsksFor t debug concurrency asks old new
  pub compiled : CompiledSync (λ M p. HasHelpers M p asks) t d debug concurrency exceptions old new
  pub keys : (u : AdapterTunables) (a : LinkedAdapter) → DescribesAdapter t d debug u a → AsksKeys t d debug concurrency a asks compiled.function (sync_asks fuel a)
