-- What is said of the functions of async adapters between two instances.
use Rattle.std.specs.Prelude.{◌≡◌, ℕ, suc, Bool, true, List, [], ◌∷◌, ◌++◌, Some, is_some, length, map, reverse, slice_get}
use Rattle.std.specs.List.{AllZip}
use Rattle.fact_wasm.specs.CoreTypes.{signature}
use Rattle.fact_wasm.specs.declared.instr.Instr.{Instr}
use Rattle.fact_wasm.specs.declared.module.WasmFunc.{WasmFunc}
use Rattle.fact_wasm.specs.declared.module.WasmModule.{WasmModule}
use Rattle.fact_wasm.specs.declared.types.ValType.{ValType}
use Rattle.fact_wasm.specs.declared.types.ValType.TheVariants as val
use Rattle.fact_machine.specs.Exits.{entry_locals}
use Rattle.fact_machine.specs.Trace.{Grows}
use Rattle.fact_machine.specs.Typed.{are_values}
use Rattle.fact_machine.specs.Typing.{is_typed_function}
use Rattle.fact_machine.specs.declared.types.CoreValue.{CoreValue}
use Rattle.fact_types.specs.Adapters.{LinkedAdapter, is_wide}
use Rattle.fact_types.specs.FlatShapes.{AreCounted}
use Rattle.fact_types.specs.Functions.{HasSignature}
use Rattle.fact_types.specs.Shapes.{Shape}
use Rattle.fact_types.specs.Signatures.{async_return_signature, async_start_signature, flat_params, lift_results_limit, lower_pointer}
use Rattle.fact_types.specs.Tables.{Tables}
use Rattle.fact_types.specs.Tuples.{tuple_members}
use Rattle.fact_types.specs.declared.signature.Signature.{Signature}
use Rattle.fact_actions.specs.Adapters.{AdapterTunables, lowered_flats, start_params}
use Rattle.fact_actions.specs.Running.{ImportPlaces}
use Rattle.fact_code_laws.specs.Does.{Locals, Onward, Does, held_types}
use Rattle.fact_code_laws.specs.PieceLaws.{HaveResultTypes}
use Rattle.fact_code_laws.specs.Places.{AreHeld, AreLocals, AreUsed, Slot}
use Rattle.fact_code_laws.specs.Typed.{OnStack, IsTyped}
use Rattle.fact_emit.specs.Brought.{Brought}
use Rattle.fact_emit.specs.Asked.{AskedHelper, HasHelpers}
use Rattle.fact_emit.specs.Emits.{EmitsAsking, GrewAsking}
use Rattle.fact_emit.specs.Imports.{AreOnce, Extended, Serves}
use Rattle.fact_emit.specs.Places.{AreDistinctSlots}
use Rattle.fact_emit.specs.States.{ModuleSoFar, with_callee}
use Rattle.fact_emit.specs.Writers.{AreNumberTypes, taken_in, types_of_locals}
use Rattle.fact_emit.specs.declared.writer.Writer.{Writer}
use Rattle.fact_emit.specs.NamedFunctions.{defined_named}
use Rattle.fact_kinds.specs.declared.fuel.Fuel.{Fuel}
use Rattle.fact_compound.specs.Asks.{AsksFor, Having}
use Rattle.fact_compound.specs.AsyncParts.{PartSlots, callee_name, part_action, part_name, part_type}
use Rattle.fact_compound.specs.Code.{slot_types}
use Rattle.fact_compound.specs.Described.{DescribesTransfers, KnowsAdapterData, side_sig}
use Rattle.fact_compound.specs.Entries.{CompiledEntry}
use Rattle.fact_compound.specs.Functions.{params_among, slots_from}
use Rattle.fact_compound.specs.Keys.{AsksKeys, IsKeyOfAdapter, PartsAskKeys, TranslatesPart, part_asks}
use Rattle.fact_compound.specs.Puts.{PutsFunction}
use Rattle.fact_compound.specs.Translated.{IsFullFuel}
use Rattle.fact_compound.specs.declared.adapters.AdapterData.{AdapterData}
use Rattle.fact_compound.specs.declared.asyncs.AsyncPart.{AsyncPart}
use Rattle.fact_compound.specs.declared.asyncs.AsyncPart.TheVariants as part

-- ---- functions that move values

-- In a module that has what the function asks for its body does what that part of the adapter does, for typed arguments: it leaves what it
-- gives on the stack, in at most 1,000 steps, and 900 for each unit of weight. Its operands have their types.
pub record IsPartFunction (x : AsyncPart) (u : AdapterTunables) (a : LinkedAdapter) (M : WasmModule) (p : ImportPlaces) (f : WasmFunc) : Type 0 where
  pub does : (args : List CoreValue) → are_values args (part_type x a).params ≡ true
      → Does M p Onward 1000 0 [] (entry_locals f args) f.body (part_action x u a args) reverse (HaveResultTypes (part_type x a))
  pub typed : slice_get M.types f.ty ≡ Some (part_type x a) → is_typed_function M f ≡ true

-- ---- the body as it is written

-- the place of the flags that are 0 meanwhile: those of the instance that values go to
abbrev pub part_flags : AsyncPart → AdapterData → ℕ
part_flags part.Start d = d.lift.flags.number
part_flags part.Return d = d.lower.flags.number

-- which of the arguments are values: all parameters, and of results all but the return pointer
abbrev pub values_among : Tables → AdapterData → AsyncPart → (args values : List Slot) → Type 0
values_among t d part.Start args values = values ≡ args
values_among t d part.Return args values =
    (ps rs : List Shape) → HasSignature t d.lower.ty ps rs → AreCounted (tuple_members rs) → (memory64 : Bool) → values ≡ params_among (is_some (lowered_flats d.lower.options.async_ memory64 rs)) args

-- the core types of the values, and of the return pointer behind them
abbrev pub value_types : AsyncPart → LinkedAdapter → List ValType
value_types part.Start a = start_params a
value_types part.Return a = flat_params (is_wide a.lift.memory) (lift_results_limit a.lift.async_side) a.lift.results

abbrev pub pointer_types : AsyncPart → LinkedAdapter → List ValType
pointer_types part.Start a = []
pointer_types part.Return a = lower_pointer a.lower.async_side (is_wide a.lower.memory) a.lower.results

-- Locals of such a function that have the types of its signature, are in use, and of which none stands twice.
pub record HasPartLocals (x : AsyncPart) (a : LinkedAdapter) (l : PartSlots) (taken : ℕ → Bool) (locals : List ValType) : Type 0 where
  pub rest : List Slot
  pub args : l.args ≡ l.values ++ rest
  pub values_types : slot_types l.values ≡ value_types x a
  pub rest_types : slot_types rest ≡ pointer_types x a
  pub given_types : slot_types l.given ≡ (part_type x a).results
  pub typed : AreLocals locals (l.args ++ (l.saved, val.I32) ∷ l.given)
  pub used : AreUsed taken (l.args ++ (l.saved, val.I32) ∷ l.given)
  pub distinct : AreDistinctSlots (l.args ++ (l.saved, val.I32) ∷ l.given)

-- In a module in which the adapter's parts have their places, and a function with these locals, the code does that part of the adapter with
-- the arguments that its locals hold. It is typed, with what it gives on the stack.
pub record DoesPart (x : AsyncPart) (u : AdapterTunables) (a : LinkedAdapter) (d : AdapterData) (l : PartSlots) (taken : ℕ → Bool) (M : WasmModule) (p : ImportPlaces) (locals : List ValType) (code : List Instr) : Type 0 where
  pub does : KnowsAdapterData M p d a → HasPartLocals x a l taken locals → (args : List CoreValue) (ls : Locals) → held_types ls ≡ locals → AreHeld ls l.args args
      → Does M p Onward 1000 0 [] ls code (part_action x u a args) reverse (HaveResultTypes (part_type x a))
  pub typed : KnowsAdapterData M p d a → HasPartLocals x a l taken locals → IsTyped M locals [] code [] (OnStack (reverse (part_type x a).results))

-- Code was written that does so, for every adapter whose transfers the data describe, with concurrency on or off.
pub record EmitsPart (t : Tables) (d : AdapterData) (debug concurrency : Bool) (x : AsyncPart) (l : PartSlots) (before after : Fuel) (old new : Writer) : Type 0 where
  pub asks : List AskedHelper
  pub translated : TranslatesPart x t d debug concurrency before after asks
  pub grew : GrewAsking asks old new
  pub asked : AsksFor t debug concurrency asks old.sections new.sections
  pub emits : (u : AdapterTunables) (a : LinkedAdapter) → DescribesTransfers t d debug u a → u.concurrency ≡ concurrency → EmitsAsking asks old new (DoesPart x u a d l (taken_in old))

-- ---- the function as it is written

-- the core signature of that part of the adapter that the data describe
abbrev pub PartSignature : Tables → AdapterData → AsyncPart → Signature → Type 0
PartSignature t d part.Start s =
    (ps rs qs ss : List Shape) → HasSignature t d.lower.ty ps rs → HasSignature t d.lift.ty qs ss → s ≡ async_start_signature (side_sig d.lower) (side_sig d.lift) ps qs
PartSignature t d part.Return s =
    (ps rs qs ss : List Shape) → HasSignature t d.lower.ty ps rs → HasSignature t d.lift.ty qs ss → s ≡ async_return_signature (side_sig d.lower) (side_sig d.lift) rs ss

-- Code of a function whose first locals hold the arguments does that part of the adapter, and is typed.
pub record DoesPartBody (x : AsyncPart) (u : AdapterTunables) (a : LinkedAdapter) (M : WasmModule) (p : ImportPlaces) (locals : List ValType) (code : List Instr) : Type 0 where
  pub does : (args : List CoreValue) (ls : Locals) → held_types ls ≡ locals → AreHeld ls (slots_from 0 (part_type x a).params) args
      → Does M p Onward 1000 0 [] ls code (part_action x u a args) reverse (HaveResultTypes (part_type x a))
  pub typed : IsTyped M locals [] code [] (OnStack (reverse (part_type x a).results))

-- The body of a function was written, with its locals, by its core signature.
pub record WroteBodyOfPart (t : Tables) (d : AdapterData) (debug concurrency : Bool) (x : AsyncPart) (s : Signature) (before : Fuel) (old new : Writer) : Type 0 where
  pub imports : Extended old.sections new.sections
  pub once : AreOnce old.sections → AreOnce new.sections
  pub brought : Brought old.sections new.sections new.code.items
  pub params : Grows s.params (types_of_locals new)
  pub numbers : AreNumberTypes (s.params ++ s.results) → AreNumberTypes (types_of_locals new)
  pub asks : List AskedHelper
  pub asked : AsksFor t debug concurrency asks old.sections new.sections
  pub named : defined_named new.code.items ≡ map (λ (a : AskedHelper). a.number) asks
  pub keys : IsFullFuel before → (u : AdapterTunables) (a : LinkedAdapter) → DescribesTransfers t d debug u a → AllZip (IsKeyOfAdapter t d debug concurrency a) asks (part_asks x before.initial a)
  pub is : (u : AdapterTunables) (a : LinkedAdapter) → DescribesTransfers t d debug u a → u.concurrency ≡ concurrency → signature s.params s.results ≡ part_type x a
      → (M : WasmModule) (p : ImportPlaces) → Serves M p new.sections → HasHelpers M p asks → KnowsAdapterData M p d a → DoesPartBody x u a M p (types_of_locals new) new.code.items

-- A function of this type was written.
pub record WrotePart (t : Tables) (d : AdapterData) (debug concurrency : Bool) (fuel : ℕ) (x : AsyncPart) (s : Signature) (type_at : ℕ) (old new : ModuleSoFar) (f : WasmFunc) : Type 0 where
  pub ty : f.ty ≡ type_at
  pub imports : Extended old new
  pub once : AreOnce old → AreOnce new
  pub brought : Brought old new f.body
  pub asks : List AskedHelper
  pub asked : AsksFor t debug concurrency asks old new
  pub keys : (u : AdapterTunables) (a : LinkedAdapter) → DescribesTransfers t d debug u a → AsksKeys t d debug concurrency a asks f (part_asks x fuel a)
  pub is : (u : AdapterTunables) (a : LinkedAdapter) → DescribesTransfers t d debug u a → u.concurrency ≡ concurrency → signature s.params s.results ≡ part_type x a
      → (M : WasmModule) (p : ImportPlaces) → Serves M p new → HasHelpers M p asks → KnowsAdapterData M p d a → IsPartFunction x u a M p f

-- It was put into a module, under its name. It has the core type of every adapter whose transfers the data describe, and is its function in
-- every later module that has what was imported so far, and what else its code wants, and in which the adapter's own parts have their places.
pub record CompiledPart (Has : Having) (t : Tables) (d : AdapterData) (debug concurrency : Bool) (x : AsyncPart) (old new : ModuleSoFar) : Type 0 where
  pub function : WasmFunc
  pub puts : PutsFunction (part_name x d.name) old new function
  pub once : AreOnce old → AreOnce new
  pub typed : (u : AdapterTunables) (a : LinkedAdapter) → DescribesTransfers t d debug u a → slice_get new.types function.ty ≡ Some (part_type x a)
  pub is : (u : AdapterTunables) (a : LinkedAdapter) → DescribesTransfers t d debug u a → u.concurrency ≡ concurrency → (M : WasmModule) (p : ImportPlaces) → Serves M p new → Has M p → KnowsAdapterData M p d a → IsPartFunction x u a M p function

-- ---- all three functions

-- The three functions of an async adapter stand behind the module's functions, in this order, their exports behind the exports, and that of
-- the callee behind those of callees.
pub record CompiledAsync (Has : Having) (t : Tables) (d : AdapterData) (debug concurrency : Bool) (old new : ModuleSoFar) : Type 0 where
  pub started : ModuleSoFar
  pub returned : ModuleSoFar
  pub entered : ModuleSoFar
  pub start : CompiledPart Has t d debug concurrency part.Start old started
  pub return : CompiledPart Has t d debug concurrency part.Return started returned
  pub entry : CompiledEntry t d (length old.functions) (suc (length old.functions)) returned entered
  pub callee : new ≡ with_callee entered (callee_name d.name) d.callee.number

-- ---- with the helpers that they ask for

-- A function that moves values, whose code asks for helpers, in modules that have these. With such fuel it asks for those that the translation of these values
-- asks for.
pub record AskingPart (t : Tables) (d : AdapterData) (debug concurrency : Bool) (fuel : ℕ) (x : AsyncPart) (old new : ModuleSoFar) : Type 0 where
  pub asks : List AskedHelper
  pub asked : AsksFor t debug concurrency asks old new
  pub compiled : CompiledPart (λ M p. HasHelpers M p asks) t d debug concurrency x old new
  pub keys : (u : AdapterTunables) (a : LinkedAdapter) → DescribesTransfers t d debug u a → AsksKeys t d debug concurrency a asks compiled.function (part_asks x fuel a)

-- All three.
pub record AskingAsync (t : Tables) (d : AdapterData) (debug concurrency : Bool) (fuel : ℕ) (old new : ModuleSoFar) : Type 0 where
  pub asks : List AskedHelper
  pub asked : AsksFor t debug concurrency asks old new
  pub compiled : CompiledAsync (λ M p. HasHelpers M p asks) t d debug concurrency old new
  pub keys : PartsAskKeys t d debug concurrency fuel asks compiled.start.function compiled.return.function
