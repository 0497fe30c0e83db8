-- The functions of adapters within one instance.
use Rattle.std.specs.Prelude.{◌≡◌, ◌<◌, ℕ, true, List, [], ◌∷◌, ◌++◌, Some, length, reverse, slice_get}
use Rattle.fact_wasm.specs.declared.instr.FuncName.TheVariants as func
use Rattle.fact_wasm.specs.declared.module.WasmFunc.{WasmFunc}
use Rattle.fact_wasm.specs.declared.module.WasmModule.{WasmModule}
use Rattle.fact_wasm.specs.declared.types.FuncType.{FuncType}
use Rattle.fact_types.specs.Adapters.{LinkedAdapter, is_wide}
use Rattle.fact_types.specs.Functions.{HasSignature}
use Rattle.fact_types.specs.Tables.{Tables}
use Rattle.fact_types.specs.declared.outside.Trap.TheVariants.{CannotEnterComponent}
use Rattle.fact_machine.specs.Exits.{entry_locals}
use Rattle.fact_machine.specs.Typed.{are_values}
use Rattle.fact_machine.specs.Typing.{is_typed_function}
use Rattle.fact_machine.specs.declared.types.CoreValue.{CoreValue}
use Rattle.fact_actions.specs.Adapters.{lower_signature_of, same_instance}
use Rattle.fact_actions.specs.Running.{ImportPlaces}
use Rattle.fact_code_laws.specs.Code.{trap_code}
use Rattle.fact_code_laws.specs.Does.{Onward, Does}
use Rattle.fact_code_laws.specs.PieceLaws.{HaveResultTypes}
use Rattle.fact_emit.specs.Brought.{Brought}
use Rattle.fact_compound.specs.Asks.{AreNewAsked}
use Rattle.fact_emit.specs.Imports.{AreOnce, Extended, Serves}
use Rattle.fact_emit.specs.States.{HasType, IsTrapImported, ModuleSoFar, export_as, with_exported}
use Rattle.fact_compound.specs.Syncs.{lower_type_of}
use Rattle.fact_compound.specs.declared.adapters.AdapterData.{AdapterData}

-- ---- when it is written

-- the lower side of an adapter: its function type, whether it is async, and the width of its memory's addresses
pub record DescribesLower (t : Tables) (d : AdapterData) (a : LinkedAdapter) : Type 0 where
  pub signature : HasSignature t d.lower.ty a.lower.params a.lower.results
  pub wide : is_wide a.lower.memory ≡ d.lower.options.linear.memory64
  pub mark : a.lower.async_side ≡ d.lower.options.async_

-- ---- the function

-- In a module that has what the function asks for its body does what an adapter within one instance does: it calls one trap. And it is
-- typed.
pub record IsSameInstanceFunction (a : LinkedAdapter) (M : WasmModule) (p : ImportPlaces) (f : WasmFunc) : Type 0 where
  pub does : (args : List CoreValue) → are_values args (lower_signature_of a).params ≡ true → Does M p Onward 1 0 [] (entry_locals f args) f.body same_instance reverse (HaveResultTypes (lower_type_of a))
  pub typed : slice_get M.types f.ty ≡ Some (lower_type_of a) → is_typed_function M f ≡ true

-- A function of this type was made that calls the trap and has no locals. Before that the trap was imported.
pub record TrapFunction (type_at : ℕ) (old new : ModuleSoFar) (f : WasmFunc) : Type 0 where
  pub place : ℕ
  pub imported : IsTrapImported old new CannotEnterComponent place
  pub imports : Extended old new
  pub once : AreOnce old → AreOnce new
  pub serves : (M : WasmModule) (p : ImportPlaces) → Serves M p new → (a : LinkedAdapter) → IsSameInstanceFunction a M p f
  pub ty : f.ty ≡ type_at
  pub locals : f.locals ≡ []
  pub body : f.body ≡ trap_code place

-- The function stands behind the module's functions, and its export, under the adapter's name, behind the exports. Before that its
-- type was declared and its trap imported, which alone it calls. It has the core type of every adapter whose lower side the data describe.
pub record CompiledSameInstance (t : Tables) (d : AdapterData) (old new : ModuleSoFar) : Type 0 where
  pub function : WasmFunc
  pub ty : FuncType
  pub declared : ModuleSoFar
  pub declares : HasType old declared ty
  pub written : ModuleSoFar
  pub brought : Brought declared written function.body
  pub place : ℕ
  pub body : function.body ≡ trap_code place
  pub is_last : new ≡ with_exported written d.name function
  pub functions : new.functions ≡ old.functions ++ function ∷ []
  pub exports : new.exports ≡ old.exports ++ export_as d.name (func.Defined (length old.functions)) ∷ []
  pub imports : Extended old new
  pub none_asked : length old.functions < old.numbered → AreNewAsked [] old new
  pub once : AreOnce old → AreOnce new
  pub typed : (a : LinkedAdapter) → DescribesLower t d a → slice_get new.types function.ty ≡ Some (lower_type_of a)
  pub is : (a : LinkedAdapter) → DescribesLower t d a → (M : WasmModule) (p : ImportPlaces) → Serves M p new → IsSameInstanceFunction a M p function
