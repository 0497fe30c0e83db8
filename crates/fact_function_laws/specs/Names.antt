-- Where a module has what actions name, and which calls the events of its runs are.
use Rattle.std.specs.Prelude.{◌≡◌, List, [], Some}
use Rattle.std.specs.List.{AllZip}
use Rattle.fact_wasm.specs.declared.instr.FuncName.TheVariants as func
use Rattle.fact_wasm.specs.declared.module.WasmModule.{WasmModule}
use Rattle.fact_machine.specs.declared.types.Event.{Event}
use Rattle.fact_types.specs.declared.import.Import.{Import}
use Rattle.fact_actions.specs.Running.{ImportPlaces, Call}
use Rattle.fact_emit.specs.ImportSection.{imported_function}
use Rattle.fact_emit.specs.PlacesOf.{import_places}
use Rattle.fact_emit.specs.States.{ModuleSoFar}

-- a module, whose import section names these imports
abbrev pub finished : WasmModule → List Import → ModuleSoFar
finished m is = record { types = m.types; section = m.imports; imports = is; functions = m.funcs; exports = m.exports; callees = []; helpers = []; numbered = 0 }

-- the places at which it has what is imported
abbrev pub places_in : WasmModule → List Import → ImportPlaces
places_in m is = import_places (finished m is)

-- An event is this call: the function of its number is imported as what is called.
pub record IsCall (m : WasmModule) (is : List Import) (e : Event) (c : Call) : Type 0 where
  pub what : imported_function m is (func.Import e.func) ≡ Some c.what
  pub args : c.args ≡ e.args
  pub before : c.before ≡ e.before
  pub answer : c.answer ≡ e.answer

-- the events of a log are these calls, one by one
abbrev pub AreCalls : WasmModule → List Import → List Event → List Call → Type 0
AreCalls m is log calls = AllZip (IsCall m is) log calls

-- each event of a log is a call of something that is imported
pub record IsNamedLog (m : WasmModule) (is : List Import) (log : List Event) : Type 0 where
  pub calls : List Call
  pub are_calls : AreCalls m is log calls
