-- Laws of pieces of code: a function whose body does an action runs as that.
use Rattle.std.specs.Prelude.{◌≡◌, ◌↔◌, ℕ, true, IsTrue, List, [], reverse}
use Rattle.fact_wasm.specs.declared.types.ValType.{ValType}
use Rattle.fact_wasm.specs.declared.types.FuncType.{FuncType}
use Rattle.fact_wasm.specs.declared.module.WasmFunc.{WasmFunc}
use Rattle.fact_wasm.specs.declared.module.WasmModule.{WasmModule}
use Rattle.fact_machine.specs.declared.types.CoreValue.{CoreValue}
use Rattle.fact_machine.specs.declared.types.MachineState.{MachineState}
use Rattle.fact_machine.specs.declared.types.Answer.{Answer}
use Rattle.fact_machine.specs.Machine.{have_types}
use Rattle.fact_machine.specs.Typed.{TypedState, TypedAnswer}
use Rattle.fact_types.specs.declared.import.Import.{Import}
use Rattle.fact_actions.specs.Honest.{IsStraight}
use Rattle.fact_actions.specs.Laws.{Follows}
use Rattle.fact_actions.specs.Plain.{named_outcome}
use Rattle.fact_actions.specs.Running.{ImportPlaces, Call, Ended, is_state}
use Rattle.fact_actions.specs.TypedAnswers.{HasTypedAnswer}
use Rattle.fact_code_laws.specs.Does.{Locals, Onward, EndsSo}
use Rattle.fact_code_laws.specs.Knows.{NeededImport, KnowsFunction, Knows, ExtendsModule, ArePlacesOf}
use Rattle.fact_code_laws.specs.Runs.{RunsAs, IsPlainRun}
use Rattle.fact_machine.specs.Exits.{Calls, entry_locals, first_world}

-- ---- runs

-- values that a function may return
abbrev pub HaveResultTypes : FuncType → List CoreValue → Locals → Type 0
HaveResultTypes t vs ls = have_types vs t.results ≡ true

-- A function whose body ends so, with the results on the stack, runs so from every typed state, within the body's bound.
abbrev pub BodiesRun : Type 0
BodiesRun =
    (M : WasmModule) (p : ImportPlaces) (f : ℕ) (args : List CoreValue) (func : WasmFunc) (t : FuncType) (state : MachineState) (answers : List Answer) (extra spare : ℕ) (e : Ended (List CoreValue))
    → Calls M f args func t → is_state p state ≡ true → EndsSo M p Onward extra spare (first_world state answers) [] (entry_locals func args) func.body reverse (HaveResultTypes t) e
    → RunsAs M f args state answers extra spare (λ vs. vs) e

-- Behind typed answers its outcome is the named one of that end. An action's end follows its calls, and so it does with a barrier
-- around it.
abbrev pub BodiesArePlain : Type 0
BodiesArePlain =
    (M : WasmModule) (p : ImportPlaces) (f : ℕ) (args : List CoreValue) (func : WasmFunc) (t : FuncType) (state : MachineState) (answers : List Answer) (extra spare : ℕ) (e : Ended (List CoreValue))
    → Calls M f args func t → is_state p state ≡ true → EndsSo M p Onward extra spare (first_world state answers) [] (entry_locals func args) func.body reverse (HaveResultTypes t) e
    → Follows p (first_world state answers) e → IsStraight e → IsPlainRun M p f args state answers (named_outcome e)

-- ---- what is known

-- What code knows of a module it knows of every module that extends it.
abbrev pub KnownIsKept : Type 0
KnownIsKept = (M M' : WasmModule) (p p' : ImportPlaces) (asks : List NeededImport) → ExtendsModule M M' p p' → Knows M p asks → Knows M' p' asks

-- ---- what is typed

-- By the places of a module's memories and globals a state is typed exactly where it is a typed state of the module,
abbrev pub TypedStatesAgree : Type 0
TypedStatesAgree = (M : WasmModule) (p : ImportPlaces) (s : MachineState) → ArePlacesOf M p → IsTrue (is_state p s) ↔ TypedState M s

-- and so is an answer to a call of an import that code knows, with the results' types that it knows.
abbrev pub TypedAnswersAgree : Type 0
TypedAnswersAgree =
    (M : WasmModule) (p : ImportPlaces) (types : Import → List ValType) (c : Call) (place : ℕ) (params : List ValType)
    → ArePlacesOf M p → KnowsFunction M p c.what place params (types c.what) → HasTypedAnswer p types c ↔ TypedAnswer M place c.before c.answer
