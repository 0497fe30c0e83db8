-- What typing promises of runs (core specification, "Appendix", "Soundness"): whatever the outside answers, as long as it answers by
-- the types of the imports, a run of a well typed module always has a rule that applies.
use Rattle.std.specs.Prelude.{◌≡◌, ◌≢◌, ℕ, true, List, [], ◌∷◌, Option, Some, None, All}
use Rattle.std.specs.List.{AllZip}
use Rattle.fact_wasm.specs.declared.types.FuncType.{FuncType}
use Rattle.fact_wasm.specs.declared.module.WasmModule.{WasmModule}
use Rattle.fact_machine.specs.declared.types.CoreValue.{CoreValue}
use Rattle.fact_machine.specs.declared.types.MachineState.{MachineState}
use Rattle.fact_machine.specs.declared.types.Answer.{Answer}
use Rattle.fact_machine.specs.declared.types.Event.{Event}
use Rattle.fact_machine.specs.declared.types.End.TheVariants.{Stuck}
use Rattle.fact_machine.specs.Machine.{run_of, takes}
use Rattle.fact_machine.specs.Typed.{IsValue, TypedState, TypedAnswer, type_of_import}
use Rattle.fact_machine.specs.Typing.{typed_module}
use Rattle.fact_check.specs.Constants.{AreBits, HasTypedConstants}

-- each answer in a log is one that its import may give
abbrev pub HasTypedAnswers : WasmModule → List Event → Type 0
HasTypedAnswers m log = All (λ e. TypedAnswer m e.func e.before e.answer) log

-- No run of a function that the module defines, on arguments of its types, from a typed state, is stuck after any number of steps,
-- where all that was answered so far is typed.
abbrev pub IsNeverStuck : WasmModule → Type 0
IsNeverStuck m =
    (f : ℕ) (args : List CoreValue) (state : MachineState) (answers : List Answer) (steps : ℕ)
    → takes m f args ≡ true → TypedState m state → HasTypedAnswers m (run_of m f args state answers steps).log → (run_of m f args state answers steps).end ≢ Stuck

abbrev pub WellTypedIsNeverStuck : Type 0
WellTypedIsNeverStuck = (m : WasmModule) → typed_module m ≡ true → IsNeverStuck m

-- ---- what the outside sees

-- arguments of the types of an imported function
abbrev pub AreArguments : Option FuncType → List CoreValue → Type 0
AreArguments None vs = ⊥
AreArguments (Some t) vs = AllZip (λ v t. IsValue v t) vs t.params

-- Each call in a log sees a typed state and is told arguments of its import's types, where the calls before were answered by typed answers.
abbrev pub SeeTyped : WasmModule → List Event → Type 0
SeeTyped m [] = Unit {0}
SeeTyped m (e ∷ es) = TypedState m e.before × AreArguments (type_of_import m e.func) e.args × (TypedAnswer m e.func e.before e.answer → SeeTyped m es)

-- So it is in every run from a typed state, on arguments and with constants whose bits are as many as their types have.
abbrev pub RunsSeeTyped : Type 0
RunsSeeTyped =
    (m : WasmModule) (f : ℕ) (args : List CoreValue) (state : MachineState) (answers : List Answer) (steps : ℕ)
    → HasTypedConstants m → AreBits args → TypedState m state → SeeTyped m (run_of m f args state answers steps).log
