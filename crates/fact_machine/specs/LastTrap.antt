-- An outside call that is answered by a trap is the last of a run.
use Rattle.std.specs.Prelude.{◌≡◌, ℕ, List, [], ◌∷◌}
use Rattle.fact_wasm.specs.declared.module.WasmModule.{WasmModule}
use Rattle.fact_machine.specs.declared.types.CoreValue.{CoreValue}
use Rattle.fact_machine.specs.declared.types.MachineState.{MachineState}
use Rattle.fact_machine.specs.declared.types.Answer.{Answer}
use Rattle.fact_machine.specs.declared.types.Answer.TheVariants.{Traps}
use Rattle.fact_machine.specs.declared.types.Event.{Event}
use Rattle.fact_machine.specs.Machine.{run_of}

abbrev pub TrapIsLast : List Event → Type 0
TrapIsLast [] = Unit {0}
TrapIsLast (e ∷ es) = (e.answer ≡ Traps → es ≡ []) × TrapIsLast es

-- So it is in every run.
abbrev pub TrapsAreLast : Type 0
TrapsAreLast = (M : WasmModule) (f : ℕ) (args : List CoreValue) (state : MachineState) (answers : List Answer) (n : ℕ) → TrapIsLast (run_of M f args state answers n).log
