-- What the ends Going and Lacks come from: the steps that a run takes, and the answers that it was given.
use Rattle.std.specs.Prelude.{ℕ, zero, suc, List, map}
use Rattle.fact_wasm.specs.declared.module.WasmModule.{WasmModule}
use Rattle.fact_machine.specs.declared.types.CoreValue.{CoreValue}
use Rattle.fact_machine.specs.declared.types.MachineState.{MachineState}
use Rattle.fact_machine.specs.declared.types.Answer.{Answer}
use Rattle.fact_machine.specs.declared.types.Event.{Event}
use Rattle.fact_machine.specs.Machine.{Config, Did, Goes, Ends, Next, Begins, Finished, Breaks, next, begin, start}

abbrev pub taken_after : (Config → ℕ) → Did → ℕ
taken_after go (Goes c) = go c
taken_after go (Ends e w) = 0

-- beginning an instruction is one step
abbrev pub taken_from : WasmModule → (Config → ℕ) → Next → ℕ
taken_from M go (Begins w vs locals i rest k) = suc (taken_after go (begin M (Begins w vs locals i rest k)))
taken_from M go (Finished w vs) = 0
taken_from M go (Breaks w) = 0

-- how many steps are taken, of at most n
abbrev pub taken : WasmModule → ℕ → Config → ℕ
taken M zero c = 0
taken M (suc n) c = taken_from M (taken M n) (next c)

-- how many steps a run takes, of at most n
abbrev pub steps_of : WasmModule → ℕ → List CoreValue → MachineState → List Answer → ℕ → ℕ
steps_of M f args state answers n = taken_after (taken M n) (start M f args state answers)

-- the answers of outside calls
abbrev pub answers_of : List Event → List Answer
answers_of log = map (λ e. e.answer) log
