-- Runs with all that the outside can see of them. An outcome has the outside calls of the trace alone.
use Rattle.std.specs.Prelude.{◌≡◌, ℕ, zero, suc, List, ◌++◌, reverse}
use Rattle.fact_wasm.specs.declared.module.WasmModule.{WasmModule}
use Rattle.fact_machine.specs.declared.types.CoreValue.{CoreValue}
use Rattle.fact_machine.specs.declared.types.MachineState.{MachineState}
use Rattle.fact_machine.specs.declared.types.Answer.{Answer}
use Rattle.fact_machine.specs.declared.types.TraceEntry.{TraceEntry}
use Rattle.fact_machine.specs.declared.types.End.{End}
use Rattle.fact_machine.specs.declared.types.End.TheVariants.{Returned, Going, Stuck}
use Rattle.fact_machine.specs.declared.types.Outcome.{Outcome}
use Rattle.fact_machine.specs.World.{World}
use Rattle.fact_machine.specs.Machine.{Config, Did, Goes, Ends, Next, Begins, Finished, Breaks, next, begin, outcome, start}

-- how a run stands: its end, and the world then with the whole trace
pub record Reached : Type 0 where
  pub end : End
  pub world : World

abbrev pub reached : End → World → Reached
reached e w = record { end = e; world = w }

-- what an outcome shows of it
abbrev pub outcome_of : Reached → Outcome
outcome_of r = outcome r.end r.world

abbrev pub reached_at_rest : Next → Reached
reached_at_rest (Begins w vs locals i rest k) = reached Going w
reached_at_rest (Finished w vs) = reached (Returned (reverse vs)) w
reached_at_rest (Breaks w) = reached Stuck w

abbrev pub reached_after : (Config → Reached) → Did → Reached
reached_after go (Goes c) = go c
reached_after go (Ends e w) = reached e w

-- What at most n steps reach, by the recursion of `exec`.
abbrev pub reach : WasmModule → ℕ → Config → Reached
reach M zero c = reached_at_rest (next c)
reach M (suc n) c = reached_after (reach M n) (begin M (next c))

-- the world after at most n steps
abbrev pub world_at : WasmModule → ℕ → Config → World
world_at M n c = (reach M n c).world

-- what a run of the nth function that the module defines reaches, and its trace
abbrev pub run_reach : WasmModule → ℕ → List CoreValue → MachineState → List Answer → ℕ → Reached
run_reach M f args state answers n = reached_after (reach M n) (start M f args state answers)

abbrev pub trace_of : WasmModule → ℕ → List CoreValue → MachineState → List Answer → ℕ → List TraceEntry
trace_of M f args state answers n = (run_reach M f args state answers n).world.trace

-- one list begins with another
pub record Grows {A : Type 0} (a b : List A) : Type 0 where
  pub more : List A
  pub is : b ≡ a ++ more
