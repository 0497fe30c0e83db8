-- A trace replayed: what its entries make of a state, one after another; and laws of what runs change (core specification,
-- "Execution", "Runtime Structure": the store; the trace is this project's).
use Rattle.std.specs.Prelude.{◌≡◌, ◌≤◌, ℕ, List, [], ◌∷◌, ◌++◌, Option, Some, None, slice_get, slice_set, fold}
use Rattle.fact_wasm.specs.declared.instr.Instr.{Instr}
use Rattle.fact_wasm.specs.declared.module.WasmModule.{WasmModule}
use Rattle.fact_machine.specs.declared.types.CoreValue.{CoreValue}
use Rattle.fact_machine.specs.declared.types.MachineState.{MachineState}
use Rattle.fact_machine.specs.declared.types.Answer.{Answer}
use Rattle.fact_machine.specs.declared.types.Answer.TheVariants.{Returns, Traps, Throws}
use Rattle.fact_machine.specs.declared.types.TraceEntry.{TraceEntry}
use Rattle.fact_machine.specs.declared.types.TraceEntry.TheVariants.{Called, Stored, GlobalSet}
use Rattle.fact_machine.specs.World.{World, with_number}
use Rattle.fact_machine.specs.Machine.{Around, At, run_of}
use Rattle.fact_machine.specs.Trace.{world_at, run_reach, trace_of}

-- what an answer makes of the state: one that returns leaves its own, a trap or a throw changes nothing
abbrev pub answered_state : MachineState → Answer → MachineState
answered_state s (Returns results after) = after
answered_state s Traps = s
answered_state s Throws = s

-- memories with a number of so many bytes written at an address of one of them, where that one is there
abbrev pub memories_with : ℕ → (memory address value : ℕ) → List (List ℕ) → List (List ℕ)
memories_with n memory address value memories =
    elim (slice_get memories memory) [ None ↦ memories | Some bytes ↦ slice_set memories memory (with_number n bytes address value) ]

-- what an entry of a trace makes of a state
abbrev pub replay_one : MachineState → TraceEntry → MachineState
replay_one s (Called e) = answered_state s e.answer
replay_one s (Stored memory address size value) = record { memories = memories_with size memory address value s.memories; globals = s.globals }
replay_one s (GlobalSet index value) = record { memories = s.memories; globals = slice_set s.globals index value }

-- what a trace makes of a state
abbrev pub replay : MachineState → List TraceEntry → MachineState
replay s es = fold replay_one s es

-- an outside call stands in the trace with this state before it
abbrev pub SeesState : MachineState → TraceEntry → Type 0
SeesState s (Called e) = e.before ≡ s
SeesState s (Stored memory address size value) = Unit {0}
SeesState s (GlobalSet index value) = Unit {0}

-- each outside call of a trace stands there with the state that all before it make
abbrev pub SeesReplay : MachineState → List TraceEntry → Type 0
SeesReplay s [] = Unit {0}
SeesReplay s (e ∷ es) = SeesState s e × SeesReplay (replay_one s e) es

-- What a world has become: its trace has some more, and its state is that more replayed, as each outside call saw it.
pub record Replays (old new : World) : Type 0 where
  pub more : List TraceEntry
  pub trace : new.trace ≡ old.trace ++ more
  pub state : new.state ≡ replay old.state more
  pub seen : SeesReplay old.state more

-- ---- laws

-- After any number of steps from anywhere on, the world is the first one with what came onto the trace replayed.
abbrev pub WorldIsReplayed : Type 0
WorldIsReplayed =
    (M : WasmModule) (n : ℕ) (w : World) (vs : List CoreValue) (ls : List (Option CoreValue)) (code : List Instr) (k : Around)
    → Replays w (world_at M n (At w vs ls code k))

-- So of a run between fewer steps and more.
abbrev pub LaterIsReplayed : Type 0
LaterIsReplayed =
    (M : WasmModule) (f : ℕ) (args : List CoreValue) (state : MachineState) (answers : List Answer) (n m : ℕ)
    → n ≤ m → Replays (run_reach M f args state answers n).world (run_reach M f args state answers m).world

-- So the state of a run is its first state with its trace replayed.
abbrev pub RunIsReplayed : Type 0
RunIsReplayed =
    (M : WasmModule) (f : ℕ) (args : List CoreValue) (state : MachineState) (answers : List Answer) (n : ℕ)
    → (run_of M f args state answers n).state ≡ replay state (trace_of M f args state answers n)

-- Each outside call of a run is logged with the first state and all of the trace before it replayed.
abbrev pub CallsSeeReplay : Type 0
CallsSeeReplay =
    (M : WasmModule) (f : ℕ) (args : List CoreValue) (state : MachineState) (answers : List Answer) (n : ℕ)
    → SeesReplay state (trace_of M f args state answers n)

-- What is replayed of a trace is replayed part by part.
abbrev pub ReplaysAdd : Type 0
ReplaysAdd = (s : MachineState) (a b : List TraceEntry) → replay s (a ++ b) ≡ replay (replay s a) b
