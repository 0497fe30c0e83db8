-- The lengths of memories in a run: no step changes them, only the outside does.
use Rattle.std.specs.Prelude.{◌≡◌, ℕ, List, [], ◌∷◌, length, map}
use Rattle.fact_wasm.specs.declared.module.WasmModule.{WasmModule}
use Rattle.fact_machine.specs.declared.types.CoreValue.{CoreValue}
use Rattle.fact_machine.specs.declared.types.MachineState.{MachineState}
use Rattle.fact_machine.specs.declared.types.Answer.{Answer}
use Rattle.fact_machine.specs.declared.types.Answer.TheVariants.{Returns, Traps, Throws}
use Rattle.fact_machine.specs.declared.types.Event.{Event}
use Rattle.fact_machine.specs.Machine.{run_of}

abbrev pub lengths_of : MachineState → List ℕ
lengths_of s = map length s.memories

-- behind an answer
abbrev pub lengths_behind : List ℕ → Answer → List ℕ
lengths_behind lengths (Returns results after) = lengths_of after
lengths_behind lengths Traps = lengths
lengths_behind lengths Throws = lengths

-- behind outside calls, one after another
abbrev pub lengths_after : List ℕ → List Event → List ℕ
lengths_after lengths [] = lengths
lengths_after lengths (e ∷ es) = lengths_after (lengths_behind lengths e.answer) es

-- each outside call sees the lengths that the answers before it left
abbrev pub SeeLengths : List ℕ → List Event → Type 0
SeeLengths lengths [] = Unit {0}
SeeLengths lengths (e ∷ es) = (lengths_of e.before ≡ lengths) × SeeLengths (lengths_behind lengths e.answer) es

-- So it is in every run.
abbrev pub LengthsStay : Type 0
LengthsStay = (M : WasmModule) (f : ℕ) (args : List CoreValue) (state : MachineState) (answers : List Answer) (n : ℕ) → SeeLengths (lengths_of state) (run_of M f args state answers n).log
