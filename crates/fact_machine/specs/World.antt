-- What a run sees and changes outside its own frames, and the primitives on it.
use Rattle.std.specs.Prelude.{ℕ, zero, suc, ◌+◌, ◌*◌, ◌/◌, ◌%◌, ◌^◌, List, [], ◌∷◌, ◌++◌, length, take, drop, slice_set, nat_le, if◌then◌else◌}
use Rattle.fact_machine.specs.declared.types.CoreValue.{CoreValue}
use Rattle.fact_machine.specs.declared.types.MachineState.{MachineState}
use Rattle.fact_machine.specs.declared.types.Answer.{Answer}
use Rattle.fact_machine.specs.declared.types.Answer.TheVariants.{Returns, Traps, Throws}
use Rattle.fact_machine.specs.declared.types.Event.{Event}
use Rattle.fact_machine.specs.declared.types.TraceEntry.{TraceEntry}
use Rattle.fact_machine.specs.declared.types.TraceEntry.TheVariants.{Called, Stored, GlobalSet}

-- The state, the answers that are left, and all that happened so far: outside calls, memory writes and global sets, in order. A load is not in the
-- trace: it changes nothing that the outside could see.
pub record World : Type 0 where
  pub state : MachineState
  pub answers : List Answer
  pub trace : List TraceEntry

-- the outside calls of a trace
abbrev pub calls : List TraceEntry → List Event
calls [] = []
calls (Called e ∷ es) = e ∷ calls es
calls (Stored memory address size value ∷ es) = calls es
calls (GlobalSet index value ∷ es) = calls es

abbrev pub log_of : World → List Event
log_of w = calls w.trace

-- why a primitive does not go on
pub data Stop : Type 0 where
  Trap : Stop
  Throw : Stop
  Lack : Stop

-- what a primitive comes to
pub data Res (A : Type 0) : Type 0 where
  Done : A → World → Res A
  Halt : Stop → World → Res A

-- the next answer, with the call in the trace
abbrev pub answered : Event → World → List Answer → Answer → Res (List CoreValue)
answered e w more (Returns results state) = Done results (record { state = state; answers = more; trace = w.trace ++ Called e ∷ [] })
answered e w more Traps = Halt Trap (record { state = w.state; answers = more; trace = w.trace ++ Called e ∷ [] })
answered e w more Throws = Halt Throw (record { state = w.state; answers = more; trace = w.trace ++ Called e ∷ [] })

abbrev pub asked : ℕ → List CoreValue → World → List Answer → Res (List CoreValue)
asked f args w [] = Halt Lack w
asked f args w (a ∷ more) = answered (record { func = f; args = args; before = w.state; answer = a }) w more a

-- a call of the nth imported function: it takes the next answer, and is logged with the state before it
abbrev pub outside : ℕ → List CoreValue → World → Res (List CoreValue)
outside f args w = asked f args w w.answers

-- the n lowest bytes of a number, the lowest first
abbrev pub bytes_of : ℕ → ℕ → List ℕ
bytes_of zero value = []
bytes_of (suc n) value = (value % 256) ∷ bytes_of n (value / 256)

-- the number that bytes make, the lowest first
abbrev pub number_of : List ℕ → ℕ
number_of [] = 0
number_of (b ∷ bs) = b + 256 * number_of bs

-- the bytes from an address on, behind which others stand
abbrev pub put_at : List ℕ → ℕ → List ℕ → List ℕ
put_at memory address bytes = take address memory ++ (bytes ++ drop (address + length bytes) memory)

abbrev pub set_global : ℕ → CoreValue → World → World
set_global index value w = record {
  state = record { memories = w.state.memories; globals = slice_set w.state.globals index value };
  answers = w.answers;
  trace = w.trace ++ GlobalSet index value ∷ [];
}

-- a memory with bytes put at an address
abbrev pub set_memory : ℕ → List ℕ → World → List TraceEntry → World
set_memory index memory w trace = record {
  state = record { memories = slice_set w.state.memories index memory; globals = w.state.globals };
  answers = w.answers;
  trace = trace;
}

-- the number that the n bytes at an address make
abbrev pub number_at : ℕ → List ℕ → ℕ → ℕ
number_at n memory address = number_of (take n (drop address memory))

-- a memory with the n lowest bytes of a number at an address
abbrev pub with_number : ℕ → List ℕ → ℕ → ℕ → List ℕ
with_number n memory address value = put_at memory address (bytes_of n value)

-- a read of n bytes of a memory; it traps where they are not all there
abbrev pub read : ℕ → List ℕ → ℕ → World → Res ℕ
read n memory address w = if nat_le (address + n) (length memory) then Done (number_at n memory address) w else Halt Trap w

-- the world after a write of the n lowest bytes of a number
abbrev pub written : ℕ → ℕ → List ℕ → ℕ → ℕ → World → World
written n index memory address value w = set_memory index (with_number n memory address value) w (w.trace ++ Stored index address n (value % 256 ^ n) ∷ [])

-- a write of the n lowest bytes of a number; it traps where there is no room for all, and then changes nothing
abbrev pub write : ℕ → ℕ → List ℕ → ℕ → ℕ → World → Res (Unit {0})
write n index memory address value w = if nat_le (address + n) (length memory) then Done tt (written n index memory address value w) else Halt Trap w
