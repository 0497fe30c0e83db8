-- What an action comes to in a world of the machine.
use Rattle.std.specs.Prelude.{ℕ, ◌+◌, Bool, true, false, ◌&&◌, List, [], ◌∷◌, ◌++◌, length, Option, Some, None, slice_get}
use Rattle.fact_wasm.specs.declared.types.ValType.{ValType}
use Rattle.fact_types.specs.declared.outside.CoreDef.{CoreDef}
use Rattle.fact_machine.specs.declared.types.CoreValue.{CoreValue}
use Rattle.fact_machine.specs.declared.types.CoreValue.TheVariants.{I32}
use Rattle.fact_machine.specs.declared.types.MachineState.{MachineState}
use Rattle.fact_machine.specs.declared.types.Answer.{Answer}
use Rattle.fact_machine.specs.World.{World, Res, Done, Halt, Stop, Trap, read, write, outside, set_global}
use Rattle.fact_machine.specs.Typed.{are_values, are_memories, are_globals, is_grown}
use Rattle.fact_machine.specs.Machine.{i32_of}
use Rattle.fact_types.specs.declared.import.Import.{Import}
use Rattle.fact_actions.specs.Actions as action
use Rattle.fact_actions.specs.Actions.{Action}

-- Where a module has what actions name: the places of memories among its memories, of the flags of instances among its globals,
-- and of functions among its imported functions. Of each of its memories there is whether its addresses have 64 bits, and the
-- exponent of its page size where that is a custom one; and of each of its globals the type.
pub record ImportPlaces : Type 0 where
  pub memory : CoreDef → ℕ
  pub flags : (instance : ℕ) → ℕ
  pub function : Import → ℕ
  pub memory_types : List (Bool × Option ℕ)
  pub global_types : List ValType

-- A call that was made, named by its import: its arguments, the state before it, and the answer.
pub record Call : Type 0 where
  pub what : Import
  pub args : List CoreValue
  pub before : MachineState
  pub answer : Answer

-- How an action ends: it gives something, or stops, or goes astray at an answer that is not typed, of which nothing more is
-- said. Each end has the weight of the nodes that were moved, the calls that were made, and the world then.
pub data Ended (A : Type 0) : Type 0 where
  Gave : (weight : ℕ) (calls : List Call) → A → World → Ended A
  Halted : (weight : ℕ) (calls : List Call) → Stop → World → Ended A
  Strayed : (weight : ℕ) (calls : List Call) → World → Ended A

abbrev pub moved_weight : {A : Type 0} → Ended A → ℕ
moved_weight (Gave n cs a w) = n
moved_weight (Halted n cs s w) = n
moved_weight (Strayed n cs w) = n

abbrev pub calls_in : {A : Type 0} → Ended A → List Call
calls_in (Gave n cs a w) = cs
calls_in (Halted n cs s w) = cs
calls_in (Strayed n cs w) = cs

abbrev pub world_in : {A : Type 0} → Ended A → World
world_in (Gave n cs a w) = w
world_in (Halted n cs s w) = w
world_in (Strayed n cs w) = w

-- an end with more weight before it
abbrev pub heavier : {A : Type 0} → ℕ → Ended A → Ended A
heavier n (Gave m cs a w) = Gave (n + m) cs a w
heavier n (Halted m cs s w) = Halted (n + m) cs s w
heavier n (Strayed m cs w) = Strayed (n + m) cs w

-- an end with calls before it
abbrev pub later : {A : Type 0} → List Call → Ended A → Ended A
later cs (Gave n ds a w) = Gave n (cs ++ ds) a w
later cs (Halted n ds s w) = Halted n (cs ++ ds) s w
later cs (Strayed n ds w) = Strayed n (cs ++ ds) w

-- one end after another
abbrev pub then_ended : {A B : Type 0} → Ended A → (A → World → Ended B) → Ended B
then_ended (Gave n cs a w) f = heavier n (later cs (f a w))
then_ended (Halted n cs s w) f = Halted n cs s w
then_ended (Strayed n cs w) f = Strayed n cs w

-- ---- typed states and answers

-- whether a state has the memories and the globals of a module
abbrev pub is_state : ImportPlaces → MachineState → Bool
is_state p s = are_memories p.memory_types s.memories && are_globals p.global_types s.globals

-- whether an answer gives values of these types, and a state in which no memory is shorter than before
abbrev pub is_answer : ImportPlaces → List ValType → MachineState → List CoreValue → MachineState → Bool
is_answer p ts before results after = are_values results ts && (is_state p after && is_grown before.memories after.memories)

-- ---- what an action comes to

-- goes on where something is there
abbrev pub or_strayed : {A B : Type 0} → World → Option A → (A → Ended B) → Ended B
or_strayed w None f = Strayed 0 [] w
or_strayed w (Some a) f = f a

abbrev pub ended : {A B : Type 0} → Res A → (A → World → Ended B) → Ended B
ended (Done a w) f = f a w
ended (Halt s w) f = Halted 0 [] s w

-- what is done with an answer
abbrev pub if_typed : {B : Type 0} → Bool → World → Ended B → Ended B
if_typed true w e = e
if_typed false w e = Strayed 0 [] w

abbrev pub with_answer : {B : Type 0} → ImportPlaces → List ValType → World → Res (List CoreValue) → (List CoreValue → World → Ended B) → Ended B
with_answer p ts w r f = ended r (λ results w'. if_typed (is_answer p ts w.state results w'.state) w' (f results w'))

-- the call that is made where an answer is left, and nothing where none is
abbrev pub call_of : Import → List CoreValue → MachineState → List Answer → List Call
call_of i args state [] = []
call_of i args state (a ∷ more) = record { what = i; args = args; before = state; answer = a } ∷ []

abbrev pub run : {A : Type 0} → ImportPlaces → Action A → World → Ended A
run p (action.Give a) w = Gave 0 [] a w
run p (action.Visit n q) w = heavier n (run p q w)
run p (action.Read n m a k) w = or_strayed w (slice_get w.state.memories (p.memory m)) (λ bytes. ended (read n bytes a w) (λ x w'. run p (k x) w'))
run p (action.Write n m a x q) w = or_strayed w (slice_get w.state.memories (p.memory m)) (λ bytes. ended (write n (p.memory m) bytes a x w) (λ u w'. run p q w'))
run p (action.MemoryLength m k) w = or_strayed w (slice_get w.state.memories (p.memory m)) (λ bytes. run p (k (length bytes)) w)
run p (action.GetFlags i k) w = or_strayed w (slice_get w.state.globals (p.flags i)) (λ v. or_strayed w (i32_of v) (λ n. run p (k n) w))
run p (action.SetFlags i x q) w = or_strayed w (slice_get w.state.globals (p.flags i)) (λ v. run p q (set_global (p.flags i) (I32 x) w))
run p (action.Ask i args ts k) w = later (call_of i args w.state w.answers) (with_answer p ts w (outside (p.function i) args w) (λ rs w'. run p (k rs) w'))
run p action.Unreachable w = Halted 0 [] Trap w
