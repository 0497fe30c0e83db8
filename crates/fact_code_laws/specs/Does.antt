-- What is said of a piece of code: that in a module it does an action, whatever stands behind it and around it.
use Rattle.std.specs.Prelude.{◌≡◌, ℕ, ◌+◌, ◌*◌, ◌≤◌, true, List, ◌∷◌, ◌++◌, map, Option, Some, None}
use Rattle.fact_wasm.specs.declared.types.ValType.{ValType}
use Rattle.fact_wasm.specs.declared.types.ValType.TheVariants as val
use Rattle.fact_wasm.specs.declared.instr.Instr.{Instr}
use Rattle.fact_wasm.specs.declared.module.WasmModule.{WasmModule}
use Rattle.fact_machine.specs.declared.types.CoreValue.{CoreValue}
use Rattle.fact_machine.specs.declared.types.End.TheVariants.{Trapped, Lacks}
use Rattle.fact_machine.specs.World.{World, Stop, Trap, Throw, Lack}
use Rattle.fact_machine.specs.Machine.{Around, At, type_of}
use Rattle.fact_machine.specs.Trace.{world_at}
use Rattle.fact_actions.specs.Actions.{Action}
use Rattle.fact_actions.specs.Running.{ImportPlaces, Ended, Gave, Halted, Strayed, is_state, run}
use Rattle.fact_machine.specs.Exits.{Exit, Falls, Branches, Throws, Halts, Leaves}

abbrev pub Locals : Type 0
Locals = List (Option CoreValue)

-- ---- locals

-- the type of what a local holds; one that holds nothing yet is of the reference type
abbrev pub held_type : Option CoreValue → ValType
held_type None = val.FuncRef
held_type (Some v) = type_of v

abbrev pub held_types : Locals → List ValType
held_types ls = map held_type ls

-- ---- ways out of code

-- code that has done its action is left at its end, or by a branch to a label around it
pub data Way : Type 0 where
  Onward : Way
  Outward : (label : ℕ) → Way

-- With these operands on those that stood below. A branch drops what stands below in its own blocks, so other operands may
-- stand there.
abbrev pub exit : Way → World → (outs below under : List CoreValue) → Locals → Exit
exit Onward w outs below under ls = Falls w (outs ++ below) ls
exit (Outward l) w outs below under ls = Branches w l (outs ++ under) ls

-- a trap halts, a throw is a throw, and a lack halts
abbrev pub stop_exit : Stop → World → Locals → Exit
stop_exit Trap w ls = Halts Trapped w
stop_exit Throw w ls = Throws w ls
stop_exit Lack w ls = Halts Lacks w

-- ---- how a piece of code ends

-- The action has given a value: the code has taken so many steps, within its bound, and what is said of the value and the
-- locals holds. A bound is 900 steps for each unit of weight, and `extra` steps, of which `spare` are not taken.
pub record GivesValue {A : Type 0} (M : WasmModule) (p : ImportPlaces) (way : Way) (extra spare : ℕ) (w : World) (vs : List CoreValue) (ls : Locals) (code : List Instr) (below : List CoreValue)
    (out : A → List CoreValue) (Holds : A → Locals → Type 0) (weight : ℕ) (a : A) (w' : World) : Type 0 where
  pub steps : ℕ
  pub locals : Locals
  pub under : List CoreValue
  pub holds : Holds a locals
  pub typed : is_state p w'.state ≡ true
  pub bound : steps + spare ≤ extra + 900 * weight
  pub leaves : Leaves M steps code w vs ls (exit way w' (out a) below under locals)

-- the action has stopped
pub record Stops (M : WasmModule) (p : ImportPlaces) (w : World) (vs : List CoreValue) (ls : Locals) (code : List Instr) (s : Stop) (w' : World) : Type 0 where
  pub steps : ℕ
  pub locals : Locals
  pub typed : is_state p w'.state ≡ true
  pub leaves : Leaves M steps code w vs ls (stop_exit s w' locals)

-- the action has gone astray, and the machine reaches that world
pub record Strays (M : WasmModule) (w : World) (vs : List CoreValue) (ls : Locals) (code : List Instr) (w' : World) : Type 0 where
  pub steps : ℕ
  pub by : (rest : List Instr) (k : Around) → world_at M steps (At w vs ls (code ++ rest) k) ≡ w'

abbrev pub EndsBy : {A : Type 0} → WasmModule → ImportPlaces → Way → (extra spare : ℕ) → World → List CoreValue → Locals → List Instr → List CoreValue → (A → List CoreValue) → (A → Locals → Type 0) → Ended A → Type 0
EndsBy M p way extra spare w vs ls code below out Holds (Gave weight calls a w') = GivesValue M p way extra spare w vs ls code below out Holds weight a w'
EndsBy M p way extra spare w vs ls code below out Holds (Halted weight calls s w') = Stops M p w vs ls code s w'
EndsBy M p way extra spare w vs ls code below out Holds (Strayed weight calls w') = Strays M w vs ls code w'

-- How code ends at a stack of operands, by how its action does.
pub record EndsOn {A : Type 0} (M : WasmModule) (p : ImportPlaces) (way : Way) (extra spare : ℕ) (w : World) (vs : List CoreValue) (ls : Locals) (code : List Instr) (below : List CoreValue)
    (out : A → List CoreValue) (Holds : A → Locals → Type 0) (e : Ended A) : Type 0 where
  pub by : EndsBy M p way extra spare w vs ls code below out Holds e

-- In a world whose state is typed, above any operands and with these locals, the code takes the operands `ins` and ends so.
pub record EndsSo {A : Type 0} (M : WasmModule) (p : ImportPlaces) (way : Way) (extra spare : ℕ) (w : World) (ins : List CoreValue) (ls : Locals) (code : List Instr)
    (out : A → List CoreValue) (Holds : A → Locals → Type 0) (e : Ended A) : Type 0 where
  pub by : is_state p w.state ≡ true → (below : List CoreValue) → EndsOn M p way extra spare w (ins ++ below) ls code below out Holds e

-- In any world whose state is typed, above any operands and with these locals, the code takes the operands `ins` and does the
-- action. Then the operands `out a` stand in their place, and what is said of `a` and the locals holds.
pub record Does {A : Type 0} (M : WasmModule) (p : ImportPlaces) (way : Way) (extra spare : ℕ) (ins : List CoreValue) (ls : Locals) (code : List Instr) (q : Action A)
    (out : A → List CoreValue) (Holds : A → Locals → Type 0) : Type 0 where
  pub by : (w : World) → EndsSo M p way extra spare w ins ls code out Holds (run p q w)

-- Code that pushes a value, changes nothing else and takes so many steps.
pub record PushesValue (M : WasmModule) (steps : ℕ) (ls : Locals) (code : List Instr) (v : CoreValue) : Type 0 where
  pub by : (w : World) (vs : List CoreValue) → Leaves M steps code w vs ls (Falls w (v ∷ vs) ls)
