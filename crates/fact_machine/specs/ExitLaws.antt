-- Laws of stretches of code: how they are left one after another, in blocks, in calls and as whole runs.
use Rattle.std.specs.Prelude.{◌≡◌, ◌≢◌, ℕ, suc, ◌+◌, ◌<◌, ◌≤◌, List, [], ◌∷◌, ◌++◌, length, reverse, Option, Some}
use Rattle.fact_wasm.specs.declared.types.FuncType.{FuncType}
use Rattle.fact_wasm.specs.declared.instr.BlockType.{BlockType}
use Rattle.fact_wasm.specs.declared.instr.FuncName.TheVariants.{Import, Defined}
use Rattle.fact_wasm.specs.declared.instr.Instr.{Instr, out-Instr}
use Rattle.fact_wasm.specs.declared.instr.Instr.TheVariants as I
use Rattle.fact_wasm.specs.declared.module.WasmFunc.{WasmFunc}
use Rattle.fact_wasm.specs.declared.module.WasmModule.{WasmModule}
use Rattle.fact_machine.specs.declared.types.CoreValue.{CoreValue}
use Rattle.fact_machine.specs.declared.types.CoreValue.TheVariants.{I32}
use Rattle.fact_machine.specs.declared.types.MachineState.{MachineState}
use Rattle.fact_machine.specs.declared.types.Answer.{Answer}
use Rattle.fact_machine.specs.declared.types.End.TheVariants.{Going}
use Rattle.fact_machine.specs.World.{World, outside}
use Rattle.fact_machine.specs.Machine.{Around, act, grab, or_empty, run_of}
use Rattle.fact_machine.specs.Trace.{run_reach}
use Rattle.fact_machine.specs.Replay.{Replays}
use Rattle.fact_machine.specs.Exits.{Exit, Falls, Branches, leads, Leaves, exit_world, IsEarly, Enters, block_exit, try_exit, IsOut, nest, Calls, entry_locals, call_exit, CallsImport, res_exit, first_world, run_exit}

-- ---- code in a row

-- No code is left at its end at once.
abbrev pub NothingLeaves : Type 0
NothingLeaves = (M : WasmModule) (w : World) (vs : List CoreValue) (ls : List (Option CoreValue)) → Leaves M 0 [] w vs ls (Falls w vs ls)

-- One instruction is left after one step, as its row says.
abbrev pub InstructionLeaves : Type 0
InstructionLeaves =
    (M : WasmModule) (i : Instr) (w : World) (vs : List CoreValue) (ls : List (Option CoreValue)) (x : Exit)
    → ((rest : List Instr) (k : Around) → act M (out-Instr i) w vs ls rest k ≡ leads x rest k) → Leaves M 1 (i ∷ []) w vs ls x

-- Where a stretch is left at its end, another one behind it begins there, and the steps add up.
abbrev pub SequenceLeaves : Type 0
SequenceLeaves =
    (M : WasmModule) (m n : ℕ) (a b : List Instr) (w w' : World) (vs vs' : List CoreValue) (ls ls' : List (Option CoreValue)) (x : Exit)
    → Leaves M m a w vs ls (Falls w' vs' ls') → Leaves M n b w' vs' ls' x → Leaves M (m + n) (a ++ b) w vs ls x

-- Where a stretch is left before its end, no code behind it is run.
abbrev pub EarlyLeaves : Type 0
EarlyLeaves =
    (M : WasmModule) (m : ℕ) (a b : List Instr) (w : World) (vs : List CoreValue) (ls : List (Option CoreValue)) (x : Exit)
    → IsEarly x → Leaves M m a w vs ls x → Leaves M m (a ++ b) w vs ls x

-- ---- blocks

-- A block is left as its body is, one step later: what stood below its operands comes under what it gives, and a branch to its
-- label goes on behind it.
abbrev pub BlockLeaves : Type 0
BlockLeaves =
    (M : WasmModule) (bt : BlockType) (body : List Instr) (w : World) (vs : List CoreValue) (ls : List (Option CoreValue)) (m n : ℕ) (top below : List CoreValue) (t : ℕ) (x : Exit)
    → Enters M bt vs m n top below → Leaves M t body w top ls x → Leaves M (suc t) (I.Block bt body ∷ []) w vs ls (block_exit n below x)

-- A condition that is not 0 takes the first body, and one that is 0 the second.
abbrev pub ThenLeaves : Type 0
ThenLeaves =
    (M : WasmModule) (bt : BlockType) (body : List Instr) (other : Option (List Instr)) (w : World) (vs : List CoreValue) (ls : List (Option CoreValue)) (m n : ℕ) (top below : List CoreValue) (c t : ℕ) (x : Exit)
    → c ≢ 0 → Enters M bt vs m n top below → Leaves M t body w top ls x → Leaves M (suc t) (I.If bt body other ∷ []) w (I32 c ∷ vs) ls (block_exit n below x)

abbrev pub ElseLeaves : Type 0
ElseLeaves =
    (M : WasmModule) (bt : BlockType) (body : List Instr) (other : Option (List Instr)) (w : World) (vs : List CoreValue) (ls : List (Option CoreValue)) (m n : ℕ) (top below : List CoreValue) (t : ℕ) (x : Exit)
    → Enters M bt vs m n top below → Leaves M t (or_empty other) w top ls x → Leaves M (suc t) (I.If bt body other ∷ []) w (I32 0 ∷ vs) ls (block_exit n below x)

-- A block with handlers is left as a block, but a throw in it is a branch to its first handler's label.
abbrev pub TryLeaves : Type 0
TryLeaves =
    (M : WasmModule) (bt : BlockType) (catches : List ℕ) (body : List Instr) (w : World) (vs : List CoreValue) (ls : List (Option CoreValue)) (m n : ℕ) (top below : List CoreValue) (t : ℕ) (x : Exit)
    → Enters M bt vs m n top below → Leaves M t body w top ls x → Leaves M (suc t) (I.TryTable bt catches body ∷ []) w vs ls (try_exit n catches below x)

-- A loop is left as a block where its body does not branch to it.
abbrev pub LoopLeaves : Type 0
LoopLeaves =
    (M : WasmModule) (bt : BlockType) (body : List Instr) (w : World) (vs : List CoreValue) (ls : List (Option CoreValue)) (m n : ℕ) (top below : List CoreValue) (t : ℕ) (x : Exit)
    → Enters M bt vs m n top below → IsOut x → Leaves M t body w top ls x → Leaves M (suc t) (I.Loop bt body ∷ []) w vs ls (block_exit n below x)

-- Where its body branches to it, it begins again with its parameters, and is left as it is from then on.
abbrev pub LoopBeginsAgain : Type 0
LoopBeginsAgain =
    (M : WasmModule) (bt : BlockType) (body : List Instr) (w w' : World) (vs us : List CoreValue) (ls ls' : List (Option CoreValue)) (m n : ℕ) (top below taken dropped : List CoreValue) (t u : ℕ) (x : Exit)
    → Enters M bt vs m n top below → Leaves M t body w top ls (Branches w' 0 us ls') → grab m us ≡ Some (taken, dropped) → Leaves M u (I.Loop bt body ∷ []) w' (taken ++ below) ls' x
    → Leaves M (suc t + u) (I.Loop bt body ∷ []) w vs ls x

-- A branch out of nested blocks leaves them all, and what stands behind each is not run.
abbrev pub NestLeaves : Type 0
NestLeaves =
    (blocks : List (List Instr)) (M : WasmModule) (t : ℕ) (code : List Instr) (w w' : World) (l : ℕ) (us : List CoreValue) (ls ls' : List (Option CoreValue))
    → Leaves M t code w [] ls (Branches w' (length blocks + l) us ls') → Leaves M (length blocks + t) (nest blocks code) w [] ls (Branches w' l us ls')

-- ---- calls

-- A call of a function of the module is left as its body is, one step later, with the caller's locals and the stack below the
-- arguments.
abbrev pub CallLeaves : Type 0
CallLeaves =
    (M : WasmModule) (f : ℕ) (args : List CoreValue) (func : WasmFunc) (ty : FuncType) (w : World) (vs : List CoreValue) (ls : List (Option CoreValue)) (t : ℕ) (x : Exit)
    → Calls M f args func ty → Leaves M t func.body w [] (entry_locals func args) x → Leaves M (suc t) (I.Call (Defined f) ∷ []) w (reverse args ++ vs) ls (call_exit ty.results vs ls x)

-- A call of an imported function is left after one step, as the outside answers.
abbrev pub OutsideCallLeaves : Type 0
OutsideCallLeaves =
    (M : WasmModule) (f : ℕ) (args : List CoreValue) (w : World) (vs : List CoreValue) (ls : List (Option CoreValue))
    → CallsImport M f args → Leaves M 1 (I.Call (Import f) ∷ []) w (reverse args ++ vs) ls (res_exit (outside f args w) ls (λ results w'. Falls w' (reverse results ++ vs) ls))

-- ---- whole runs

-- how the body of a run's function is left
pub record RunLeaves (M : WasmModule) (f : ℕ) (args : List CoreValue) (state : MachineState) (answers : List Answer) (func : WasmFunc) (ty : FuncType) (t : ℕ) (x : Exit) : Type 0 where
  pub calls : Calls M f args func ty
  pub leaves : Leaves M t func.body (first_world state answers) [] (entry_locals func args) x

-- From the step on at which its body is left a run is what that comes to, and before it the run goes on.
abbrev pub RunEnds : Type 0
RunEnds =
    (M : WasmModule) (f : ℕ) (args : List CoreValue) (state : MachineState) (answers : List Answer) (func : WasmFunc) (ty : FuncType) (t : ℕ) (x : Exit) (n : ℕ)
    → RunLeaves M f args state answers func ty t x → t ≤ n → run_reach M f args state answers n ≡ run_exit ty.results x

abbrev pub RunGoesOn : Type 0
RunGoesOn =
    (M : WasmModule) (f : ℕ) (args : List CoreValue) (state : MachineState) (answers : List Answer) (func : WasmFunc) (ty : FuncType) (t : ℕ) (x : Exit) (n : ℕ)
    → RunLeaves M f args state answers func ty t x → n < t → (run_of M f args state answers n).end ≡ Going

-- ---- what a stretch changes

-- Where a stretch is left, its world is the first one with what came onto the trace replayed.
abbrev pub StretchIsReplayed : Type 0
StretchIsReplayed =
    (M : WasmModule) (m : ℕ) (code : List Instr) (w : World) (vs : List CoreValue) (ls : List (Option CoreValue)) (x : Exit)
    → Leaves M m code w vs ls x → Replays w (exit_world x)
