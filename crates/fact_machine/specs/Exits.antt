-- How a stretch of code is left, whatever stands behind and around it: at its end, by a branch, by a throw, or with the run's
-- end; and what that makes of blocks, calls and whole runs (core specification, "Execution", "Instructions", "Blocks" and
-- "Function Calls").
use Rattle.std.specs.Prelude.{◌≡◌, ℕ, zero, suc, ◌+◌, ◌<◌, Bool, true, false, List, [], ◌∷◌, ◌++◌, length, map, reverse, Option, Some, None, slice_get}
use Rattle.fact_wasm.specs.declared.types.ValType.{ValType}
use Rattle.fact_wasm.specs.declared.types.FuncType.{FuncType}
use Rattle.fact_wasm.specs.declared.instr.BlockType.{BlockType}
use Rattle.fact_wasm.specs.declared.instr.BlockType.TheVariants.{Empty}
use Rattle.fact_wasm.specs.declared.instr.Instr.{Instr}
use Rattle.fact_wasm.specs.declared.instr.Instr.TheVariants as I
use Rattle.fact_wasm.specs.declared.module.WasmFunc.{WasmFunc}
use Rattle.fact_wasm.specs.declared.module.WasmModule.{WasmModule}
use Rattle.fact_machine.specs.declared.types.CoreValue.{CoreValue}
use Rattle.fact_machine.specs.declared.types.MachineState.{MachineState}
use Rattle.fact_machine.specs.declared.types.Answer.{Answer}
use Rattle.fact_machine.specs.declared.types.End.{End}
use Rattle.fact_machine.specs.declared.types.End.TheVariants.{Returned, Trapped, Thrown, Lacks, Going, Stuck}
use Rattle.fact_machine.specs.World.{World, Res, Done, Halt, Trap, Throw, Lack}
use Rattle.fact_machine.specs.Machine.{Around, At, Did, Goes, Ends, branch, throw, grab, block_arity, func_import, have_types, some_of, locals_of}
use Rattle.fact_machine.specs.Trace.{Reached, reached, reached_after, reach}

-- ---- how a stretch of code is left

-- at its end, by a branch to a label around it, by a throw, or with the run's end
pub data Exit : Type 0 where
  Falls : (w : World) (vs : List CoreValue) (ls : List (Option CoreValue)) → Exit
  Branches : (w : World) (l : ℕ) (vs : List CoreValue) (ls : List (Option CoreValue)) → Exit
  Throws : (w : World) (ls : List (Option CoreValue)) → Exit
  Halts : (e : End) (w : World) → Exit

-- where that leads
abbrev pub leads : Exit → List Instr → Around → Did
leads (Falls w vs ls) rest k = Goes (At w vs ls rest k)
leads (Branches w l vs ls) rest k = branch w l vs ls k
leads (Throws w ls) rest k = throw w ls k
leads (Halts e w) rest k = Ends e w

-- Whatever stands behind and around it, the code is left so after exactly m steps, and before that the run goes on.
pub record Leaves (M : WasmModule) (m : ℕ) (code : List Instr) (w : World) (vs : List CoreValue) (ls : List (Option CoreValue)) (x : Exit) : Type 0 where
  pub by : (rest : List Instr) (k : Around) (j : ℕ) → reach M (m + j) (At w vs ls (code ++ rest) k) ≡ reached_after (reach M j) (leads x rest k)
  pub going : (rest : List Instr) (k : Around) (n : ℕ) → n < m → (reach M n (At w vs ls (code ++ rest) k)).end ≡ Going

-- the world where it is left
abbrev pub exit_world : Exit → World
exit_world (Falls w vs ls) = w
exit_world (Branches w l vs ls) = w
exit_world (Throws w ls) = w
exit_world (Halts e w) = w

-- left before its end
abbrev pub IsEarly : Exit → Type 0
IsEarly (Falls w vs ls) = ⊥
IsEarly _ = Unit {0}

-- ---- blocks

-- a block of m parameters and n results, and a stack with its operands
pub record Enters (M : WasmModule) (bt : BlockType) (vs : List CoreValue) (m n : ℕ) (top below : List CoreValue) : Type 0 where
  pub arity : block_arity M.types bt ≡ Some (m, n)
  pub cut : grab m vs ≡ Some (top, below)

-- what an option gives, or a stuck end
abbrev pub or_halts : {A : Type 0} → World → Option A → (A → Exit) → Exit
or_halts w None go = Halts Stuck w
or_halts w (Some a) go = go a

-- how a block is left, by how its body is
abbrev pub block_exit : ℕ → List CoreValue → Exit → Exit
block_exit n below (Falls w vs ls) = Falls w (vs ++ below) ls
block_exit n below (Branches w zero vs ls) = or_halts w (grab n vs) (λ p. Falls w (p.0 ++ below) ls)
block_exit n below (Branches w (suc l) vs ls) = Branches w l vs ls
block_exit n below (Throws w ls) = Throws w ls
block_exit n below (Halts e w) = Halts e w

-- a throw at a block with these handlers
abbrev pub catch_exit : List ℕ → World → List (Option CoreValue) → Exit
catch_exit [] w ls = Throws w ls
catch_exit (l ∷ more) w ls = Branches w l [] ls

-- how a block with handlers is left, by how its body is
abbrev pub try_exit : ℕ → List ℕ → List CoreValue → Exit → Exit
try_exit n catches below (Throws w ls) = catch_exit catches w ls
try_exit n catches below x = block_exit n below x

-- not by a branch to the innermost label
abbrev pub IsOut : Exit → Type 0
IsOut (Branches w zero vs ls) = ⊥
IsOut _ = Unit {0}

-- code in empty blocks, each with the code behind it, the innermost first
abbrev pub nest : List (List Instr) → List Instr → List Instr
nest [] code = code
nest (behind ∷ more) code = nest more (I.Block Empty code ∷ behind)

-- ---- calls of the module's own functions

-- a function that is there, and arguments of its types
pub record Calls (M : WasmModule) (f : ℕ) (args : List CoreValue) (func : WasmFunc) (ty : FuncType) : Type 0 where
  pub func_is : slice_get M.funcs f ≡ Some func
  pub type_is : slice_get M.types func.ty ≡ Some ty
  pub typed : have_types args ty.params ≡ true

-- the locals of a function at its start
abbrev pub entry_locals : WasmFunc → List CoreValue → List (Option CoreValue)
entry_locals func args = map some_of args ++ locals_of func.locals

-- how a call is left whose body ends: with results of its types, or stuck
abbrev pub results_exit : Bool → World → Exit → Exit
results_exit true w x = x
results_exit false w x = Halts Stuck w

-- how a call is left, by how the function's body is
abbrev pub call_exit : List ValType → List CoreValue → List (Option CoreValue) → Exit → Exit
call_exit results below outer (Falls w vs ls) = results_exit (have_types (reverse vs) results) w (Falls w (vs ++ below) outer)
call_exit results below outer (Branches w zero vs ls) = or_halts w (grab (length results) vs) (λ p. results_exit (have_types (reverse p.0) results) w (Falls w (p.0 ++ below) outer))
call_exit results below outer (Branches w (suc l) vs ls) = Halts Stuck w
call_exit results below outer (Throws w ls) = Throws w outer
call_exit results below outer (Halts e w) = Halts e w

-- ---- calls of imported functions

-- an imported function that is there, and arguments of its types
pub record CallsImport (M : WasmModule) (f : ℕ) (args : List CoreValue) : Type 0 where
  pub type_at : ℕ
  pub ty : FuncType
  pub import_is : func_import M.imports f ≡ Some type_at
  pub type_is : slice_get M.types type_at ≡ Some ty
  pub typed : have_types args ty.params ≡ true

-- how code is left at a primitive, by what it comes to
abbrev pub res_exit : {A : Type 0} → Res A → List (Option CoreValue) → (A → World → Exit) → Exit
res_exit (Done a w) ls go = go a w
res_exit (Halt Trap w) ls go = Halts Trapped w
res_exit (Halt Throw w) ls go = Throws w ls
res_exit (Halt Lack w) ls go = Halts Lacks w

-- ---- whole runs

-- the world of a run at its start
abbrev pub first_world : MachineState → List Answer → World
first_world state answers = record { state = state; answers = answers; trace = [] }

-- the end of a body that ends in values
abbrev pub returned : Bool → World → List CoreValue → Reached
returned true w vs = reached (Returned (reverse vs)) w
returned false w vs = reached Stuck w

abbrev pub top_returned : List ValType → World → Option (List CoreValue × List CoreValue) → Reached
top_returned results w None = reached Stuck w
top_returned results w (Some p) = returned (have_types (reverse p.0) results) w p.0

-- how a run of a function with results of these types ends, by how its body is left
abbrev pub run_exit : List ValType → Exit → Reached
run_exit results (Falls w vs ls) = returned (have_types (reverse vs) results) w vs
run_exit results (Branches w zero vs ls) = top_returned results w (grab (length results) vs)
run_exit results (Branches w (suc l) vs ls) = reached Stuck w
run_exit results (Throws w ls) = reached Thrown w
run_exit results (Halts e w) = reached e w
