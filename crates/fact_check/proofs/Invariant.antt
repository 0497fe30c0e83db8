-- Machines that are typed: what stands around the code, and the code, its operands and its locals.
use Rattle.std.proofs.Common.{◌≡◌, ℕ, ◌/◌, Bool, true, false, ◌&&◌, List, [], ◌∷◌, ◌++◌, Option, Some, None, length, reverse, slice_get}
use Rattle.std.specs.List.{list_all}
use Rattle.fact_wasm.specs.declared.types.ValType.{ValType}
use Rattle.fact_wasm.specs.declared.instr.Instr.{Instr}
use Rattle.fact_wasm.specs.declared.module.WasmModule.{WasmModule}
use Rattle.fact_machine.specs.declared.types.CoreValue.{CoreValue}
use Rattle.fact_machine.specs.declared.types.MachineState.{MachineState}
use Rattle.fact_machine.specs.declared.types.End.{End}
use Rattle.fact_machine.specs.declared.types.End.TheVariants.{Stuck}
use Rattle.fact_machine.specs.World.{World, log_of}
use Rattle.fact_machine.specs.Machine.{Around, Bottom, Label, Frame, Config, At, Did, Goes, Ends, Next, Begins, Finished, Breaks, has_type, have_types, page_bytes, memory_import}
use Rattle.fact_machine.specs.Typed.{FitsWidth}
use Rattle.fact_machine.specs.Typing.{Known, ends, Context, is_catch, code_typing, global_import}
use Rattle.fact_check.specs.Soundness.{HasTypedAnswers}

-- ---- states

-- a memory that is there, no larger than its addresses and its numbers of pages tell
pub record HasMemory (s : MachineState) (n : ℕ) (kind : Bool × Option ℕ) : Type 0 where
  pub bytes : List ℕ
  pub there : slice_get s.memories n ≡ Some bytes
  pub fits : FitsWidth kind.0 (length bytes) (length bytes / page_bytes kind.1)

-- a global that is there, of a type
pub record HasGlobal (s : MachineState) (n : ℕ) (t : ValType) : Type 0 where
  pub value : CoreValue
  pub there : slice_get s.globals n ≡ Some value
  pub typed : has_type value t ≡ true

-- a state has what the module imports
pub record Has (M : WasmModule) (s : MachineState) : Type 0 where
  pub memory : (n : ℕ) (kind : Bool × Option ℕ) → memory_import M.imports n ≡ Some kind → HasMemory s n kind
  pub global : (n : ℕ) (g : ValType × Bool) → global_import M.imports n ≡ Some g → HasGlobal s n g.0

-- ---- code

-- each local holds a value of its type
abbrev pub have_locals : List (Option CoreValue) → List ValType → Bool
have_locals [] [] = true
have_locals (None ∷ ls) (t ∷ ts) = false
have_locals (Some v ∷ ls) (t ∷ ts) = has_type v t && have_locals ls ts
have_locals [] (t ∷ ts) = false
have_locals (l ∷ ls) [] = false

abbrev pub context : WasmModule → List ValType → List (List ValType) → Context
context M locals labels = record { whole = M; locals = locals; labels = labels }

-- code that ends in these results, behind operands of these types
abbrev pub Behind : WasmModule → (locals : List ValType) → (labels : List (List ValType)) → List Instr → (operands gives : List ValType) → Type 0
Behind M locals labels code operands gives = ends gives (code_typing (context M locals labels) code (Known operands)) ≡ true

-- a label to which a branch takes values of these types, around code that ends in those
pub record InLabel (M : WasmModule) (locals takes : List ValType) (labels : List (List ValType)) (gives : List ValType) (arity : ℕ) (below : List CoreValue) (to rest : List Instr) (catches : List ℕ) (Outer : List ValType → Type 0) : Type 0 where
  pub many : length takes ≡ arity
  pub outer_gives : List ValType
  pub below_types : List ValType
  pub below_typed : have_types below below_types ≡ true
  pub at_branch : Behind M locals labels to (reverse takes ++ below_types) outer_gives
  pub at_end : Behind M locals labels rest (reverse gives ++ below_types) outer_gives
  pub caught : list_all (is_catch (context M locals labels)) catches ≡ true
  pub outer : Outer outer_gives

-- a call around code that ends in its results
pub record InFrame (M : WasmModule) (gives results : List ValType) (locals : List (Option CoreValue)) (below : List CoreValue) (rest : List Instr) (Outer : List ValType → List (List ValType) → List ValType → Type 0) : Type 0 where
  pub same : gives ≡ results
  pub outer_locals : List ValType
  pub outer_labels : List (List ValType)
  pub outer_gives : List ValType
  pub locals_typed : have_locals locals outer_locals ≡ true
  pub below_types : List ValType
  pub below_typed : have_types below below_types ≡ true
  pub at_end : Behind M outer_locals outer_labels rest (reverse results ++ below_types) outer_gives
  pub outer : Outer outer_locals outer_labels outer_gives

-- What stands around code with locals of these types, in these labels, that ends in those results.
abbrev pub IsAround : WasmModule → Around → (locals : List ValType) → (labels : List (List ValType)) → (gives : List ValType) → Type 0
IsAround M Bottom locals [] gives = Unit {0}
IsAround M Bottom locals (l ∷ ls) gives = ⊥
IsAround M (Label arity below to rest catches k) locals [] gives = ⊥
IsAround M (Label arity below to rest catches k) locals (l ∷ ls) gives = InLabel M locals l ls gives arity below to rest catches (λ outer. IsAround M k locals ls outer)
IsAround M (Frame results ls below rest k) locals [] gives = InFrame M gives results ls below rest (λ ts labels outer. IsAround M k ts labels outer)
IsAround M (Frame results ls below rest k) locals (l ∷ more) gives = ⊥

-- What is around an instruction: the state, the locals, and what stands around it.
pub record Stands (M : WasmModule) (w : World) (ls : List (Option CoreValue)) (k : Around) (locals : List ValType) (labels : List (List ValType)) (gives : List ValType) : Type 0 where
  pub state : Has M w.state
  pub holds : have_locals ls locals ≡ true
  pub around : IsAround M k locals labels gives

-- a machine that is typed
pub record IsTypedAt (M : WasmModule) (w : World) (vs : List CoreValue) (ls : List (Option CoreValue)) (code : List Instr) (k : Around) : Type 0 where
  pub locals : List ValType
  pub labels : List (List ValType)
  pub gives : List ValType
  pub operands : List ValType
  pub stands : Stands M w ls k locals labels gives
  pub values : have_types vs operands ≡ true
  pub behind : Behind M locals labels code operands gives

abbrev pub IsTyped : WasmModule → Config → Type 0
IsTyped M (At w vs ls code k) = IsTypedAt M w vs ls code k

-- ---- steps

abbrev pub IsNotStuck : End → Type 0
IsNotStuck Stuck = ⊥
IsNotStuck _ = Unit {0}

-- what a step leads to is typed, where all answers are, and it is no stuck end
abbrev pub LeadsOn : WasmModule → Did → Type 0
LeadsOn M (Goes (At w vs ls code k)) = HasTypedAnswers M (log_of w) → IsTypedAt M w vs ls code k
LeadsOn M (Ends e w) = IsNotStuck e

-- the instruction that comes next is typed
abbrev pub ComesTyped : WasmModule → Next → Type 0
ComesTyped M (Begins w vs ls i rest k) = IsTypedAt M w vs ls (i ∷ rest) k
ComesTyped M (Finished w vs) = Unit {0}
ComesTyped M (Breaks w) = ⊥
