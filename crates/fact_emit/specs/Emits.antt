-- What a function that writes code ensures: what the code that it has added does in every later module.
use Rattle.std.specs.Prelude.{◌≡◌, ℕ, List, [], ◌++◌, map}
use Rattle.fact_wasm.specs.declared.types.ValType.{ValType}
use Rattle.fact_wasm.specs.declared.instr.Instr.{Instr}
use Rattle.fact_wasm.specs.declared.module.WasmModule.{WasmModule}
use Rattle.fact_machine.specs.Trace.{Grows}
use Rattle.fact_actions.specs.Running.{ImportPlaces}
use Rattle.fact_emit.specs.declared.writer.Writer.{Writer}
use Rattle.fact_emit.specs.Asked.{AskedHelper, HasHelpers}
use Rattle.fact_emit.specs.Brought.{Brought}
use Rattle.fact_emit.specs.Imports.{Extended, AreOnce, Serves}
use Rattle.fact_emit.specs.NamedFunctions.{defined_named}
use Rattle.fact_emit.specs.Pieces.{Piece}
use Rattle.fact_emit.specs.Writers.{AreNumberTypes, types_of_locals, taken_in}

-- ---- later modules and functions

-- A later module has all that the writer's module imports so far, and a later function the locals that the writer has so far.
pub record Later (w : Writer) (M : WasmModule) (p : ImportPlaces) (locals : List ValType) : Type 0 where
  pub serves : Serves M p w.sections
  pub begin : Grows (types_of_locals w) locals

-- Code was added that asks for these helpers: the functions that it names and the module defines are, front to back, theirs. The module grew by what this
-- code brought into it, no import was imported twice, the function only grew, by locals of types of numbers, and the locals in use are the same ones.
pub record GrewAsking (asks : List AskedHelper) (old new : Writer) : Type 0 where
  pub added : List Instr
  pub code : new.code.items ≡ old.code.items ++ added
  pub calls : defined_named added ≡ map (λ a. a.number) asks
  pub brought : Brought old.sections new.sections added
  pub imports : Extended old.sections new.sections
  pub once : AreOnce old.sections → AreOnce new.sections
  pub locals : Grows (types_of_locals old) (types_of_locals new)
  pub numbers : AreNumberTypes (types_of_locals old) → AreNumberTypes (types_of_locals new)
  pub still : (i : ℕ) → taken_in new i ≡ taken_in old i

-- Code was added that asks for none.
abbrev pub Grew : (old new : Writer) → Type 0
Grew old new = GrewAsking [] old new

-- Bodies were written aside, one behind the other, that ask for these helpers. The code is what it was, the module grew by what these bodies brought into it,
-- and else as above.
pub record GrewAsideAsking (asks : List AskedHelper) (old new : Writer) (bodies : List Instr) : Type 0 where
  pub code : new.code.items ≡ old.code.items
  pub calls : defined_named bodies ≡ map (λ a. a.number) asks
  pub brought : Brought old.sections new.sections bodies
  pub imports : Extended old.sections new.sections
  pub once : AreOnce old.sections → AreOnce new.sections
  pub locals : Grows (types_of_locals old) (types_of_locals new)
  pub numbers : AreNumberTypes (types_of_locals old) → AreNumberTypes (types_of_locals new)
  pub still : (i : ℕ) → taken_in new i ≡ taken_in old i

abbrev pub GrewAside : (old new : Writer) → List Instr → Type 0
GrewAside old new bodies = GrewAsideAsking [] old new bodies

-- ---- pieces of code

-- Code was added that asks for these helpers, and of which this holds in every later module and function that has them.
pub record EmitsAsking (asks : List AskedHelper) (old new : Writer) (P : Piece) : Type 0 where
  pub grew : GrewAsking asks old new
  pub does : (M : WasmModule) (p : ImportPlaces) (locals : List ValType) → Later new M p locals → HasHelpers M p asks → P M p locals grew.added

-- Code was added that asks for none, and of which this holds in every later module and function.
abbrev pub Emits : (old new : Writer) → Piece → Type 0
Emits old new P = EmitsAsking [] old new P
