-- Barriers, as pieces of code.
use Rattle.std.specs.Prelude.{◌≡◌, ℕ, List, []}
use Rattle.fact_wasm.specs.declared.instr.Instr.{Instr}
use Rattle.fact_wasm.specs.declared.module.WasmModule.{WasmModule}
use Rattle.fact_wasm.specs.declared.types.ValType.{ValType}
use Rattle.fact_types.specs.declared.import.Import.TheVariants as import
use Rattle.fact_types.specs.declared.outside.Trap.TheVariants.{UncaughtException}
use Rattle.fact_actions.specs.Running.{ImportPlaces}
use Rattle.fact_code_laws.specs.Code.{barrier_code}
use Rattle.fact_code_laws.specs.Knows.{KnowsFunction}
use Rattle.fact_emit.specs.declared.writer.Writer.{Writer}
use Rattle.fact_emit.specs.Pieces.{Piece}
use Rattle.fact_emit.specs.Writers.{Wrote, TookTrap}

-- A barrier around a body was put behind the code. Before that its trap was imported.
pub record WroteBarrier (old new : Writer) (body : List Instr) : Type 0 where
  pub place : ℕ
  pub middle : Writer
  pub took : TookTrap old middle UncaughtException place
  pub wrote : Wrote middle new (barrier_code body place)

-- a barrier around a body of which something is said
pub record Barred (P : Piece) (M : WasmModule) (p : ImportPlaces) (locals : List ValType) (code : List Instr) : Type 0 where
  pub place : ℕ
  pub body : List Instr
  pub has : KnowsFunction M p (import.Trap UncaughtException) place [] []
  pub is : code ≡ barrier_code body place
  pub inner : P M p locals body
