-- Bodies that are written aside, and the choice of one of them by a number.
use Rattle.std.specs.Prelude.{◌≡◌, ℕ, List, [], ◌∷◌, map}
use Rattle.std.specs.List.{flat_map}
use Rattle.fact_wasm.specs.declared.types.ValType.{ValType}
use Rattle.fact_wasm.specs.declared.instr.Instr.{Instr}
use Rattle.fact_wasm.specs.declared.instr.Instr.TheVariants as I
use Rattle.fact_wasm.specs.declared.module.WasmModule.{WasmModule}
use Rattle.fact_types.specs.declared.import.Import.TheVariants as import
use Rattle.fact_types.specs.declared.outside.Trap.TheVariants.{InvalidDiscriminant}
use Rattle.fact_actions.specs.Running.{ImportPlaces}
use Rattle.fact_code_laws.specs.Choices.{AreChunks, full_chunk_code, chunk_codes, IsChoice}
use Rattle.fact_code_laws.specs.Knows.{KnowsFunction}
use Rattle.fact_emit.specs.declared.writer.Writer.{Writer}
use Rattle.fact_emit.specs.Writers.{TookTrap, Wrote}

-- bodies, one behind the other
abbrev pub code_of_bodies : List (List Instr) → List Instr
code_of_bodies = flat_map (λ body. body)

-- the body whose number a local holds, and past the last one a trap that has a place
pub record ChoosesCase (local : ℕ) (bodies : List (List Instr)) (M : WasmModule) (p : ImportPlaces) (locals : List ValType) (code : List Instr) : Type 0 where
  pub place : ℕ
  pub has : KnowsFunction M p (import.Trap InvalidDiscriminant) place [] []
  pub chooses : IsChoice (I.LocalGet local ∷ []) place bodies code

-- The trap was given a place, and then this choice was put behind the code.
pub record WroteChoice (old new : Writer) (local : ℕ) (bodies : List (List Instr)) : Type 0 where
  pub between : Writer
  pub place : ℕ
  pub took : TookTrap old between InvalidDiscriminant place
  pub code : List Instr
  pub chooses : IsChoice (I.LocalGet local ∷ []) place bodies code
  pub wrote : Wrote between new code

-- ---- chunks, as private clauses cite them

-- bodies in chunks of 64, of which the code was written, and those behind them
pub record HasChunks (number : List Instr) (bodies codes rest : List (List Instr)) : Type 0 where
  pub chunks : List (List (List Instr))
  pub are : AreChunks bodies chunks rest
  pub is : codes ≡ map (full_chunk_code number) chunks

-- the code of all chunks, and of those behind them
pub record AreChunkCodes (number : List Instr) (trap : ℕ) (bodies codes : List (List Instr)) : Type 0 where
  pub chunks : List (List (List Instr))
  pub rest : List (List Instr)
  pub are : AreChunks bodies chunks rest
  pub is : codes ≡ chunk_codes number trap chunks rest
