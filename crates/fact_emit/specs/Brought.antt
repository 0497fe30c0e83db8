-- What code brings into the module that is being made.
use Rattle.std.specs.Prelude.{◌≡◌, ℕ, List, [], ◌∷◌, length}
use Rattle.std.specs.List.{range_with_len}
use Rattle.fact_wasm.specs.declared.instr.Instr.{Instr}
use Rattle.fact_wasm.specs.Ranges.{AreRanged}
use Rattle.fact_emit.specs.declared.helpers.Helper.{Helper}
use Rattle.fact_emit.specs.declared.imported.RuntimeFunction.{RuntimeFunction}
use Rattle.fact_emit.specs.declared.transcoders.Transcoder.{Transcoder}
use Rattle.fact_emit.specs.NamedFunctions.{all_added_once, defined_named, imported_named}
use Rattle.fact_emit.specs.States.{ModuleSoFar, IsHelperAsked, IsRuntimeImported, IsTranscoderImported, functions_of, next_number}

-- A function that code calls: one of the runtime, a transcoder between two imported memories, or a helper that the module defines.
pub data CalledFunction : Type 0 where
  Runtime : RuntimeFunction → CalledFunction
  Transcoding : Transcoder → CalledFunction
  Helping : Helper → CalledFunction

-- it has this number among the imported functions, or a helper among those that the module defines
abbrev pub IsCalledImported : (old new : ModuleSoFar) → CalledFunction → (number : ℕ) → Type 0
IsCalledImported old new (Runtime f) number = IsRuntimeImported old new f number
IsCalledImported old new (Transcoding t) number = IsTranscoderImported old new t number
IsCalledImported old new (Helping key) number = IsHelperAsked old new key number

-- These functions were imported, or asked for, one after another, each where it was not before. Nothing else was.
abbrev pub AreCalledImported : (old new : ModuleSoFar) → List CalledFunction → Type 0
AreCalledImported old new [] = new ≡ old
AreCalledImported old new (f ∷ fs) = (next : ModuleSoFar) × (number : ℕ) × IsCalledImported old next f number × AreCalledImported next new fs

-- This code came. The functions of the runtime that it needs were imported behind what was there, and the helpers were asked for. It is in range. The new
-- imports stand in the order in which it first names them, and the new helpers have their numbers in that order.
pub record Brought (old new : ModuleSoFar) (code : List Instr) : Type 0 where
  pub called : List CalledFunction
  pub imported : AreCalledImported old new called
  pub ranged : AreRanged (length (functions_of new)) (next_number new) code
  pub order : length old.section ≡ length old.imports
      → all_added_once (range_with_len 0 (length (functions_of old))) (imported_named code) ≡ range_with_len 0 (length (functions_of new))
  pub asked : all_added_once (range_with_len 0 (next_number old)) (defined_named code) ≡ range_with_len 0 (next_number new)
