-- What the mode comes to that checks bytes: an input is hex digits, and at most one newline behind them.
use Rattle.std.specs.Prelude.{◌≡◌, ◌≢◌, ℕ, ◌≤◌, ◌==◌, List, [], ◌∷◌, ◌++◌, Ok, codes, length, if◌then◌else◌}
use Rattle.std.specs.Fmt.{decimal}
use Rattle.hex.specs.Hex.{decode_of}
use Rattle.fact_wasm.specs.declared.module.WasmModule.{WasmModule}
use Rattle.fact_plan.specs.Inputs.{limit}
use Rattle.fact_check.specs.Accepted.{IsAccepted, IsCause}
use Rattle.fact_check.specs.declared.error.CheckError.{CheckError}
use Rattle.fact_check.specs.declared.error.CheckError.TheVariants as error
use Rattle.fact_check.specs.declared.error.CheckPlace.{CheckPlace}
use Rattle.fact_check.specs.declared.error.CheckPlace.TheVariants as place

-- ---- what an input holds

-- all of it but one newline at its end
abbrev pub digits_in : List ℕ → List ℕ
digits_in [] = []
digits_in (b ∷ []) = if b == 10 then [] else b ∷ []
digits_in (b ∷ c ∷ bs) = b ∷ digits_in (c ∷ bs)

-- The digits are those of these bytes, in either case of their letters.
pub record HoldsHex (input bytes : List ℕ) : Type 0 where
  pub within : length input ≤ limit
  pub decoded : decode_of (digits_in input) ≡ Ok bytes

-- They are those of no bytes.
pub record HoldsNoHex (input : List ℕ) : Type 0 where
  pub within : length input ≤ limit
  pub no_hex : (bytes : List ℕ) → decode_of (digits_in input) ≢ Ok bytes

-- Of bytes that spell no adapter module, with the first cause.
pub record HoldsRejected (input : List ℕ) (e : CheckError) : Type 0 where
  pub bytes : List ℕ
  pub holds : HoldsHex input bytes
  pub told : e ≢ error.OutOfMemory
  pub cause : IsCause bytes e

-- Of bytes that spell this adapter module.
pub record HoldsAccepted (input : List ℕ) (m : WasmModule) : Type 0 where
  pub bytes : List ℕ
  pub holds : HoldsHex input bytes
  pub accepted : IsAccepted bytes m

-- ---- what is told

abbrev pub place_text : CheckPlace → List ℕ
place_text (place.Func n) = codes "function " ++ decimal n
place_text (place.Export n) = codes "export " ++ decimal n

abbrev pub cause_text : CheckError → List ℕ
cause_text error.OutOfMemory = codes "OutOfMemory"
cause_text error.NotInGrammar = codes "NotInGrammar"
cause_text (error.NotAdapter n) = codes "NotAdapter at import " ++ decimal n
cause_text (error.IllTyped p) = codes "IllTyped at " ++ place_text p

-- the line on standard error of bytes that are rejected, for its first cause
abbrev pub rejected_line : CheckError → List ℕ
rejected_line e = codes "rejected: " ++ (cause_text e ++ 10 ∷ [])

-- the line on standard output of a module: how many functions it defines
abbrev pub accepted_line : WasmModule → List ℕ
accepted_line m = codes "ok " ++ (decimal (length m.funcs) ++ 10 ∷ [])
