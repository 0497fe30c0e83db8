-- The numbers of the writing functions, and how they are read.
use Rattle.std.specs.Prelude.{◌≡◌, Bool, List, [], ◌∷◌}
use Rattle.fact_wasm.specs.declared.types.ValType.{ValType}
use Rattle.fact_wasm.specs.declared.instr.Instr.{Instr}
use Rattle.fact_wasm.specs.declared.module.WasmModule.{WasmModule}
use Rattle.fact_actions.specs.Running.{ImportPlaces}
use Rattle.fact_code_laws.specs.Places.{Number, N8, N16, N32, N64, From, InLocals, InMemory, To, DebugChecks, Off, Setting, FitsNumber, HasUpper, is_halved, read_code}
use Rattle.fact_emit.specs.declared.numbers.NumberSize.{NumberSize}
use Rattle.fact_emit.specs.declared.numbers.NumberSize.TheVariants.{Bits8, Bits16, Bits32, Bits64}
use Rattle.fact_emit.specs.Places.{checks_at}

abbrev pub number_sized : NumberSize → Number
number_sized Bits8 = N8
number_sized Bits16 = N16
number_sized Bits32 = N32
number_sized Bits64 = N64

-- the function of the trap is there where the upper half of a local is left out
abbrev pub HasUpperAt : WasmModule → ImportPlaces → DebugChecks → Number → From → Type 0
HasUpperAt M p checks n (InLocals []) = Unit {0}
HasUpperAt M p checks n (InLocals (s ∷ ss)) = HasUpper M p checks (is_halved n s.1)
HasUpperAt M p checks n (InMemory memory base offset) = Unit {0}

-- code that reads a number, with the debug check of what it leaves out
pub record ReadsNumber (debug : Bool) (n : Number) (from : From) (M : WasmModule) (p : ImportPlaces) (locals : List ValType) (code : List Instr) : Type 0 where
  pub is : code ≡ read_code (checks_at debug p) n from
  pub has : HasUpperAt M p (checks_at debug p) n from

-- a setting without debug checks, which asks for no functions of their traps
abbrev pub unchecked : Setting → Setting
unchecked S = record S { checks = Off }

-- a number may be moved from the one place to the other, where the functions of the traps are there
abbrev pub FitsUnchecked : Number → From → To → Setting → Type 0
FitsUnchecked n from to S = FitsNumber (unchecked S) n from to
