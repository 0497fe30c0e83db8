-- What readers answer.
use Rattle.std.specs.Prelude.{◌≡◌, ◌⊎◌, ℕ, Result, Ok, Err}
use Rattle.fact_binary.specs.declared.error.DecodeError.{DecodeError}
use Rattle.fact_binary.specs.declared.error.DecodeError.TheVariants as error

-- P of what was read, or no memory
abbrev pub IfRead : {X : Type 0} → Result X DecodeError → (X → Type 0) → Type 0
IfRead (Ok x) P = P x
IfRead (Err error.OutOfMemory) P = Unit {0}
IfRead (Err error.NotInGrammar) P = ⊥

-- what ends a body: 0x05 before an else body, or 0x0B
abbrev pub IsEnd : ℕ → Type 0
IsEnd b = (b ≡ 0x05) ⊎ (b ≡ 0x0B)
