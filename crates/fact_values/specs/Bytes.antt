-- The ranges of what values are read from: bytes, and core values. WebAssembly core specification, "Values".
use Rattle.std.specs.Prelude.{ℕ, ◌<◌, ◌^◌, List}
use Rattle.std.specs.List.{AllByRecursion}
use Rattle.fact_machine.specs.declared.types.CoreValue.{CoreValue}
use Rattle.fact_values.specs.Lift.{bits_of}

abbrev pub AreBytes : List ℕ → Type 0
AreBytes bytes = AllByRecursion (λ b. b < 256) bytes

-- Core values of at most 64 bits.
abbrev pub AreCores : List CoreValue → Type 0
AreCores cs = AllByRecursion (λ c. bits_of c < 2 ^ 64) cs
