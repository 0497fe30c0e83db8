-- The text of an error of input.
use Rattle.std.specs.Prelude.{ℕ, List, codes}
use Rattle.fact_io.specs.declared.transfers.InputError.{InputError}
use Rattle.fact_io.specs.declared.transfers.InputError.TheVariants.{Fault, TooLong, OutOfMemory}

abbrev pub message : InputError → List ℕ
message Fault = codes "read fault"
message TooLong = codes "input too long"
message OutOfMemory = codes "out of memory"
