use Rattle.std.proofs.Common.{string_bytes, take, zip}
use Rattle.fact_explain.specs.Imports.{IsImportRow}
use Rattle.fact_explain.specs.Concatenations.{IsConcatenation}
use Rattle.fact_explain.proofs.imports.import_rows.Given as goal

abbrev pub invariant-loop-k : goal.invariant-loop-k
invariant-loop-k l = IsConcatenation (IsImportRow l.types) 0 (take l.k (zip l.imports l.known)) (string_bytes l.text)
