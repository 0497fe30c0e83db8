use Rattle.std.proofs.Common.{string_bytes, take}
use Rattle.std.specs.List.{AllZip}
use Rattle.fact_records.specs.Records.{Means, Names}
use Rattle.fact_records.proofs.records.import_records.Given as goal

abbrev pub invariant-loop-place : goal.invariant-loop-place
invariant-loop-place l = record {
  names : AllZip (Names (string_bytes l.text)) l.records.items (take l.place l.section);
  means : AllZip (Means (string_bytes l.text)) l.records.items (take l.place l.imports);
}
