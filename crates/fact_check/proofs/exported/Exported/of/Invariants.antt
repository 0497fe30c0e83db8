use Rattle.std.proofs.Common.{take}
use Rattle.fact_check.specs.Sections.{IsExportedOf}
use Rattle.fact_check.proofs.exported.Exported.of.Given as goal

abbrev pub invariant-loop-export : goal.invariant-loop-export
invariant-loop-export l = IsExportedOf l.exported l.imports l.defined (take l.export-index l.exports)
