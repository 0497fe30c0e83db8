use Rattle.std.proofs.Common.{◌≡◌, take}
use Rattle.fact_check.specs.Accepted.{AreAdapterImports}
use Rattle.fact_check.specs.Sections.{IsSectionOf}
use Rattle.fact_check.proofs.checking.first_foreign.Given as goal

abbrev pub invariant-loop-import : goal.invariant-loop-import
invariant-loop-import l = (l.place ≡ l.import-index) × AreAdapterImports l.module l.import-index × IsSectionOf l.section (take l.import-index l.module.imports)
