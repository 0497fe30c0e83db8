use Rattle.std.proofs.Common.{◌≡◌, take}
use Rattle.fact_convert.specs.Merging.{merged}
use Rattle.fact_convert.proofs.finish.import_types_of.Given as goal

abbrev pub invariant-loop-name : goal.invariant-loop-name
invariant-loop-name l = l.imports.entries ≡ merged (take l.name-index l.name-items)
