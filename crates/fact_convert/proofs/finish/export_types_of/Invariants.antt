use Rattle.std.proofs.Common.{take, map}
use Rattle.std.specs.List.{AllZip}
use Rattle.fact_convert.specs.Finished.{IsExternOf}
use Rattle.fact_convert.specs.Merging.{merged}
use Rattle.fact_convert.proofs.finish.export_types_of.Given as goal

abbrev pub invariant-loop-name : goal.invariant-loop-name
invariant-loop-name l = AllZip (IsExternOf l.component.export_items) (merged (map (λ x. (x.0, (x.1, x.2))) (take l.name-index l.name-items))) l.exports.entries
