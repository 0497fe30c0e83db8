use Rattle.std.proofs.Common.{◌≡◌, take}
use Rattle.fact_convert.specs.Merging.{merged_names}
use Rattle.fact_convert.proofs.names.set_of.Given as goal

abbrev pub invariant-loop-name : goal.invariant-loop-name
invariant-loop-name l = l.set.keys ≡ merged_names (take l.name-index l.names)
