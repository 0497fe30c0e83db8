use Rattle.std.proofs.Common.{◌+◌, ◌*◌, take}
use Rattle.fact_source.specs.Live.{reach_of}
use Rattle.fact_builder.proofs.WalkLaws.{FoundTo}
use Rattle.fact_builder.proofs.walk.+walking.Given as goal

abbrev pub decreases-find_resources : goal.decreases-find_resources
decreases-find_resources l = 2 * reach_of l.types.now l.ty

abbrev pub decreases-find_in_export : goal.decreases-find_in_export
decreases-find_in_export l = 2 * reach_of l.types.now l.ty + 1

abbrev pub invariant-find_resources-loop-name : goal.invariant-find_resources-loop-name
invariant-find_resources-loop-name l = FoundTo l.types l.fn.path l.fn.found l.path l.found (take l.name-index l.name-items)
