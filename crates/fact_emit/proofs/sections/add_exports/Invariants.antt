use Rattle.std.proofs.Common.{◌≡◌, ◌++◌, take}
use Rattle.fact_emit.proofs.sections.add_exports.Given as goal

abbrev pub invariant-loop-export : goal.invariant-loop-export
invariant-loop-export l = l.exports ≡ l.initial.exports ++ take l.export-index l.more
