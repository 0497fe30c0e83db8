use Rattle.std.proofs.Common.{◌≡◌, ◌++◌, drop}
use Rattle.fact_check.specs.Sections.{ends_from}
use Rattle.fact_check.proofs.locals.ends_of.Given as goal

abbrev pub invariant-loop-count : goal.invariant-loop-count
invariant-loop-count l = ends_from 0 l.locals ≡ l.ends ++ ends_from l.end (drop l.count-index l.locals)
