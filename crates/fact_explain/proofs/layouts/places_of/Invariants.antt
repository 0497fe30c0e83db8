use Rattle.std.proofs.Common.{◌≡◌, ◌++◌, drop}
use Rattle.fact_types.specs.Signatures.{width}
use Rattle.fact_explain.specs.Layouts.{places_from}
use Rattle.fact_explain.proofs.layouts.places_of.Given as goal

abbrev pub invariant-loop-layout : goal.invariant-loop-layout
invariant-loop-layout l = places_from (width l.wide) 0 l.layouts ≡ l.places.items ++ places_from (width l.wide) l.end (drop l.layout-index l.layouts)
