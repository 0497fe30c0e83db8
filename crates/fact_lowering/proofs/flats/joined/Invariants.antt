use Rattle.std.proofs.Common.{◌≡◌, take}
use Rattle.fact_types.specs.FlatShapes.{joined}
use Rattle.fact_lowering.proofs.flats.joined.Given as goal

abbrev pub invariant-loop-place : goal.invariant-loop-place
invariant-loop-place l = l.all ≡ take l.place (joined l.first l.second)
