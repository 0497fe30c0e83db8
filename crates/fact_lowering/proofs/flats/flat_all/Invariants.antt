use Rattle.std.proofs.Common.{List}
use Rattle.fact_types.specs.Functions.{HaveShapes}
use Rattle.fact_types.specs.Shapes.{Shape}
use Rattle.fact_types.specs.Signatures.{width}
use Rattle.fact_lowering.proofs.FlatLaws.{AllFlat}
use Rattle.fact_lowering.proofs.flats.flat_all.Given as goal

abbrev pub invariant-loop-ty : goal.invariant-loop-ty
invariant-loop-ty l = (ss : List Shape) → HaveShapes l.types l.tys ss → AllFlat l.types (width l.memory64) ss l.tys l.ty-index l.all.items
