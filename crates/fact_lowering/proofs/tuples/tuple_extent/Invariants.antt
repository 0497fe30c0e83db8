use Rattle.std.proofs.Common.{◌*◌, ◌^◌, ◌≤◌, List, length}
use Rattle.fact_types.specs.Functions.{HaveShapes}
use Rattle.fact_types.specs.Shapes.{Shape}
use Rattle.fact_values.specs.Places.{width_of}
use Rattle.fact_lowering.proofs.TupleExtents.{Extending}
use Rattle.fact_lowering.proofs.tuples.tuple_extent.Given as goal

abbrev pub invariant-loop-ty : goal.invariant-loop-ty
invariant-loop-ty l =
    (l.ty-index ≤ length l.tys) × (l.offset ≤ l.ty-index * 2 ^ 33) × (1 ≤ l.greatest) × ((ss : List Shape) → HaveShapes l.to.types.now l.tys ss → Extending (width_of l.to.side) ss l.ty-index l.offset l.greatest)
