use Rattle.std.proofs.Common.{◌≤◌, List, length}
use Rattle.fact_types.specs.Functions.{HaveShapes}
use Rattle.fact_types.specs.Shapes.{Shape}
use Rattle.fact_lowering.proofs.TupleLifts.{LiftsAll}
use Rattle.fact_lowering.proofs.lifted.lift_flat.Given as goal

abbrev pub invariant-loop-ty : goal.invariant-loop-ty
invariant-loop-ty l =
    (l.at ≤ length l.values) × ((ss : List Shape) → HaveShapes l.from.types.now l.tys ss → LiftsAll l.from.side l.bytes ss l.values l.ty-index l.at l.lifted)
