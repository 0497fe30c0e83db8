use Rattle.std.proofs.Common.{◌+◌, ◌≤◌, List, length}
use Rattle.fact_types.specs.Functions.{HaveShapes}
use Rattle.fact_types.specs.Shapes.{Shape}
use Rattle.fact_lowering.proofs.TupleLifts.{LoadsAll}
use Rattle.fact_lowering.proofs.lifted.load_all.Given as goal

abbrev pub invariant-loop-ty : goal.invariant-loop-ty
invariant-loop-ty l =
    (l.address + l.offset ≤ length l.bytes)
    × ((ss : List Shape) → HaveShapes l.from.types.now l.tys ss → LoadsAll l.from.side l.bytes ss l.address l.ty-index l.offset l.loaded)
