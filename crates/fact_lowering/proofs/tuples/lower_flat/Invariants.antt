use Rattle.std.proofs.Common.{List}
use Rattle.fact_types.specs.Functions.{HaveShapes}
use Rattle.fact_types.specs.Shapes.{Shape}
use Rattle.fact_lowering.proofs.TupleLowers.{LowersTuple}
use Rattle.fact_lowering.proofs.tuples.lower_flat.Given as goal

abbrev pub invariant-loop-place : goal.invariant-loop-place
invariant-loop-place l =
    (ss : List Shape) → HaveShapes l.to.types.now l.tys ss → LowersTuple l.to.side ss l.values l.fn.store.cursor l.fn.store.bytes.items l.place l.store.cursor l.store.bytes.items l.out
