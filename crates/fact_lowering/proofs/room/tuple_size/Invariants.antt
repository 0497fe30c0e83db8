use Rattle.std.proofs.Common.{◌*◌, ◌^◌, ◌≤◌, List}
use Rattle.fact_types.specs.Functions.{HaveShapes}
use Rattle.fact_types.specs.Shapes.{Shape}
use Rattle.fact_types.specs.Signatures.{width}
use Rattle.fact_lowering.proofs.TupleSizes.{TupleLeft}
use Rattle.fact_lowering.proofs.room.tuple_size.Given as goal

abbrev pub invariant-loop-place : goal.invariant-loop-place
invariant-loop-place l = record {
  few : l.end ≤ l.place * 2 ^ 33;
  some : 1 ≤ l.greatest;
  left : (ss : List Shape) → HaveShapes l.types l.tys ss → TupleLeft l.types (width l.memory64) ss l.tys l.place l.end l.greatest;
}
