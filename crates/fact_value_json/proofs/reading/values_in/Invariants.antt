use Rattle.std.proofs.Common.{List}
use Rattle.fact_types.specs.Functions.{HaveShapes}
use Rattle.fact_types.specs.Shapes.{Shape}
use Rattle.fact_value_json.proofs.ValuesLaws.{ValuesRead}
use Rattle.fact_value_json.proofs.reading.values_in.Given as goal

abbrev pub invariant-loop-place : goal.invariant-loop-place
invariant-loop-place l = (ss : List Shape) → HaveShapes l.types l.tys ss → ValuesRead l.types l.tys ss l.list l.place l.values
