use Rattle.std.proofs.Common.{List, map}
use Rattle.serde_json.specs.View.{view}
use Rattle.fact_types.specs.Functions.{HaveShapes}
use Rattle.fact_types.specs.Shapes.{Shape}
use Rattle.fact_types.specs.Tuples.{tuple_members}
use Rattle.fact_values.specs.IsA.{AreMembers}
use Rattle.fact_value_json.proofs.PrintWalkLaws.{ValuesPrinted}
use Rattle.fact_value_json.proofs.printing.values_list.Given as goal

abbrev pub invariant-loop-place : goal.invariant-loop-place
invariant-loop-place l = (ss : List Shape) → HaveShapes l.types l.tys ss → AreMembers (tuple_members ss) l.values → ValuesPrinted l.types l.tys ss l.values l.place (map view l.list.items)
