use Rattle.std.proofs.Common.{List}
use Rattle.fact_types.specs.Functions.{HaveShapes}
use Rattle.fact_types.specs.Shapes.{Shape}
use Rattle.fact_lowering.proofs.RoomLaws.{ValuesLeft}
use Rattle.fact_lowering.proofs.room.asked_by_values.Given as goal

abbrev pub invariant-loop-place : goal.invariant-loop-place
invariant-loop-place l = (ts us : List Shape) → HaveShapes l.types l.from ts → HaveShapes l.types l.to us → ValuesLeft l.types ts us l.from l.to l.place l.values l.all
