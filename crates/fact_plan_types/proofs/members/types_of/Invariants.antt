use Rattle.std.proofs.Common.{List, take}
use Rattle.std.specs.Prelude.{All}
use Rattle.fact_types.specs.Functions.{HaveShapes}
use Rattle.fact_types.specs.Shapes.{Shape}
use Rattle.fact_types.specs.Tables.{Tables, IsLive}
use Rattle.fact_plan_types.specs.PlanShapes.{shapes_of}
use Rattle.fact_plan_types.proofs.members.types_of.Given as goal

abbrev pub invariant-loop-ty : goal.invariant-loop-ty
invariant-loop-ty l = record {
  shaped : (t : Tables) (ss : List Shape) → HaveShapes t l.types ss → HaveShapes t l.member_types.items (shapes_of ss (take l.ty-index l.refs));
  live : (t : Tables) → All (IsLive t) l.types → All (IsLive t) l.member_types.items;
}
