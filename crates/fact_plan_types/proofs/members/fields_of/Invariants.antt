use Rattle.std.proofs.Common.{List, Some, map, take, All}
use Rattle.fact_types.specs.Functions.{HaveShapes}
use Rattle.fact_types.specs.Shapes.{Shape}
use Rattle.fact_types.specs.Tables.{Tables, HasMembers, IsLive}
use Rattle.fact_plan_types.specs.PlanShapes.{fields_of}
use Rattle.fact_plan_types.proofs.members.fields_of.Given as goal

abbrev pub invariant-loop-name : goal.invariant-loop-name
invariant-loop-name l = record {
  shaped : (t : Tables) (ss : List Shape) → HaveShapes t l.types ss → HasMembers t (map (λ f. (f.name, Some f.ty)) l.record_fields) (fields_of ss (take l.name-index l.fields));
  live : (t : Tables) → All (IsLive t) l.types → All (λ f. IsLive t f.ty) l.record_fields;
}
