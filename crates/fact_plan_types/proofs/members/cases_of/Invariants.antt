use Rattle.std.proofs.Common.{◌≡◌, List, map, take, All}
use Rattle.fact_types.specs.Functions.{HaveShapes}
use Rattle.fact_types.specs.Shapes.{Shape}
use Rattle.fact_types.specs.Tables.{Tables, HasMembers, IsLive, IsLiveMember}
use Rattle.fact_plan_types.specs.PlanShapes.{cases_of}
use Rattle.fact_plan_types.proofs.members.cases_of.Given as goal

abbrev pub invariant-loop-name : goal.invariant-loop-name
invariant-loop-name l = record {
  names : map (λ c. c.0) l.variant_cases.entries ≡ map (λ c. c.0) (take l.name-index l.cases);
  shaped : (t : Tables) (ss : List Shape) → HaveShapes t l.types ss → HasMembers t l.variant_cases.entries (cases_of ss (take l.name-index l.cases));
  live : (t : Tables) → All (IsLive t) l.types → All (λ c. IsLiveMember t c.1) l.variant_cases.entries;
}
