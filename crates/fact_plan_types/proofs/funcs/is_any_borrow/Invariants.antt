use Rattle.std.proofs.Common.{List, take}
use Rattle.std.specs.Prelude.{Any, IsTrue}
use Rattle.fact_types.specs.Functions.{HaveShapes}
use Rattle.fact_types.specs.Shapes.{Shape}
use Rattle.fact_types.specs.Handles.{has_borrow}
use Rattle.fact_plan_types.specs.PlanShapes.{shapes_of}
use Rattle.fact_plan_types.proofs.funcs.is_any_borrow.Given as goal

abbrev pub invariant-loop-ty : goal.invariant-loop-ty
invariant-loop-ty l = (ss : List Shape) → HaveShapes l.builder.tables l.types ss → Any (λ s. IsTrue (has_borrow s)) (shapes_of ss (take l.ty-index l.refs)) → ⊥
