use Rattle.std.proofs.Common.{◌≡◌, List, map, take}
use Rattle.fact_types.specs.Functions.{HaveShapes}
use Rattle.fact_types.specs.Shapes.{Shape}
use Rattle.fact_explain.specs.Layouts.{member_layouts}
use Rattle.fact_explain.proofs.layouts.member_layouts.Given as goal

abbrev pub invariant-loop-member : goal.invariant-loop-member
invariant-loop-member l = (ss : List Shape) → HaveShapes l.types.builder.tables l.types.types ss → l.layouts.items ≡ member_layouts ss (map (λ m. m.ty) (take l.member-index l.members))
