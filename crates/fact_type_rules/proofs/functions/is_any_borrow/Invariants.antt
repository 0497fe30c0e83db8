use Rattle.std.proofs.Common.{All, take}
use Rattle.std.specs.Prelude.{IsTrue}
use Rattle.fact_types.specs.Shapes.{Shape}
use Rattle.fact_types.specs.Tables.{HasShape}
use Rattle.fact_types.specs.Handles.{has_borrow}
use Rattle.fact_type_rules.proofs.functions.is_any_borrow.Given as goal

abbrev pub invariant-loop-ty : goal.invariant-loop-ty
invariant-loop-ty l = All (λ ty. (s : Shape) → HasShape l.fn.builder.tables ty s → IsTrue (has_borrow s) → ⊥) (take l.ty-index l.types)
