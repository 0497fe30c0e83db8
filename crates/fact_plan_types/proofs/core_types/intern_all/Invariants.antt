use Rattle.std.proofs.Common.{take}
use Rattle.std.specs.List.{AllZip}
use Rattle.fact_plan_types.proofs.CoreLaws.{IsAt}
use Rattle.fact_plan_types.proofs.core_types.intern_all.Given as goal

abbrev pub invariant-loop-ty : goal.invariant-loop-ty
invariant-loop-ty l = AllZip (IsAt l.interned) l.indices.items (take l.ty-index l.types)
