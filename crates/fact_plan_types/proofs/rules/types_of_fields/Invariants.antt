use Rattle.std.proofs.Common.{◌≡◌, map, take}
use Rattle.fact_plan_types.proofs.rules.types_of_fields.Given as goal

abbrev pub invariant-loop-ty : goal.invariant-loop-ty
invariant-loop-ty l = l.types.items ≡ map (λ f. f.1) (take l.ty-index l.fields)
