use Rattle.std.proofs.Common.{◌≡◌, map, take}
use Rattle.fact_type_rules.proofs.members.types_of_fields.Given as goal

abbrev pub invariant-loop-field : goal.invariant-loop-field
invariant-loop-field l = l.types.items ≡ map (λ f. f.ty) (take l.field-index l.fields)
