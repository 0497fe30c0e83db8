use Rattle.std.proofs.Common.{◌≡◌, map, take}
use Rattle.fact_type_rules.proofs.names.names_of_fields.Given as goal

abbrev pub invariant-loop-field : goal.invariant-loop-field
invariant-loop-field l = map (λ n. n.now) l.names.items ≡ map (λ f. f.name) (take l.field-index l.fields)
