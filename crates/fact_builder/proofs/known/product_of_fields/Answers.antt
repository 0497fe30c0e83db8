use Rattle.std.proofs.Common.{map, sym, ◌∙◌, List}
use Rattle.std.proofs.lemmas.List.{at_drop_all}
use Rattle.indexmap.specs.IndexMap.{get}
use Rattle.fact_types.specs.declared.kinds.RecordField.{RecordField}
use Rattle.fact_types.specs.contracts.interface.InterfaceTypePartialEq.TheImpl as type_eq
use Rattle.fact_builder.specs.Information.{product_from, known_field}
use Rattle.fact_builder.proofs.known.product_of_fields.Goals as goal

pub returns : goal.returns
returns c =
    sym (at_drop_all (λ (xs : List RecordField). product_from c.loop-field.all (map (known_field (get type_eq.ghosts.eq c.args.kept.now)) xs)) c.args.fields.now c.loop-field.field-index c.loop-field-test.false)
    ∙ c.loop-field.invariant
