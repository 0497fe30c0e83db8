use Rattle.std.proofs.Common.{[], ◌∷◌, ◌++◌, ap, ◌∙◌, arith}
use Rattle.fact_types.specs.declared.kinds.RecordField.{RecordField}
use Rattle.fact_types.specs.Tables.{abi_at}
use Rattle.fact_builder.proofs.Mapping.{one_more, all_made}
use Rattle.fact_builder.proofs.layouts.layouts_of_fields.Goals as goal

pub loop-field-preserved : goal.loop-field-preserved
loop-field-preserved c =
    let f = λ (x : RecordField). abi_at c.args.builder.now.tables x.ty in
    one_more f c.args.fields.now c.loop-field.field-index _ c.loop-field.invariant c.field-item.result _ c.loop-field-test.true
    (c.in_ok-push.ensures.items ∙ ap (λ y. c.loop-field.layouts.items ++ y ∷ []) (c.canonical_abi.ensures.stands ∙ ap f c.field-item.is))

pub returns : goal.returns
returns c = all_made _ c.args.fields.now c.loop-field.field-index _ c.loop-field.invariant (omega (arith, c.loop-field-test.false))
