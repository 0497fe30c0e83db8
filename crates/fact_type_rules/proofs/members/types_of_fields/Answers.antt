use Rattle.std.proofs.Common.{ap, map, refl, ◌∙◌}
use Rattle.std.proofs.lemmas.List.{take_all}
use Rattle.fact_types.specs.declared.kinds.RecordField.{RecordField}
use Rattle.fact_plan_types.proofs.LoopLaws.{map_next}
use Rattle.fact_type_rules.proofs.members.types_of_fields.Goals as goal

pub loop-field-preserved : goal.loop-field-preserved
loop-field-preserved c =
    map_next (λ (f : RecordField). f.ty) c.args.fields.now c.loop-field.field-index c.field-item.result _ _ _ c.loop-field-test.true c.field-item.is c.loop-field.invariant c.in_ok-push.ensures.items refl

pub returns : goal.returns
returns c = c.loop-field.invariant ∙ ap (map (λ (f : RecordField). f.ty)) (take_all c.loop-field.field-index c.args.fields.now c.loop-field-test.false)
