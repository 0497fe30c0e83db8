use Rattle.std.proofs.Common.{Bor, List, ℕ, ap, map, ◌∙◌}
use Rattle.std.proofs.lemmas.List.{take_all}
use Rattle.fact_types.specs.declared.kinds.RecordField.{RecordField}
use Rattle.fact_plan_types.proofs.LoopLaws.{map_both_next}
use Rattle.fact_type_rules.proofs.names.names_of_fields.Goals as goal

pub loop-field-preserved : goal.loop-field-preserved
loop-field-preserved c =
    map_both_next (λ (n : Bor (List ℕ)). n.now) (λ (f : RecordField). f.name) c.args.fields.now c.loop-field.field-index c.field-item.result _ _ _ c.loop-field-test.true c.field-item.is c.loop-field.invariant
    c.in_ok-push.ensures.items c.as_str.ensures

pub returns : goal.returns
returns c = c.loop-field.invariant ∙ ap (map (λ (f : RecordField). f.name)) (take_all c.loop-field.field-index c.args.fields.now c.loop-field-test.false)
