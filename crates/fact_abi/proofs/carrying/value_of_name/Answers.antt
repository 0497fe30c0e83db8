use Rattle.std.proofs.Common.{◌∙◌, refl, sym, arith}
use Rattle.fact_abi.proofs.BelongLaws.{item_at}
use Rattle.fact_abi.proofs.WalkLaws.{value_past, value_at, no_value_named}
use Rattle.fact_abi.proofs.carrying.value_of_name.Goals as goal

pub loop-field-init : goal.loop-field-init
loop-field-init c = refl

pub returns-then-is_name : goal.returns-then-is_name
returns-then-is_name c = sym (value_at c.args.name.now c.args.fields.now c.loop-field.field-index c.field-item.result (item_at c.args.fields.now c.loop-field.field-index c.field-item.result c.loop-field-test.true c.field-item.is) (sym c.is_name.ensures ∙ c.if-is_name.true) c.loop-field.invariant)

pub loop-field-preserved : goal.loop-field-preserved
loop-field-preserved c = value_past c.args.name.now c.args.fields.now c.loop-field.field-index c.field-item.result (item_at c.args.fields.now c.loop-field.field-index c.field-item.result c.loop-field-test.true c.field-item.is) (sym c.is_name.ensures ∙ c.if-is_name.false) c.loop-field.invariant

pub returns : goal.returns
returns c = sym (no_value_named c.args.name.now c.args.fields.now c.loop-field.field-index (omega (arith, c.loop-field-test.false)) c.loop-field.invariant)
