use Rattle.std.proofs.Common.{arith, ◌≡◌, Some, cond, sym, ap, ◌∙◌}
use Rattle.std.specs.Prelude.{is_some}
use Rattle.std.specs.Str.{bytes_eq}
use Rattle.std.proofs.lemmas.Map.Text.{hash_map_updates_str}
use Rattle.std.proofs.lemmas.List.{take_all}
use Rattle.fact_agreement.specs.Named.{type_named, at_name}
use Rattle.fact_agreement.proofs.FieldNames.{known_name, new_name, next_field}
use Rattle.fact_agreement.proofs.fields.types_by_name.Goals as goal
use Rattle.fact_agreement.proofs.fields.types_by_name.Goals.{then-not-contains_key+in_ok-insert, else-not-contains_key}

pub loop-field-preserved : goal.loop-field-preserved
loop-field-preserved c =
    let f = c.field-item.result in
    let before = c.loop-field.types in
    let found : c.contains_key.result ≡ is_some (at_name before f.name) = c.contains_key.ensures ∙ ap (λ y. is_some (at_name before y)) c.as_str-name.ensures in
    next_field (at_name c.if-not-contains_key.types) c.args.fields.now c.loop-field.field-index f c.loop-field-test.true c.field-item.is (elim c.if-not-contains_key.branch [
      | then-not-contains_key+in_ok-insert w ↦ new_name (at_name before) (at_name c.if-not-contains_key.types) _ f c.loop-field.invariant (sym found ∙ w.if-not-contains_key.true)
          (λ x. ap (λ m. at_name m x) w.types-is ∙ hash_map_updates_str c.as_str-name.result.now before w.insert.new.self (Some f.ty) w.in_ok-insert.ensures.updates x
          ∙ ap (λ y. cond (bytes_eq y x) (Some f.ty) (at_name before x)) c.as_str-name.ensures)
      | else-not-contains_key w ↦ known_name (at_name c.if-not-contains_key.types) _ f (λ x. ap (λ m. at_name m x) w.types-is ∙ c.loop-field.invariant x)
          (ap (λ m. is_some (at_name m f.name)) w.types-is ∙ sym found ∙ w.if-not-contains_key.false)
    ])

pub returns : goal.returns
returns c = λ x. c.loop-field.invariant x ∙ ap (type_named x) (take_all c.loop-field.field-index c.args.fields.now (omega (arith, c.loop-field-test.false)))
