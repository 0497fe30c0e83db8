use Rattle.std.proofs.Common.{sym, ap, ◌∙◌, refl, length}
use Rattle.std.proofs.lemmas.Result.{err_from_is_err_and}
use Rattle.fact_source.specs.declared.defined.ComponentDefinedType.TheVariants as defined
use Rattle.fact_types.specs.Shapes.{k_record}
use Rattle.fact_convert.proofs.Coming.{comes_out, comes_to_nothing}
use Rattle.fact_convert.proofs.Making.{made_answer, fields_now, fields_live, mapped_many}
use Rattle.fact_convert.proofs.members.type_of_record.Goals as goal

pub fields_of-requires : goal.fields_of-requires
fields_of-requires c = c.requires.many ∙ mapped_many c.args.fields.now ∙ sym (ap length c.as_slice.ensures)

pub make_record-requires : goal.make_record-requires
make_record-requires c = fields_live c.args.builder.now.tables c.as_slice.result.now c.args.members.now _ c.in_ok-record_fields.ensures c.requires.live

pub returns-in_err-record_fields : goal.returns-in_err-record_fields
returns-in_err-record_fields c = λ s a. comes_out _ _ _ _ _ c.from_residual.result _ (err_from_is_err_and c.from_residual.result c.from_residual.ensures.1) (comes_to_nothing _ _ _ _)

pub returns : goal.returns
returns c = λ s a. made_answer s _ c.make_record.new.builder (defined.Record c.args.fields.now) k_record _ _ c.make_record.result _ c.answer.ensures refl (fields_now s c.args.builder.now c.args.fields.now c.args.members.now c.as_slice.result.now _ c.in_ok-record_fields.ensures c.as_slice.ensures a) c.make_record.ensures
