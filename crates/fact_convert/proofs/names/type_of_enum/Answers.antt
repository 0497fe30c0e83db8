use Rattle.std.proofs.Common.{refl}
use Rattle.std.proofs.lemmas.Result.{err_from_is_err_and}
use Rattle.fact_source.specs.declared.defined.ComponentDefinedType.TheVariants as defined
use Rattle.fact_types.specs.Shapes.{k_enum}
use Rattle.fact_convert.proofs.Coming.{comes_out, comes_to_nothing}
use Rattle.fact_convert.proofs.Making.{made_answer, names_now}
use Rattle.fact_convert.proofs.names.type_of_enum.Goals as goal

pub returns-in_err-set : goal.returns-in_err-set
returns-in_err-set c = λ s. comes_out _ _ _ _ _ c.from_residual.result _ (err_from_is_err_and c.from_residual.result c.from_residual.ensures.1) (comes_to_nothing _ _ _ _)

pub returns : goal.returns
returns c = λ s. made_answer s _ c.make_enum.new.builder (defined.Enum c.args.names.now) k_enum _ _ c.make_enum.result _ c.answer.ensures refl (names_now s c.args.builder.now c.args.names.now c.as_slice.result.now _ c.in_ok-set.ensures c.as_slice.ensures) c.make_enum.ensures.makes
