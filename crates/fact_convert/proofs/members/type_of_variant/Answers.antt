use Rattle.std.proofs.Common.{refl}
use Rattle.std.proofs.lemmas.Result.{err_from_is_err_and}
use Rattle.fact_source.specs.declared.defined.ComponentDefinedType.TheVariants as defined
use Rattle.fact_types.specs.Shapes.{k_variant}
use Rattle.fact_convert.proofs.Coming.{comes_out, comes_to_nothing}
use Rattle.fact_convert.proofs.Making.{made_answer, cases_now, cases_live}
use Rattle.fact_convert.proofs.members.type_of_variant.Goals as goal

pub make_variant-requires : goal.make_variant-requires
make_variant-requires c = cases_live c.args.builder.now.tables c.as_slice.result.now c.args.members.now _ c.in_ok-variant_cases.ensures c.requires.live

pub returns-in_err-variant_cases : goal.returns-in_err-variant_cases
returns-in_err-variant_cases c = λ s a. comes_out _ _ _ _ _ c.from_residual.result _ (err_from_is_err_and c.from_residual.result c.from_residual.ensures.1) (comes_to_nothing _ _ _ _)

pub returns : goal.returns
returns c = λ s a. made_answer s _ c.make_variant.new.builder (defined.Variant c.args.cases.now) k_variant _ _ c.make_variant.result _ c.answer.ensures refl (cases_now s c.args.builder.now c.args.cases.now c.args.members.now c.as_slice.result.now _ c.in_ok-variant_cases.ensures c.as_slice.ensures a) c.make_variant.ensures
