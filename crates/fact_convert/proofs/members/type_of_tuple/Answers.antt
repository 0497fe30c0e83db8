use Rattle.std.proofs.Common.{refl, ◌∙◌}
use Rattle.std.proofs.lemmas.Result.{err_from_is_err_and}
use Rattle.fact_source.specs.declared.defined.ComponentDefinedType.TheVariants as defined
use Rattle.fact_types.specs.Shapes.{k_tuple}
use Rattle.fact_convert.proofs.Coming.{comes_out, comes_to_nothing}
use Rattle.fact_convert.proofs.Making.{made_answer, types_now, all_live}
use Rattle.fact_convert.proofs.members.type_of_tuple.Goals as goal

pub make_tuple-requires : goal.make_tuple-requires
make_tuple-requires c = all_live c.args.builder.now.tables c.args.members.now _ (c.from_vec.ensures ∙ c.in_ok-types.ensures.items_if_clones_equal (λ x y h. h)) c.requires

pub returns-in_err-types : goal.returns-in_err-types
returns-in_err-types c = λ s vs a. comes_out _ _ _ _ _ c.from_residual.result _ (err_from_is_err_and c.from_residual.result c.from_residual.ensures.1) (comes_to_nothing _ _ _ _)

pub returns : goal.returns
returns c = λ s vs a. made_answer s _ c.make_tuple.new.builder (defined.Tuple vs) k_tuple _ _ c.make_tuple.result _ c.answer.ensures refl (types_now s c.args.builder.now vs c.args.members.now _ (c.from_vec.ensures ∙ c.in_ok-types.ensures.items_if_clones_equal (λ x y h. h)) a) c.make_tuple.ensures
