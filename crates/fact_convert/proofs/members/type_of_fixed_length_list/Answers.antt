use Rattle.std.proofs.Common.{refl}
use Rattle.fact_source.specs.declared.defined.ComponentDefinedType.TheVariants as defined
use Rattle.fact_types.specs.Shapes.{k_fixed}
use Rattle.fact_convert.proofs.Making.{made_answer}
use Rattle.fact_convert.proofs.members.type_of_fixed_length_list.Goals as goal

pub make_fixed_length_list-requires : goal.make_fixed_length_list-requires
make_fixed_length_list-requires c = c.requires

pub returns : goal.returns
returns c = λ s v m. made_answer s _ c.make_fixed_length_list.new.builder (defined.FixedLengthList v c.args.size) (k_fixed c.args.size) _ _ c.make_fixed_length_list.result _ c.answer.ensures refl ((refl, m), tt) c.make_fixed_length_list.ensures.makes
