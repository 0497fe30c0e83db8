use Rattle.std.proofs.Common.{refl}
use Rattle.fact_source.specs.declared.defined.ComponentDefinedType.TheVariants as defined
use Rattle.fact_types.specs.Shapes.{k_list}
use Rattle.fact_convert.proofs.Making.{made_answer}
use Rattle.fact_convert.proofs.members.type_of_list.Goals as goal

pub make_list-requires : goal.make_list-requires
make_list-requires c = c.requires

pub returns : goal.returns
returns c = λ s v m. made_answer s _ c.make_list.new.builder (defined.List v) k_list _ _ c.make_list.result _ c.answer.ensures refl ((refl, m), tt) c.make_list.ensures.makes
