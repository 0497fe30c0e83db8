use Rattle.std.proofs.Common.{refl}
use Rattle.fact_source.specs.declared.defined.ComponentDefinedType.TheVariants as defined
use Rattle.fact_types.specs.Shapes.{k_option}
use Rattle.fact_convert.proofs.Making.{made_answer}
use Rattle.fact_convert.proofs.members.type_of_option.Goals as goal

pub make_option-requires : goal.make_option-requires
make_option-requires c = c.requires

pub returns : goal.returns
returns c = λ s v m. made_answer s _ c.make_option.new.builder (defined.Option v) k_option _ _ c.make_option.result _ c.answer.ensures refl ((refl, tt), ((refl, m), tt)) c.make_option.ensures.makes
