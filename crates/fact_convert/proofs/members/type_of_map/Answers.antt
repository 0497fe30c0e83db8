use Rattle.std.proofs.Common.{refl}
use Rattle.fact_source.specs.declared.defined.ComponentDefinedType.TheVariants as defined
use Rattle.fact_types.specs.Shapes.{k_map}
use Rattle.fact_convert.proofs.Making.{made_answer}
use Rattle.fact_convert.proofs.members.type_of_map.Goals as goal

pub make_map-requires-clause-key : goal.make_map-requires-clause-key
make_map-requires-clause-key c = c.requires.key

pub make_map-requires-clause-value : goal.make_map-requires-clause-value
make_map-requires-clause-value c = c.requires.value

pub returns : goal.returns
returns c = λ s k v m n. made_answer s _ c.make_map.new.builder (defined.Map k v) k_map _ _ c.make_map.result _ c.answer.ensures refl ((refl, m), ((refl, n), tt)) c.make_map.ensures.makes
