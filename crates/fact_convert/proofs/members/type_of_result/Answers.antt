use Rattle.std.proofs.Common.{refl}
use Rattle.fact_source.specs.declared.defined.ComponentDefinedType.TheVariants as defined
use Rattle.fact_types.specs.Shapes.{k_result}
use Rattle.fact_convert.proofs.Making.{made_answer}
use Rattle.fact_convert.proofs.members.type_of_result.Goals as goal

pub make_result-requires-clause-ok : goal.make_result-requires-clause-ok
make_result-requires-clause-ok c = c.requires.ok

pub make_result-requires-clause-err : goal.make_result-requires-clause-err
make_result-requires-clause-err c = c.requires.err

pub returns : goal.returns
returns c = λ s p q m n. made_answer s _ c.make_result.new.builder (defined.Result p q) k_result _ _ c.make_result.result _ c.answer.ensures refl ((refl, m), ((refl, n), tt)) c.make_result.ensures.makes
