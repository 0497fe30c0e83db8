use Rattle.fact_source.specs.declared.defined.ComponentValType.TheVariants as val
use Rattle.fact_convert.proofs.LiveLaws.{type_live}
use Rattle.fact_convert.proofs.Coming.{comes_live}
use Rattle.fact_convert.proofs.conversions.ComponentTypesBuilderConversions.defined_type.Goals as goal

pub returns-clause-converts : goal.returns-clause-converts
returns-clause-converts c = c.type_of_defined.ensures.converts

pub returns-clause-live : goal.returns-clause-live
returns-clause-live c = comes_live _ _ _ _ _ _ _ (type_live c.args.types.now _ (c.type_of_defined.ensures.kept_live c.requires.ready.kept) (val.Defined c.args.id)) c.type_of_defined.ensures

pub returns-clause-grows : goal.returns-clause-grows
returns-clause-grows c = c.type_of_defined.ensures.grows

pub returns-clause-kept_live : goal.returns-clause-kept_live
returns-clause-kept_live c = c.type_of_defined.ensures.kept_live c.requires.ready.kept
