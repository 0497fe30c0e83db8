use Rattle.fact_source.specs.Live.{reach_of}
use Rattle.fact_convert.proofs.Within.{def_live}
use Rattle.fact_convert.proofs.Coming.{comes_live}
use Rattle.fact_convert.proofs.conversions.ComponentTypesBuilderConversions.convert_component_entity_type.Goals as goal

pub returns-clause-converts : goal.returns-clause-converts
returns-clause-converts c = c.def_of_entity.ensures.converts

pub returns-clause-live : goal.returns-clause-live
returns-clause-live c = comes_live _ _ _ _ _ _ _ (λ d h. def_live (reach_of c.args.types.now c.args.ty) c.args.types.now _ (c.def_of_entity.ensures.kept_live c.requires.ready.kept) c.args.ty d h.0) c.def_of_entity.ensures

pub returns-clause-grows : goal.returns-clause-grows
returns-clause-grows c = c.def_of_entity.ensures.grows

pub returns-clause-kept_live : goal.returns-clause-kept_live
returns-clause-kept_live c = c.def_of_entity.ensures.kept_live c.requires.ready.kept
