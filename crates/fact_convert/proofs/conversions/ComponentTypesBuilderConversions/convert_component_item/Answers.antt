use Rattle.fact_source.specs.Live.{reach_of}
use Rattle.fact_convert.proofs.Within.{def_live}
use Rattle.fact_convert.proofs.Coming.{comes_live}
use Rattle.fact_convert.proofs.conversions.ComponentTypesBuilderConversions.convert_component_item.Goals as goal

pub returns-clause-converts : goal.returns-clause-converts
returns-clause-converts c = c.extern_of_item.ensures.converts

pub returns-clause-live : goal.returns-clause-live
returns-clause-live c = comes_live _ _ _ _ _ _ _ (λ y h. def_live (reach_of c.args.types.now c.args.item.now.ty) c.args.types.now _ (c.extern_of_item.ensures.kept_live c.requires.ready.kept) _ _ h.2.0) c.extern_of_item.ensures

pub returns-clause-grows : goal.returns-clause-grows
returns-clause-grows c = c.extern_of_item.ensures.grows

pub returns-clause-kept_live : goal.returns-clause-kept_live
returns-clause-kept_live c = c.extern_of_item.ensures.kept_live c.requires.ready.kept
