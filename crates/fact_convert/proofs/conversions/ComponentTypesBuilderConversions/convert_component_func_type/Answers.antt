use Rattle.fact_source.specs.declared.items.ComponentEntityType.TheVariants as entity
use Rattle.fact_source.specs.Live.{reach_of}
use Rattle.fact_types.specs.declared.interface.TypeDef.TheVariants as def
use Rattle.fact_convert.proofs.Within.{def_live}
use Rattle.fact_convert.proofs.Coming.{comes_live}
use Rattle.fact_convert.proofs.conversions.ComponentTypesBuilderConversions.convert_component_func_type.Goals as goal

pub returns-clause-converts : goal.returns-clause-converts
returns-clause-converts c = c.func_type.ensures.converts

pub returns-clause-live : goal.returns-clause-live
returns-clause-live c = comes_live _ _ _ _ _ _ _ (λ i h. def_live (reach_of c.args.types.now (entity.Func c.args.id)) c.args.types.now _ (c.func_type.ensures.kept_live c.requires.ready.kept) (entity.Func c.args.id) (def.ComponentFunc i) h) c.func_type.ensures

pub returns-clause-grows : goal.returns-clause-grows
returns-clause-grows c = c.func_type.ensures.grows

pub returns-clause-kept_live : goal.returns-clause-kept_live
returns-clause-kept_live c = c.func_type.ensures.kept_live c.requires.ready.kept
