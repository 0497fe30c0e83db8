use Rattle.std.proofs.Common.{sym, subst}
use Rattle.fact_source.specs.Live.{IsLiveEntity}
use Rattle.fact_convert.specs.Conversion.{ConvertsEntity}
use Rattle.fact_convert.proofs.Within.{live_entity_of}
use Rattle.fact_convert.proofs.conversions.ComponentTypesBuilderConversions.convert_type.Goals as goal

pub convert_component_entity_type-requires-clause-live : goal.convert_component_entity_type-requires-clause-live
convert_component_entity_type-requires-clause-live c = subst (IsLiveEntity c.args.types.now) (sym c.entity_of_type.ensures) (live_entity_of c.args.types.now c.args.id c.requires.live)

pub returns-clause-converts : goal.returns-clause-converts
returns-clause-converts c = subst (λ e. ConvertsEntity c.args.types.now c.args.self.now e c.convert_component_entity_type.new.self c.convert_component_entity_type.result) c.entity_of_type.ensures c.convert_component_entity_type.ensures.converts
