use Rattle.std.proofs.Common.{◌∙◌, ap, subst}
use Rattle.fact_types.specs.contracts.kinds.TypeRecordEq.TheImpl.Laws.{laws-law as record_laws}
use Rattle.fact_types.specs.contracts.kinds.TypeTupleEq.TheImpl.Laws.{laws-law as tuple_laws}
use Rattle.fact_types.specs.contracts.kinds.TypeOptionEq.TheImpl.Laws.{laws-law as option_laws}
use Rattle.fact_types.specs.contracts.kinds.TypeResultEq.TheImpl.Laws.{laws-law as result_laws}
use Rattle.fact_types.specs.contracts.kinds.TypeListEq.TheImpl.Laws.{laws-law as list_laws}
use Rattle.fact_types.specs.contracts.kinds.TypeMapEq.TheImpl.Laws.{laws-law as map_laws}
use Rattle.fact_types.specs.contracts.kinds.TypeFixedLengthListEq.TheImpl.Laws.{laws-law as fixed_length_list_laws}
use Rattle.fact_types.specs.contracts.ordered.TypeVariantEq.TheImpl.Laws.{laws-law as variant_laws}
use Rattle.fact_types.specs.contracts.ordered.TypeFlagsEq.TheImpl.Laws.{laws-law as flags_laws}
use Rattle.fact_types.specs.contracts.ordered.TypeEnumEq.TheImpl.Laws.{laws-law as enum_laws}
use Rattle.fact_types.specs.Tables.{IsSound}
use Rattle.fact_builder.proofs.IndexLaws.{HoldsOnce, once, one_index}
use Rattle.fact_builder.proofs.builder.ComponentTypesBuilder.reveal.Goals as goal

pub returns-clause-one_index : goal.returns-clause-one_index
returns-clause-one_index c =
    let sound = subst IsSound (c.tables.ensures ∙ ap (λ b. b.tables) c.self.view_is) c.reveal.ensures.sound in
    let holds_once = subst HoldsOnce (c.self.invariant.0 ∙ ap (λ b. b.tables) c.self.view_is) (record {
      records = once _ record_laws.refl _ c.len-records.ensures.distinct;
      variants = once _ variant_laws.refl _ c.len-variants.ensures.distinct;
      tuples = once _ tuple_laws.refl _ c.len-tuples.ensures.distinct;
      flags = once _ flags_laws.refl _ c.len-flags.ensures.distinct;
      enums = once _ enum_laws.refl _ c.len-enums.ensures.distinct;
      options = once _ option_laws.refl _ c.len-options.ensures.distinct;
      results = once _ result_laws.refl _ c.len-results.ensures.distinct;
      lists = once _ list_laws.refl _ c.len-lists.ensures.distinct;
      maps = once _ map_laws.refl _ c.len-maps.ensures.distinct;
      fixed_length_lists = once _ fixed_length_list_laws.refl _ c.len-fixed_length_lists.ensures.distinct;
    }) in
    λ a b s. one_index c.args.self.now.tables sound holds_once s a b
