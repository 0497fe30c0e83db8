use Rattle.std.proofs.lemmas.Option.{slice_get_within}
use Rattle.fact_source.specs.SourceTables.{no_entries}
use Rattle.fact_convert.proofs.Coming.{comes_live}
use Rattle.fact_convert.proofs.conversions.ComponentTypesBuilderConversions.error_context_table_type.Goals as goal

pub returns-clause-converts : goal.returns-clause-converts
returns-clause-converts c = λ s. (c.table_of_error_contexts.ensures.comes s).converts

pub returns-clause-live : goal.returns-clause-live
returns-clause-live c = comes_live _ _ _ _ _ _ _ (λ i h. slice_get_within _ i.number _ h.2) (c.table_of_error_contexts.ensures.comes (no_entries 0))

pub returns-clause-grows : goal.returns-clause-grows
returns-clause-grows c = (c.table_of_error_contexts.ensures.comes (no_entries 0)).grows
