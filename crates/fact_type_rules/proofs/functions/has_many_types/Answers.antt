use Rattle.fact_type_rules.proofs.FunctionLaws.{as-many, long-params, long-results}
use Rattle.fact_type_rules.proofs.functions.has_many_types.Goals as goal

pub returns-then-params_of-gt-MOST_ENTRIES : goal.returns-then-params_of-gt-MOST_ENTRIES
returns-then-params_of-gt-MOST_ENTRIES c = λ ps rs h.
    long-params ps rs _ (as-many c.args.builder.now.tables _ ps (c.params_of.ensures.shaped ps rs h)) c.if-params_of-gt-MOST_ENTRIES.true

pub returns-else-params_of-gt-MOST_ENTRIES : goal.returns-else-params_of-gt-MOST_ENTRIES
returns-else-params_of-gt-MOST_ENTRIES c = λ ps rs h.
    long-results ps rs _ _ (as-many c.args.builder.now.tables _ ps (c.params_of.ensures.shaped ps rs h)) (as-many c.args.builder.now.tables _ rs (c.results_of.ensures.shaped ps rs h)) c.if-params_of-gt-MOST_ENTRIES.false
