use Rattle.fact_adapter_rules.proofs.TupleLaws.{none-have}
use Rattle.fact_adapter_rules.proofs.memories.has_results.Goals as goal

pub returns : goal.returns
returns c = λ ps rs h. none-have _ _ rs c.is_empty.result c.is_empty.ensures (c.results_of.ensures.shaped ps rs h)
