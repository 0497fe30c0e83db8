use Rattle.fact_adapter_rules.proofs.Decisions.{mapped}
use Rattle.fact_explain.proofs.sides.results_line.Goals as goal

pub returns : goal.returns
returns c = mapped c.passed_line.result _ _ (λ t told ps rs h. told rs (c.results_of-types.ensures.shaped ps rs h) (c.results_tuple-tuple.ensures.shaped ps rs h)) c.passed_line.ensures
