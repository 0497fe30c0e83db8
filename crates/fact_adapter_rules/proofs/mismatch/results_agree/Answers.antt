use Rattle.fact_adapter_rules.proofs.MismatchLaws.{told-agree}
use Rattle.fact_adapter_rules.proofs.mismatch.results_agree.Goals as goal

pub returns-clause-exact : goal.returns-clause-exact
returns-clause-exact c =
    told-agree c.agrees.result _ _ _ _ _ _ (λ ps rs. rs) c.requires.tables c.results_tuple.ensures.shaped c.results_tuple-2.ensures.shaped c.agrees.ensures.exact
