use Rattle.fact_adapter_rules.proofs.MismatchLaws.{told-agree}
use Rattle.fact_adapter_rules.proofs.mismatch.params_agree.Goals as goal

pub returns-clause-exact : goal.returns-clause-exact
returns-clause-exact c =
    told-agree c.agrees.result _ _ _ _ _ _ (λ ps rs. ps) c.requires.tables c.params_tuple.ensures.shaped c.params_tuple-2.ensures.shaped c.agrees.ensures.exact
