use Rattle.fact_adapter_rules.proofs.StageLaws.{added-exactly}
use Rattle.fact_adapter_rules.proofs.bound.has_duplicate_name.Goals as goal

pub returns-clause-exact : goal.returns-clause-exact
returns-clause-exact c = λ before a h names distinct. added-exactly before a _ _ _ (c.in_ok-names.ensures a h) names _ c.in_ok-fits.ensures.adds distinct
