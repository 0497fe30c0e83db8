use Rattle.fact_adapter_rules.proofs.FaultLaws.{faultless-first, one-first}
use Rattle.fact_adapter_rules.proofs.plan.one_first_fault.Goals as goal

pub returns-clause-one : goal.returns-clause-one
returns-clause-one c = one-first

pub returns-clause-none : goal.returns-clause-none
returns-clause-none c = faultless-first
