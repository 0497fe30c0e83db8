use Rattle.fact_values.proofs.CarriedLaws.{carried, not_carried, one_carried}
use Rattle.fact_values.proofs.FormedLaws.{formed}
use Rattle.fact_values.proofs.IsALaws.{load_is_a}
use Rattle.fact_values.proofs.LiftLaws.{lift_is_a}
use Rattle.fact_values.proofs.OwnLaws.{same_value}
use Rattle.fact_values.proofs.TupleLaws.{tuples_are, results_are}
use Rattle.fact_values.proofs.laws.laws_of_values.Goals as goal

pub returns-clause-loaded : goal.returns-clause-loaded
returns-clause-loaded c = load_is_a

pub returns-clause-lifted : goal.returns-clause-lifted
returns-clause-lifted c = lift_is_a

pub returns-clause-tuples : goal.returns-clause-tuples
returns-clause-tuples c = tuples_are

pub returns-clause-results : goal.returns-clause-results
returns-clause-results c = results_are

pub returns-clause-formed : goal.returns-clause-formed
returns-clause-formed c = formed

pub returns-clause-carried : goal.returns-clause-carried
returns-clause-carried c = carried

pub returns-clause-not_carried : goal.returns-clause-not_carried
returns-clause-not_carried c = not_carried

pub returns-clause-one : goal.returns-clause-one
returns-clause-one c = one_carried

pub returns-clause-alone : goal.returns-clause-alone
returns-clause-alone c = same_value
