use Rattle.fact_module.proofs.WorkedPlans.{one_number_is_promised, one_text_is_promised}
use Rattle.fact_module.proofs.worked.laws_of_worked_plans.Goals as goal

pub returns : goal.returns
returns c = record { one_number_is_promised = one_number_is_promised; one_text_is_promised = one_text_is_promised }
