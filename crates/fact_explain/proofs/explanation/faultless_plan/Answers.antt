use Rattle.fact_plan_types.specs.PlanTypes.{told}
use Rattle.fact_explain.proofs.Said.{of-fault, of-refusal}
use Rattle.fact_explain.proofs.explanation.faultless_plan.Goals as goal

pub returns-in-Err : goal.returns-in-Err
returns-in-Err c = of-fault _ c.in-Err.fault c.in_ok-of_fault-in-Err.field-0 c.in-Err.ensures c.in_ok-of_fault-in-Err.ensures

pub returns-in-Err-check_plan : goal.returns-in-Err-check_plan
returns-in-Err-check_plan c =
    of-refusal _ c.in-Ok.plan (told c.in-Err-check_plan.error) c.in_ok-ending.field-0 c.in-Ok.ensures c.in-Err-check_plan.ensures.refused (rw c.in_ok-ending.was at c.of_refusal-ending.ensures)
