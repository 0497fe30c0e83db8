use Rattle.fact_adapter_rules.proofs.Decisions.{mapped}
use Rattle.fact_explain.proofs.sides.results_by_pointer.Goals as goal

pub returns-in-Lift : goal.returns-in-Lift
returns-in-Lift c =
    mapped c.is_past.result _ _ (λ found told ps rs h. rw (c.in-Lift.is, ← c.is_wide.ensures, ← c.lift_results_limit.ensures) (told rs (c.results_of.ensures.shaped ps rs h))) c.is_past.ensures

pub returns-in-Lower : goal.returns-in-Lower
returns-in-Lower c = mapped c.lower_results_by_pointer.result _ _ (λ found told ps rs h. rw c.in-Lower.is (told ps rs h)) c.lower_results_by_pointer.ensures
