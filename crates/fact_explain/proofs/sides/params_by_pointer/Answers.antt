use Rattle.fact_adapter_rules.proofs.Decisions.{mapped}
use Rattle.fact_explain.proofs.sides.params_by_pointer.Goals as goal

pub returns-in-Lift : goal.returns-in-Lift
returns-in-Lift c = mapped c.is_past.result _ _ (λ found told ps rs h. rw (c.in-Lift.is, ← c.is_wide-wide.ensures) (told ps (c.params_of-types.ensures.shaped ps rs h))) c.is_past.ensures

pub returns-in-Lower : goal.returns-in-Lower
returns-in-Lower c =
    mapped c.is_past-in-Lower.result _ _ (λ found told ps rs h. rw (c.in-Lower.is, ← c.is_wide-wide.ensures, ← c.lower_limit.ensures) (told ps (c.params_of-types.ensures.shaped ps rs h))) c.is_past-in-Lower.ensures
