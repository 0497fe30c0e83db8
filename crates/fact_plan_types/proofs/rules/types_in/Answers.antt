use Rattle.fact_plan_types.proofs.rules.types_in.Goals as goal

pub returns-in-Variant : goal.returns-in-Variant
returns-in-Variant c = rw (c.in-Variant.is, ← c.as_slice-in-Variant.ensures) c.types_of_cases.ensures
