use Rattle.fact_plan_types.proofs.names.are_repeated.Goals as goal

pub returns : goal.returns
returns c = rw (← c.in_ok-names.ensures, ← c.as_slice.ensures.value) c.is_repeated.ensures
