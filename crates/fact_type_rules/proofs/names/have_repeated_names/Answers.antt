use Rattle.fact_type_rules.proofs.names.have_repeated_names.Goals as goal

pub returns : goal.returns
returns c = rw (← c.in_ok-names.ensures, ← c.as_slice.ensures.value) c.is_repeated.ensures
