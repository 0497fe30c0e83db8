use Rattle.fact_emit.proofs.sections.ModuleSections.prepare_type.Goals as goal

pub returns-clause-place : goal.returns-clause-place
returns-clause-place c = rw (c.as_slice.ensures, c.in_ok-all.ensures) at c.function-ty.ensures.place

pub returns-clause-types : goal.returns-clause-types
returns-clause-types c = rw (c.as_slice.ensures, c.in_ok-all.ensures) at c.function-ty.ensures.types
