use Rattle.fact_binary.proofs.decoder.ValueTypesReadItemValType.read.Goals as goal

pub returns-clause-only : goal.returns-clause-only
returns-clause-only c y rest p e = c.value_type_at.ensures.only y rest e
