use Rattle.fact_chain_mode.proofs.pairs.pair_at.Goals as goal

pub adapter_at-requires-clause-at : goal.adapter_at-requires-clause-at
adapter_at-requires-clause-at c = (c.requires.at.0, c.requires.at.2.first_at)

pub adapter_at-requires-2-clause-at : goal.adapter_at-requires-2-clause-at
adapter_at-requires-2-clause-at c = (c.requires.at.1, c.requires.at.2.second_at)
