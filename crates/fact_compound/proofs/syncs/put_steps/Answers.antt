use Rattle.fact_compound.proofs.OptionsImported.{can_later}
use Rattle.fact_compound.proofs.SyncWritten.{written_steps}
use Rattle.fact_compound.proofs.syncs.put_steps.Goals as goal

pub put_return-requires-clause-can : goal.put_return-requires-clause-can
put_return-requires-clause-can c = can_later c.in_ok-put_call.ensures.grew.imports c.requires.can

pub returns : goal.returns
returns c = written_steps c.in_ok-put_call.ensures c.in_ok-put_return.ensures
