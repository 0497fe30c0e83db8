use Rattle.fact_compound.proofs.OptionsImported.{can_same}
use Rattle.fact_compound.proofs.SyncWritten.{written_barred}
use Rattle.fact_compound.proofs.syncs.put_barred.Goals as goal

pub put_steps-steps_written-requires-clause-can : goal.put_steps-steps_written-requires-clause-can
put_steps-steps_written-requires-clause-can c = can_same c.begin-before.ensures.imports c.requires.can

pub returns : goal.returns
returns c = let steps = rw c.in-Ok.is at c.put_steps-steps_written.ensures in written_barred c.begin-before.ensures steps c.end-body.ensures c.in_ok-put_barrier-in-Ok.ensures
