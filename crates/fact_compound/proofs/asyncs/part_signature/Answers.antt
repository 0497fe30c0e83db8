use Rattle.fact_compound.proofs.AsyncFunctions.{return_signature_given, start_signature_given}
use Rattle.fact_compound.proofs.asyncs.part_signature.Goals as goal

pub returns-in-Start : goal.returns-in-Start
returns-in-Start c = start_signature_given c.args.types.now.tables c.args.adapter.now c.async_start_signature.result c.in-Start.is c.side_sig-lower.ensures c.side_sig-lift.ensures c.async_start_signature.ensures

pub returns-in-Return : goal.returns-in-Return
returns-in-Return c = return_signature_given c.args.types.now.tables c.args.adapter.now c.async_return_signature.result c.in-Return.is c.side_sig-lower.ensures c.side_sig-lift.ensures c.async_return_signature.ensures
