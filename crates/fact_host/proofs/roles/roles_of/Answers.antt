use Rattle.std.proofs.Common.{ap, arith, length}
use Rattle.fact_host.proofs.Loops.{found_all}
use Rattle.fact_host.proofs.roles.roles_of.Goals as goal

pub returns : goal.returns
returns c = found_all c.args.«module».now c.args.call.now c.loop-import.import-index c.loop-import.roles (omega (arith, c.loop-import-test.false, ap length c.as_slice-import-items.ensures)) c.loop-import.invariant
