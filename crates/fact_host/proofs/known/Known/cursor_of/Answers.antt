use Rattle.std.proofs.Common.{sym}
use Rattle.fact_host.proofs.Loops.{none_there}
use Rattle.fact_host.proofs.known.Known.cursor_of.Goals as goal

pub returns-in-None : goal.returns-in-None
returns-in-None c = sym (none_there c.args.self.now.cursors c.args.memory 0 (sym c.in-None.ensures.value))
