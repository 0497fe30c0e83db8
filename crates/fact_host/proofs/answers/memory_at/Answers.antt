use Rattle.std.proofs.Common.{[], sym}
use Rattle.fact_host.proofs.Loops.{none_there}
use Rattle.fact_host.proofs.answers.memory_at.Goals as goal

pub returns-in-None : goal.returns-in-None
returns-in-None c = sym (none_there c.args.state.now.memories c.args.number [] (sym c.in-None.ensures.value))
