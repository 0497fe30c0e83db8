use Rattle.fact_library.proofs.Comes.{ends-as}
use Rattle.fact_library.proofs.compiling.compile.Goals as goal

pub returns-clause-exactly : goal.returns-clause-exactly
returns-clause-exactly c = ends-as c.args.debug c.args.fuel c.args.bytes.now c.compiled_in.result c.compiled_in.ensures.made c.compiled_in.ensures.error
