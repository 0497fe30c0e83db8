use Rattle.std.proofs.Common.{arith}
use Rattle.fact_library.proofs.Comes.{given_line}
use Rattle.fact_library.proofs.giving.compile_into.Goals as goal

pub returns-in-Err-clause-given : goal.returns-in-Err-clause-given
returns-in-Err-clause-given c = given_line c.in-Err.error c.hand_over_line-status.ensures c.in-Err.ensures.error (omega arith) (omega arith)
