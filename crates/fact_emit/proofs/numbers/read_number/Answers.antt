use Rattle.std.proofs.Common.{sym}
use Rattle.fact_emit.proofs.NumberMoves.{read_first, read_none, read_address}
use Rattle.fact_emit.proofs.numbers.read_number.Goals as goal

pub returns-in_ok-read_local-in-Some : goal.returns-in_ok-read_local-in-Some
returns-in_ok-read_local-in-Some c = read_first _ _ c.args.linear _ c.in-Locals.is (sym c.in-Some.ensures.value) c.in_ok-read_local-in-Some.ensures

pub returns-in-None : goal.returns-in-None
returns-in-None c = read_none c.args.w.now _ _ c.args.linear c.in-Locals.is (sym c.in-None.ensures.value)

pub returns-in_ok-read_memory-in-Memory : goal.returns-in_ok-read_memory-in-Memory
returns-in_ok-read_memory-in-Memory c = read_address _ _ c.args.linear _ c.in-Memory.is c.in_ok-read_memory-in-Memory.ensures
