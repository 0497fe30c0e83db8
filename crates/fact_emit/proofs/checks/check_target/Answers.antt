use Rattle.fact_emit.proofs.CheckMoves.{to_locals_checked, to_memory_checked}
use Rattle.fact_emit.proofs.checks.check_target.Goals as goal

pub returns-in-Locals : goal.returns-in-Locals
returns-in-Locals c = to_locals_checked _ _ _ _ c.args.linear c.in-Locals.is

pub returns-in_ok-check_address-in-Memory : goal.returns-in_ok-check_address-in-Memory
returns-in_ok-check_address-in-Memory c = to_memory_checked _ _ _ c.args.linear _ c.in-Memory.is c.in_ok-check_address-in-Memory.ensures
