use Rattle.std.proofs.Common.{arith}
use Rattle.fact_emit.proofs.FreedLocals.{freed_begin, freed_next, freed_step, freed_end}
use Rattle.fact_emit.proofs.freed_locals.free_locals.Goals as goal

pub loop-local-init : goal.loop-local-init
loop-local-init c = freed_begin _ c.requires.taken c.requires.distinct

pub free_local-requires : goal.free_local-requires
free_local-requires c = freed_next _ _ _ _ c.loop-local-test.true c.loop-local.invariant

pub loop-local-preserved : goal.loop-local-preserved
loop-local-preserved c = freed_step _ _ _ _ c.loop-local-test.true _ c.loop-local.invariant c.in_ok-free_local.ensures

pub returns : goal.returns
returns c = freed_end _ (omega (arith, c.loop-local-test.false)) c.loop-local.invariant
