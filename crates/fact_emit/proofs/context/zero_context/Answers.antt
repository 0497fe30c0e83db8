use Rattle.fact_emit.proofs.RuntimeMoves.{no_zeroes, zero_ranged, zeroes_emits}
use Rattle.fact_emit.proofs.context.zero_context.Goals as goal

pub write_slot-requires : goal.write_slot-requires
write_slot-requires c = zero_ranged

pub write_slot-requires-then-is_on : goal.write_slot-requires-then-is_on
write_slot-requires-then-is_on c = zero_ranged

pub returns-in_ok-write_slot-2 : goal.returns-in_ok-write_slot-2
returns-in_ok-write_slot-2 c = zeroes_emits c.args.is_on c.if-is_on.true c.in_ok-write_slot.ensures c.in_ok-write_slot-2.ensures

pub returns-else-is_on : goal.returns-else-is_on
returns-else-is_on c = no_zeroes c.args.w.now c.args.is_on c.if-is_on.false
