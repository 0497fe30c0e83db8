use Rattle.std.proofs.Common.{ap, arith, length}
use Rattle.fact_compound.proofs.WaitingHelpers.{fewer_wait, first_turn, first_waits, last_turn, next_place, next_turn}
use Rattle.fact_compound.proofs.helpers.write_waiting.Goals as goal

pub add_waiting-requires : goal.add_waiting-requires
add_waiting-requires c = omega (arith, c.requires.first, ap length c.requires.none)

pub loop-place-init : goal.loop-place-init
loop-place-init c =
    first_turn c.requires.writable c.requires.first c.in_ok-add_waiting.ensures.count c.in_ok-add_waiting.ensures.small
    (first_waits c.args.first (length c.args.sections.now.helpers) c.new-waiting.ensures c.requires.none c.in_ok-add_waiting.ensures.waits)

pub write_next-requires : goal.write_next-requires
write_next-requires c =
    let at = next_place _ _ c.loop-place.invariant c.in-Some.ensures in
    record { writable = c.loop-place.invariant.writable; first = at.0; place = at.1; count = c.loop-place.invariant.count }

pub loop-place-preserved : goal.loop-place-preserved
loop-place-preserved c = next_turn c.loop-place.invariant c.in-Some.ensures c.in_ok-write_next.ensures

pub loop-place-smaller : goal.loop-place-smaller
loop-place-smaller c = fewer_wait c.loop-place.invariant c.in-Some.ensures c.in_ok-write_next.ensures

pub returns : goal.returns
returns c = last_turn c.in_default.ensures.0 c.loop-place.invariant
