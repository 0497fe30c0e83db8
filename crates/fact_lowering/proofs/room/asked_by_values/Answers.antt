use Rattle.std.proofs.Common.{arith}
use Rattle.fact_lowering.proofs.FlatLaws.{type_front}
use Rattle.fact_lowering.proofs.RoomLaws.{values_end, values_on, values_start}
use Rattle.fact_lowering.proofs.room.asked_by_values.Goals as goal

pub loop-place-init : goal.loop-place-init
loop-place-init c = λ ts us h g. values_start c.args.types.now ts us c.args.from.now c.args.to.now c.args.values.now c.weighs-all.result h g c.weighs-all.ensures

pub loop-place-preserved : goal.loop-place-preserved
loop-place-preserved c =
    λ ts us h g. values_on (c.loop-place.invariant ts us h g) _ _ _ c.in_ok-here.here c.and-all.result (type_front c.args.from.now c.loop-place.place _ c.loop-place-test.true) c.type_or-target.ensures c.value_at-value.ensures c.in_ok-here.ensures c.and-all.ensures

pub returns : goal.returns
returns c = λ ts us h g. values_end (omega (arith, c.loop-place-test.false)) (c.loop-place.invariant ts us h g)
