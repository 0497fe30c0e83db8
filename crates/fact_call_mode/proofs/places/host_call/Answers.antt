use Rattle.std.proofs.Common.{refl}
use Rattle.fact_call_mode.proofs.HostSides.{adapter_called, lift_sync, lower_sync}
use Rattle.fact_call_mode.proofs.places.host_call.Goals as goal

pub returns-clause-calls : goal.returns-clause-calls
returns-clause-calls c = λ a sides sync.
    adapter_called c.args.fused.now.«module» c.args.fused.now.imports c.args.types.now.builder c.args.adapter.now a _ c.args.func sides refl
    (c.in_ok-lower.ensures.side a.lower sides.lower (lower_sync a sync)) (c.in_ok-lift.ensures.side a.lift sides.lift (lift_sync a sync)) c.place_of.ensures c.function_place.ensures
