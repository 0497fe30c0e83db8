use Rattle.std.proofs.lemmas.Result.{IfOk-weaker}
use Rattle.fact_call_mode.proofs.NamedCalls.{hosted, one_named}
use Rattle.fact_call_mode.proofs.hosting.call_told.Goals as goal

pub call_of-requires-clause-named : goal.call_of-requires-clause-named
call_of-requires-clause-named c =
    (c.requires.0, c.requires.1, one_named c.requires.0 c.requires.1 c.args.name.now c.args.types.now c.args.adapter.now c.args.fused.now c.args.values c.requires.2)

pub told-text-requires-clause-hosted : goal.told-text-requires-clause-hosted
told-text-requires-clause-hosted c =
    let can = c.requires.2 in
    let named = one_named c.requires.0 c.requires.1 c.args.name.now c.args.types.now c.args.adapter.now c.args.fused.now c.args.values can in
    rw c.component_types.ensures (
      c.requires.0,
      c.requires.1,
      can.may.linked.links.linked,
      hosted c.requires.0 c.requires.1 c.args.name.now c.args.types.now c.args.adapter.now c.args.fused.now c.args.values can c.in-Ok.host (c.in-Ok.ensures.calls c.requires.0 c.requires.1 named),
    )

pub returns : goal.returns
returns c = IfOk-weaker c.told-text.result _ _ (λ text has fuel p can.
    let named = one_named fuel p c.args.name.now c.args.types.now c.args.adapter.now c.args.fused.now c.args.values can in
    has fuel p can.may.linked.links.linked (rw c.component_types.ensures
    (hosted fuel p c.args.name.now c.args.types.now c.args.adapter.now c.args.fused.now c.args.values can c.in-Ok.host (c.in-Ok.ensures.calls fuel p named))))
    c.told-text.ensures
