use Rattle.fact_chain_mode.proofs.NamedCalls.{both_hosted, first_named, second_named}
use Rattle.fact_chain_mode.proofs.hosting.chain_told.Goals as goal

pub call_of-requires-clause-named : goal.call_of-requires-clause-named
call_of-requires-clause-named c =
    (c.requires.0, c.requires.1, first_named c.requires.0 c.requires.1 c.args.asked.now c.args.types.now c.args.pair.now c.args.fused.now c.args.values c.requires.2)

pub told-reply-requires-clause-hosted : goal.told-reply-requires-clause-hosted
told-reply-requires-clause-hosted c =
    let can = c.requires.2 in
    let one = first_named c.requires.0 c.requires.1 c.args.asked.now c.args.types.now c.args.pair.now c.args.fused.now c.args.values can in
    let other = second_named c.requires.0 c.requires.1 c.args.asked.now c.args.types.now c.args.pair.now c.args.fused.now c.args.values can in
    rw c.component_types-tables.ensures (
      c.requires.0,
      c.requires.1,
      can.may.paired.first.links.linked,
      can.may.paired.second.links.linked,
      both_hosted c.requires.0 c.requires.1 c.args.asked.now c.args.types.now c.args.pair.now c.args.fused.now c.args.values can c.reveal.ensures.one_index c.in-Ok.first c.in-Ok-call_of.second (c.in-Ok.ensures.calls c.requires.0 c.requires.1 one)
          (c.in-Ok-call_of.ensures.calls c.requires.0 c.requires.1 other),
    )

pub returns : goal.returns
returns c = λ fuel p can.
    let one = first_named fuel p c.args.asked.now c.args.types.now c.args.pair.now c.args.fused.now c.args.values can in
    let other = second_named fuel p c.args.asked.now c.args.types.now c.args.pair.now c.args.fused.now c.args.values can in
    c.told-reply.ensures fuel p can.may.paired.first.links.linked can.may.paired.second.links.linked
    (rw c.component_types-tables.ensures
    (both_hosted fuel p c.args.asked.now c.args.types.now c.args.pair.now c.args.fused.now c.args.values can c.reveal.ensures.one_index c.in-Ok.first c.in-Ok-call_of.second (c.in-Ok.ensures.calls fuel p one)
    (c.in-Ok-call_of.ensures.calls fuel p other)))
