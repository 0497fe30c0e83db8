use Rattle.fact_chain_mode.proofs.ChainTold.{first_can, is_error, is_told, second_can, there}
use Rattle.fact_chain_mode.proofs.hosting.told.Goals as goal

pub chain-outcomes-requires-clause-first : goal.chain-outcomes-requires-clause-first
chain-outcomes-requires-clause-first c =
    let h = c.requires.hosted in
    first_can h.0 h.1 h.2 h.3 c.args.types.now c.args.fused.now c.args.first.now c.args.second.now c.args.values h.4 c.requires.first_live

pub chain-outcomes-requires-clause-second : goal.chain-outcomes-requires-clause-second
chain-outcomes-requires-clause-second c =
    let h = c.requires.hosted in
    second_can h.0 h.1 h.2 h.3 c.args.types.now c.args.fused.now c.args.first.now c.args.second.now c.args.values h.4 c.requires.second_live

pub chain-outcomes-requires-clause-joined : goal.chain-outcomes-requires-clause-joined
chain-outcomes-requires-clause-joined c = c.requires.hosted.4.joined

pub reply_to_outcomes-reply-requires-clause-there : goal.reply_to_outcomes-reply-requires-clause-there
reply_to_outcomes-reply-requires-clause-there c =
    let h = c.requires.hosted in
    there h.0 h.1 h.2 h.3 c.args.types.now c.args.fused.now c.args.first.now c.args.second.now c.args.values h.4 c.laws_of_chains.ensures.carry c.in-Ok.chained (rw (c.as_slice-args.ensures, c.as_slice-results.ensures) at c.in-Ok.ensures.chained)

pub returns-in-Ok : goal.returns-in-Ok
returns-in-Ok c = λ fuel p a b h.
    is_told fuel p a b c.args.types.now c.args.fused.now c.args.first.now c.args.second.now c.args.values h c.laws_of_chains.ensures.carry c.in-Ok.chained (rw (c.as_slice-args.ensures, c.as_slice-results.ensures) at c.in-Ok.ensures.chained)
    c.requires.first_live c.requires.second_live c.reply_to_outcomes-reply.result c.reply_to_outcomes-reply.ensures

pub returns-in-Err : goal.returns-in-Err
returns-in-Err c = λ fuel p a b h.
    is_error fuel p a b c.args.types.now c.args.fused.now c.args.first.now c.args.second.now c.args.values h c.laws_of_chains.ensures.end c.in-Err.error (rw (c.as_slice-args.ensures, c.as_slice-results.ensures) at c.in-Err.ensures.cause)
    c.reply_to_error.result c.reply_to_error.ensures
