use Rattle.fact_call_mode.proofs.WantsOfMemory.{types_want}
use Rattle.fact_chain_mode.proofs.ReplyLaws.{pair_replied}
use Rattle.fact_chain_mode.proofs.chaining.reply_to_places.Goals as goal

pub reply_to_pair-reply-requires-clause-paired : goal.reply_to_pair-reply-requires-clause-paired
reply_to_pair-reply-requires-clause-paired c = c.in-Ok-pair_at.ensures c.args.asked.now.first.now c.args.asked.now.second.now c.requires.at

pub returns : goal.returns
returns c =
    let paired = c.in-Ok-pair_at.ensures c.args.asked.now.first.now c.args.asked.now.second.now c.requires.at in
    pair_replied c.args.fuel c.args.plan c.args.asked.now c.in-Ok.types c.in-Ok-pair_at.pair paired c.reply_to_pair-reply.result (c.reply_to_pair-reply.ensures paired)

pub out_of_memory-requires : goal.out_of_memory-requires
out_of_memory-requires c = types_want c.args.plan c.requires.faultless c.in-Err.error c.in-Err.ensures.refused
