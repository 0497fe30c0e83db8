use Rattle.fact_call_mode.specs.Replies.{input_with}
use Rattle.fact_call_mode.proofs.ReplyLaws.{adapter_replied}
use Rattle.fact_call_mode.proofs.WantsOfMemory.{types_want}
use Rattle.fact_call_mode.proofs.calling.reply_to_place.Goals as goal

pub adapter_at-requires-clause-at : goal.adapter_at-requires-clause-at
adapter_at-requires-clause-at c = (c.args.name.now, c.requires.at)

pub reply_to_linked-reply-requires-clause-linked : goal.reply_to_linked-reply-requires-clause-linked
reply_to_linked-reply-requires-clause-linked c = c.in-Ok-adapter_at.ensures c.args.name.now c.requires.at

pub returns : goal.returns
returns c =
    let linked = c.in-Ok-adapter_at.ensures c.args.name.now c.requires.at in
    adapter_replied c.args.fuel c.args.name.now (input_with c.args.plan c.args.args.now c.args.results.now) linked.links.linked c.reply_to_linked-reply.result
    (record { faultless = c.requires.faultless; named = linked.named }) (c.reply_to_linked-reply.ensures linked)

pub out_of_memory-requires : goal.out_of_memory-requires
out_of_memory-requires c = types_want c.args.plan c.requires.faultless c.in-Err.error c.in-Err.ensures.refused
