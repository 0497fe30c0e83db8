use Rattle.fact_call_mode.specs.Replies.{input_with}
use Rattle.fact_call_mode.proofs.ReplyLaws.{call_told, values_refused}
use Rattle.fact_call_mode.proofs.calling.reply_to_linked.Goals as goal

pub reply_with_values-requires-clause-may : goal.reply_with_values-requires-clause-may
reply_with_values-requires-clause-may c =
    let links = c.requires.linked.links in
    record { linked = c.requires.linked; carried = c.in-Ok.ensures.carried links.linked links.stands }

pub returns-in-Ok : goal.returns-in-Ok
returns-in-Ok c = λ linked.
    let fitting = c.in-Ok.ensures.values c.args.plan linked.links.linked linked.links.stands in
    let carried = c.in-Ok.ensures.carried linked.links.linked linked.links.stands in
    call_told c.args.fuel c.args.plan c.args.args.now c.args.results.now linked.links.linked c.in-Ok.values c.reply_with_values.result fitting
    (c.reply_with_values.ensures (record { linked = linked; carried = carried }))

pub returns-in-Err : goal.returns-in-Err
returns-in-Err c = λ linked.
    values_refused c.args.fuel linked.links.linked (input_with c.args.plan c.args.args.now c.args.results.now) c.in-Err.reply (c.in-Err.ensures.values c.args.plan linked.links.linked linked.links.stands)
