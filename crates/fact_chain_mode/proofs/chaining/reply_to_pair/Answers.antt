use Rattle.std.proofs.Common.{◌∙◌, sym}
use Rattle.fact_chain_mode.specs.ChainReplies.{input_with}
use Rattle.fact_chain_mode.proofs.ReplyLaws.{chain_told, values_refused}
use Rattle.fact_chain_mode.proofs.chaining.reply_to_pair.Goals as goal

pub returns-then-not-leads_to : goal.returns-then-not-leads_to
returns-then-not-leads_to c = λ paired.
    sym (c.leads_to.ensures paired.first.links.linked paired.second.links.linked paired.first.links.stands paired.second.links.stands) ∙ c.if-not-leads_to.true

pub reply_with_values-requires-clause-may : goal.reply_with_values-requires-clause-may
reply_with_values-requires-clause-may c =
    let first = c.requires.paired.first.links in
    let second = c.requires.paired.second.links in
    record {
      paired = c.requires.paired;
      leads = sym (c.leads_to.ensures first.linked second.linked first.stands second.stands) ∙ c.if-not-leads_to.false;
      read = c.in-Ok.ensures c.args.plan first.linked second.linked first.stands second.stands;
    }

pub returns-in-Ok : goal.returns-in-Ok
returns-in-Ok c = λ paired.
    let first = paired.first.links in
    let second = paired.second.links in
    let leads = sym (c.leads_to.ensures first.linked second.linked first.stands second.stands) ∙ c.if-not-leads_to.false in
    let read = c.in-Ok.ensures c.args.plan first.linked second.linked first.stands second.stands in
    chain_told c.args.fuel c.args.plan c.args.asked.now first.linked second.linked c.in-Ok.values c.reply_with_values.result leads read (c.reply_with_values.ensures (record { paired = paired; leads = leads; read = read }))

pub returns-in-Err : goal.returns-in-Err
returns-in-Err c = λ paired.
    let first = paired.first.links in
    let second = paired.second.links in
    let leads = sym (c.leads_to.ensures first.linked second.linked first.stands second.stands) ∙ c.if-not-leads_to.false in
    values_refused c.args.fuel first.linked second.linked (input_with c.args.plan c.args.asked.now) c.in-Err.reply leads (c.in-Err.ensures c.args.plan first.linked second.linked first.stands second.stands)
