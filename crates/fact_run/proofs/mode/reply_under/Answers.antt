use Rattle.std.proofs.Common.{Some, ap, sym, ◌∙◌}
use Rattle.fact_run.proofs.CallEnds.{is-call-mode, replied-called}
use Rattle.fact_run.proofs.CheckEnds.{not-generated, replied-checked}
use Rattle.fact_run.proofs.mode.reply_under.Goals as goal

pub returns-then-options-clause-reply : goal.returns-then-options-clause-reply
returns-then-options-clause-reply g c = replied-checked _ _ _ _ c.check_reply.result c.if-options.true c.check_reply.ensures.reply

pub returns-then-options-clause-unread : goal.returns-then-options-clause-unread
returns-then-options-clause-unread g c = λ some. absurd (not-generated c.args.options.now (c.requires.one.check c.if-options.true).0 some)

pub returns-in-Some-clause-reply : goal.returns-in-Some-clause-reply
returns-in-Some-clause-reply g c =
    let called = c.in-Some.is ∙ ap Some (sym c.as_str.ensures) in
    replied-called _ c.as_str.result.now _ _ _ c.call_reply.result (is-call-mode c.args.options.now c.as_str.result.now c.requires.one called) c.call_reply.ensures.reply

pub returns-in-Some-clause-unread : goal.returns-in-Some-clause-unread
returns-in-Some-clause-unread g c =
    let called = c.in-Some.is ∙ ap Some (sym c.as_str.ensures) in
    λ some. absurd (not-generated c.args.options.now (c.requires.one.call c.as_str.result.now called).0 some)
