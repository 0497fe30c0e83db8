use Rattle.std.proofs.Common.{sym}
use Rattle.serde_json.specs.View.{view}
use Rattle.fact_call_mode.specs.Inputs.{call_input}
use Rattle.fact_call_mode.specs.Replies.{IsReplyToInput}
use Rattle.fact_call_mode.proofs.ReplyLaws.{value_replied}
use Rattle.fact_call_mode.proofs.calling.reply_to_call.Goals as goal

pub returns-in-Ok-Some : goal.returns-in-Ok-Some
returns-in-Ok-Some c =
    value_replied call_input (IsReplyToInput c.args.fuel c.args.name.now) c.args.bytes.now (view c.in-Ok-Some.json) c.reply_to_value-reply.result c.requires.within
    (sym (rw c.in-Ok-Some.field-0-is at c.in-Ok-Some.ensures)) c.reply_to_value-reply.ensures
