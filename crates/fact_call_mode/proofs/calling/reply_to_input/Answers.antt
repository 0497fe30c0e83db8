use Rattle.std.proofs.Common.{rules}
use Rattle.fact_call_mode.proofs.FoundLaws.{linked_all}
use Rattle.fact_call_mode.proofs.calling.reply_to_input.Goals as goal

pub callable_place-requires : goal.callable_place-requires
callable_place-requires c = linked_all c.args.plan (search rules)
