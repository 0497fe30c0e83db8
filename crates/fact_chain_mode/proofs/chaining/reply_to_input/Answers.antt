use Rattle.std.proofs.Common.{rules}
use Rattle.fact_call_mode.proofs.FoundLaws.{linked_all}
use Rattle.fact_chain_mode.proofs.chaining.reply_to_input.Goals as goal

pub places_of-requires : goal.places_of-requires
places_of-requires c = linked_all c.args.plan (search rules)
