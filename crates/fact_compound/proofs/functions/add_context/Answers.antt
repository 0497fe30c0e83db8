use Rattle.std.proofs.Common.{refl}
use Rattle.fact_compound.proofs.LocalsAdded.{context_added, no_context}
use Rattle.fact_compound.proofs.functions.add_context.Goals as goal

pub returns-in_ok-second : goal.returns-in_ok-second
returns-in_ok-second c = context_added c.args.context _ c.if-context.true refl c.in_ok-first.ensures c.in_ok-second.ensures

pub returns-else-context : goal.returns-else-context
returns-else-context c = no_context c.args.w.now c.args.context _ c.if-context.false
