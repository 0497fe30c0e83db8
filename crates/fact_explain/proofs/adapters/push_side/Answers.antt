use Rattle.std.proofs.Common.{sym}
use Rattle.fact_explain.proofs.Live.{func-live}
use Rattle.fact_explain.proofs.adapters.push_side.Goals as goal

pub push_memory-requires : goal.push_memory-requires
push_memory-requires c = func-live c.args.plan.now c.args.types.now _ _ c.requires (sym c.in-Some.ensures.value)

pub push_signature-requires : goal.push_signature-requires
push_signature-requires c = func-live c.args.plan.now c.args.types.now _ _ c.requires (sym c.in-Some.ensures.value)
