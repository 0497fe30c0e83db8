use Rattle.fact_adapter_rules.proofs.UseLaws.{side-gathered}
use Rattle.fact_adapter_rules.proofs.uses.push_side.Goals as goal

pub returns : goal.returns
returns c =
    side-gathered _ _ _ _ _ _ _ _ _ _ c.in_ok-push.ensures.items c.in_ok-push_memory.ensures c.in_ok-push_def.ensures c.in_ok-push_def-2.ensures
    c.memory_use.ensures c.is_wide.ensures c.in_ok-realloc.ensures c.in_ok-callback.ensures
