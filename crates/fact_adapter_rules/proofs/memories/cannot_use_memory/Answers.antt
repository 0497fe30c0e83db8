use Rattle.fact_adapter_rules.proofs.Decisions.{there, denied}
use Rattle.fact_adapter_rules.proofs.memories.cannot_use_memory.Goals as goal

pub returns : goal.returns
returns c = λ linked h.
    there _ _ _ (denied _ _ (c.in_ok-lacks_needed_memory.ensures linked h) c.if-branch.false) (c.has_any_odd_memory.ensures _ linked h)
