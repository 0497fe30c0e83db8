use Rattle.fact_adapter_rules.proofs.Decisions.{there, denied, mapped}
use Rattle.fact_adapter_rules.proofs.memories.lacks_needed_memory.Goals as goal

pub returns : goal.returns
returns c =
    mapped c.lower_lacks_memory.result _ _ (λ found h linked sides.
    there _ _ _ (denied _ _ (c.in_ok-lift_lacks_memory.ensures _ sides.lift) c.if-branch.false) (h _ sides.lower)) c.lower_lacks_memory.ensures
