use Rattle.fact_adapter_rules.proofs.Decisions.{here, there, granted, denied}
use Rattle.fact_adapter_rules.proofs.memories.has_any_odd_memory.Goals as goal

pub returns-then-has_odd_memory : goal.returns-then-has_odd_memory
returns-then-has_odd_memory c = λ b linked h. rw c.if-has_odd_memory.true (here _ _ (granted _ _ (c.has_odd_memory.ensures _ _ _ h.lift) c.if-has_odd_memory.true))

pub returns-else-has_odd_memory : goal.returns-else-has_odd_memory
returns-else-has_odd_memory c = λ b linked h.
    there _ _ _ (denied _ _ (c.has_odd_memory.ensures _ _ _ h.lift) c.if-has_odd_memory.false) (c.has_odd_memory-else-has_odd_memory.ensures _ _ _ h.lower)
