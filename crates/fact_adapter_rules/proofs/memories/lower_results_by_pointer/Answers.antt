use Rattle.fact_adapter_rules.proofs.Decisions.{mapped}
use Rattle.fact_adapter_rules.proofs.memories.lower_results_by_pointer.Goals as goal

pub returns-then-options : goal.returns-then-options
returns-then-options c = λ s h. rw (h.async_side, c.if-options.true) (c.has_results.ensures _ _ h.signature)

pub returns : goal.returns
returns c =
    mapped c.is_by_pointer.result _ _ (λ found h s side.
    rw (side.async_side, c.if-options.false, side.memory) (h s.results (c.results_of.ensures.shaped _ _ side.signature))) c.is_by_pointer.ensures
