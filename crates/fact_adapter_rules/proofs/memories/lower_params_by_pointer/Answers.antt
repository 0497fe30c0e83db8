use Rattle.fact_adapter_rules.proofs.Decisions.{mapped}
use Rattle.fact_adapter_rules.proofs.memories.lower_params_by_pointer.Goals as goal

pub returns : goal.returns
returns c =
    mapped c.is_by_pointer.result _ _ (λ found h s side.
    rw (side.memory, side.async_side, ← c.lower_limit.ensures) (h s.params (c.params_of.ensures.shaped _ _ side.signature))) c.is_by_pointer.ensures
