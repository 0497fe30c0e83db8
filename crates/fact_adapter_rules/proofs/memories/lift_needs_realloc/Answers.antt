use Rattle.std.proofs.Common.{sym, ◌∙◌}
use Rattle.fact_adapter_rules.proofs.Decisions.{there, denied}
use Rattle.fact_adapter_rules.proofs.memories.lift_needs_realloc.Goals as goal

pub returns : goal.returns
returns c = λ s h.
    let t = c.takes_pointer.ensures _ _ h.signature in
    there _ _ _ (denied _ _ (c.in_ok-lift_params_by_pointer.ensures s h) c.if-branch.false) (λ e. sym t ∙ e, λ e. t ∙ e)
