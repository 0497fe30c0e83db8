use Rattle.fact_adapter_rules.proofs.Decisions.{here, there, granted, denied}
use Rattle.fact_adapter_rules.proofs.memories.lower_needs_memory.Goals as goal

pub returns-then-branch-2 : goal.returns-then-branch-2
returns-then-branch-2 c = λ s h.
    there _ _ _ (denied _ _ (c.in_ok-lower_params_by_pointer.ensures s h) c.if-branch.false) (here _ _ (granted _ _ (c.in_ok-lower_results_by_pointer.ensures s h) c.if-branch-2.true))

pub returns : goal.returns
returns c = λ s h.
    there _ _ _ (denied _ _ (c.in_ok-lower_params_by_pointer.ensures s h) c.if-branch.false)
    (there _ _ _ (denied _ _ (c.in_ok-lower_results_by_pointer.ensures s h) c.if-branch-2.false) (c.holds_pointer.ensures _ _ h.signature))
