use Rattle.std.proofs.Common.{◌∙◌, sym}
use Rattle.fact_adapter_rules.proofs.Decisions.{denied, granted}
use Rattle.fact_adapter_rules.proofs.MismatchLaws.{apart, other-borrows, other-marks, other-params, other-results, same-bits}
use Rattle.fact_adapter_rules.proofs.mismatch.has_type_mismatch.Goals as goal

pub returns-then-is_async_type-clause-exact : goal.returns-then-is_async_type-clause-exact
returns-then-is_async_type-clause-exact c = λ linked h.
    other-marks linked (λ e. apart _ _ c.if-is_async_type.true (c.is_async_type.ensures _ _ h.lift ∙ e ∙ sym (c.is_async_type-2.ensures _ _ h.lower)))

pub returns-then-not-branch-clause-exact : goal.returns-then-not-branch-clause-exact
returns-then-not-branch-clause-exact c = λ linked h.
    other-params linked (denied _ _ (c.in_ok-params_agree.ensures.exact _ _ _ _ h.lower.signature h.lift.signature) c.if-not-branch.true)

pub returns-then-not-branch-2-clause-exact : goal.returns-then-not-branch-2-clause-exact
returns-then-not-branch-2-clause-exact c = λ linked h.
    other-results linked (denied _ _ (c.in_ok-results_agree.ensures.exact _ _ _ _ h.lift.signature h.lower.signature) c.if-not-branch-2.true)

pub returns-clause-exact : goal.returns-clause-exact
returns-clause-exact c = λ linked h.
    other-borrows linked _ _ (sym (c.is_async_type.ensures _ _ h.lift) ∙ same-bits _ _ c.if-is_async_type.false ∙ c.is_async_type-2.ensures _ _ h.lower)
    (granted _ _ (c.in_ok-params_agree.ensures.exact _ _ _ _ h.lower.signature h.lift.signature) c.if-not-branch.false)
    (granted _ _ (c.in_ok-results_agree.ensures.exact _ _ _ _ h.lift.signature h.lower.signature) c.if-not-branch-2.false)
    (c.takes_borrow.ensures _ _ h.lower.signature) (c.takes_borrow-2.ensures _ _ h.lift.signature)
