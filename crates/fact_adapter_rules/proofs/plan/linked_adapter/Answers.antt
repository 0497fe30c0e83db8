use Rattle.std.proofs.Common.{refl}
use Rattle.fact_adapter_rules.proofs.Decisions.{denied, granted}
use Rattle.fact_adapter_rules.proofs.PlanLaws.{first-large}
use Rattle.fact_adapter_rules.proofs.plan.linked_adapter.Goals as goal

pub returns-then-is_large-clause-refused : goal.returns-then-is_large-clause-refused
returns-then-is_large-clause-refused c =
    first-large c.args.plan.now c.args.k c.args.adapter.now c.requires.there _ refl
    (denied _ _ c.adapter_lacks.ensures c.if-adapter_lacks.false) (granted _ _ c.is_large.ensures c.if-is_large.true)
