use Rattle.fact_plan_types.proofs.RuleLaws.{denied, granted}
use Rattle.fact_plan_types.proofs.rules.broken_rule.Goals as goal

pub returns-then-names_unknown : goal.returns-then-names_unknown
returns-then-names_unknown c = granted _ _ c.names_unknown.ensures c.if-names_unknown.true

pub returns-then-branch : goal.returns-then-branch
returns-then-branch c = (denied _ _ c.names_unknown.ensures c.if-names_unknown.false, granted _ _ c.in_ok-is_bad.ensures c.if-branch.true)

pub returns-then-is_long : goal.returns-then-is_long
returns-then-is_long c =
    (denied _ _ c.names_unknown.ensures c.if-names_unknown.false, denied _ _ c.in_ok-is_bad.ensures c.if-branch.false, granted _ _ c.is_long.ensures c.if-is_long.true)

pub returns : goal.returns
returns c = (denied _ _ c.names_unknown.ensures c.if-names_unknown.false, denied _ _ c.in_ok-is_bad.ensures c.if-branch.false, denied _ _ c.is_long.ensures c.if-is_long.false)
