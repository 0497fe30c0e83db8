use Rattle.std.proofs.Common.{subst}
use Rattle.std.specs.Prelude.{◌↔◌, IsTrue}
use Rattle.fact_plan_types.specs.TypeRules.{NamesNoType}
use Rattle.fact_plan_types.proofs.RuleLaws.{denied, granted}
use Rattle.fact_plan_types.proofs.rules.broken_func_rule.Goals as goal

pub returns-then-names_no_type : goal.returns-then-names_no_type
returns-then-names_no_type c =
    let known = subst (λ n. IsTrue c.names_no_type.result ↔ NamesNoType n c.args.func.now) c.len.ensures c.names_no_type.ensures in
    granted _ _ known c.if-names_no_type.true

pub returns-then-branch : goal.returns-then-branch
returns-then-branch c =
    let known = subst (λ n. IsTrue c.names_no_type.result ↔ NamesNoType n c.args.func.now) c.len.ensures c.names_no_type.ensures in
    (denied _ _ known c.if-names_no_type.false, granted _ _ c.in_ok-is_bad_func.ensures c.if-branch.true)

pub returns-then-is_long_func : goal.returns-then-is_long_func
returns-then-is_long_func c =
    let known = subst (λ n. IsTrue c.names_no_type.result ↔ NamesNoType n c.args.func.now) c.len.ensures c.names_no_type.ensures in
    (denied _ _ known c.if-names_no_type.false, denied _ _ c.in_ok-is_bad_func.ensures c.if-branch.false, granted _ _ c.is_long_func.ensures c.if-is_long_func.true)

pub returns : goal.returns
returns c =
    let known = subst (λ n. IsTrue c.names_no_type.result ↔ NamesNoType n c.args.func.now) c.len.ensures c.names_no_type.ensures in
    (denied _ _ known c.if-names_no_type.false, denied _ _ c.in_ok-is_bad_func.ensures c.if-branch.false, denied _ _ c.is_long_func.ensures c.if-is_long_func.false)
