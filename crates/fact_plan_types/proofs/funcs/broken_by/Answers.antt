use Rattle.std.proofs.Common.{◌∙◌, ap, inr, subst, Some}
use Rattle.fact_plan_types.specs.PlanShapes.{plan_shapes}
use Rattle.fact_plan_types.specs.BrokenRules.{FuncBreaks}
use Rattle.fact_plan_types.proofs.FuncLaws.{borrows, no_func_none, results_known}
use Rattle.fact_plan_types.proofs.funcs.broken_by.Goals as goal

pub is_any_borrow-requires : goal.is_any_borrow-requires
is_any_borrow-requires c =
    let b = subst (FuncBreaks c.args.plan.now c.args.k c.args.func.now) (c.in-Some-TooLarge.is ∙ ap Some c.in-Some-TooLarge.field-0-is) c.in_ok-broken_func_rule.ensures in
    record { live = c.requires.live; known = results_known c.args.plan.now _ c.args.func.now _ c.requires.count c.as_slice-results.ensures b.0 }

pub is_any_borrow-requires-in-None : goal.is_any_borrow-requires-in-None
is_any_borrow-requires-in-None c =
    let b = subst (FuncBreaks c.args.plan.now c.args.k c.args.func.now) c.in-None.is c.in_ok-broken_func_rule.ensures in
    record { live = c.requires.live; known = results_known c.args.plan.now _ c.args.func.now _ c.requires.count c.as_slice-results.ensures b.0 }

pub returns-then-is_any_borrow : goal.returns-then-is_any_borrow
returns-then-is_any_borrow c =
    let b = subst (FuncBreaks c.args.plan.now c.args.k c.args.func.now) (c.in-Some-TooLarge.is ∙ ap Some c.in-Some-TooLarge.field-0-is) c.in_ok-broken_func_rule.ensures in
    let ss = plan_shapes c.args.plan.now in
    (b.0, inr (borrows ss c.args.func.now _ _ c.as_slice-results.ensures (c.is_any_borrow.ensures ss c.requires.shaped) c.if-is_any_borrow.true))

pub returns-else-is_any_borrow : goal.returns-else-is_any_borrow
returns-else-is_any_borrow c =
    let b = subst (FuncBreaks c.args.plan.now c.args.k c.args.func.now) (c.in-Some-TooLarge.is ∙ ap Some c.in-Some-TooLarge.field-0-is) c.in_ok-broken_func_rule.ensures in
    let ss = plan_shapes c.args.plan.now in
    (b.0, no_func_none ss c.args.func.now _ _ c.as_slice-results.ensures (c.is_any_borrow.ensures ss c.requires.shaped) c.if-is_any_borrow.false b.1, b.2)

pub returns-then-is_any_borrow-2 : goal.returns-then-is_any_borrow-2
returns-then-is_any_borrow-2 c =
    let b = subst (FuncBreaks c.args.plan.now c.args.k c.args.func.now) c.in-None.is c.in_ok-broken_func_rule.ensures in
    let ss = plan_shapes c.args.plan.now in
    (b.0, inr (borrows ss c.args.func.now _ _ c.as_slice-results.ensures (c.is_any_borrow-in-None.ensures ss c.requires.shaped) c.if-is_any_borrow-2.true))

pub returns-else-is_any_borrow-2 : goal.returns-else-is_any_borrow-2
returns-else-is_any_borrow-2 c =
    let b = subst (FuncBreaks c.args.plan.now c.args.k c.args.func.now) c.in-None.is c.in_ok-broken_func_rule.ensures in
    let ss = plan_shapes c.args.plan.now in
    (b.0, no_func_none ss c.args.func.now _ _ c.as_slice-results.ensures (c.is_any_borrow-in-None.ensures ss c.requires.shaped) c.if-is_any_borrow-2.false b.1, b.2)
