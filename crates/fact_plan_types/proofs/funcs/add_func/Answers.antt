use Rattle.std.proofs.Common.{◌∙◌, ap, subst, sym, ℕ, Err, Option}
use Rattle.std.specs.Prelude.{IfSome}
use Rattle.fact_plan_types.specs.Adding.{AddsFunc}
use Rattle.fact_plan_types.specs.PlanTypes.{IsFirstOfTypes}
use Rattle.fact_plan_types.specs.Reached.{FuncBreaksFirst}
use Rattle.fact_plan_types.specs.TypeRules.{NamesNoType, result_shapes}
use Rattle.fact_plan_types.proofs.StepLaws.{func_rule_told, func_wide_told, funcs_next}
use Rattle.fact_plan_types.proofs.funcs.add_func.Goals as goal

pub add_func_type-requires : goal.add_func_type-requires
add_func_type-requires c =
    let f = c.args.func.now in
    let b = subst (FuncBreaksFirst c.args.plan.now c.args.k f (result_shapes c.args.plan.now f)) c.in_default.is c.in_ok-rule.ensures in
    record { live = c.requires.reached.live; known = λ n. b.0 (subst (λ (m : ℕ). NamesNoType m f) c.requires.reached.count n) }

pub returns-in-Some : goal.returns-in-Some
returns-in-Some c =
    let p = c.args.plan.now in
    let f = c.args.func.now in
    let b = subst (FuncBreaksFirst p c.args.k f (result_shapes p f)) c.in-Some.is c.in_ok-rule.ensures in
    record {
      reached = tt;
      added = tt;
      keeps = tt;
      refused = subst (λ (o : Option _). IfSome o (λ x. IsFirstOfTypes p x.0 x.1)) (sym c.broken_at.ensures) (func_rule_told p c.args.k _ _ f c.in-Some.rule c.requires.reached c.requires.here b);
    }

pub returns-in-Ok : goal.returns-in-Ok
returns-in-Ok c =
    let p = c.args.plan.now in
    let f = c.args.func.now in
    let b = subst (FuncBreaksFirst p c.args.k f (result_shapes p f)) c.in_default.is c.in_ok-rule.ensures in
    record {
      reached = funcs_next p c.args.k _ _ _ f c.in-Ok.index c.requires.reached c.requires.here b c.in-Ok.ensures;
      added = c.in-Ok.ensures.added p c.requires.reached.shaped;
      keeps = c.in-Ok.ensures.keeps;
      refused = tt;
    }

pub returns-in-Err-TooLarge-clause-refused : goal.returns-in-Err-TooLarge-clause-refused
returns-in-Err-TooLarge-clause-refused c =
    let p = c.args.plan.now in
    let f = c.args.func.now in
    let b = subst (FuncBreaksFirst p c.args.k f (result_shapes p f)) c.in_default.is c.in_ok-rule.ensures in
    let refused = c.in-Err-TooLarge.is ∙ ap Err c.in-Err-TooLarge.field-0-is in
    func_wide_told p c.args.k _ c.add_func_type.new.builder _ f c.requires.reached c.requires.here b
    (subst (AddsFunc c.args.builder.now c.add_func_type.new.builder c.args.types.now f) refused c.add_func_type.ensures)
