use Rattle.std.proofs.Common.{◌∙◌, ap, inl, inr, subst, sym, Err, Option}
use Rattle.std.specs.Prelude.{IfSome}
use Rattle.fact_plan_types.specs.Adding.{AddsEntry}
use Rattle.fact_plan_types.specs.PlanTypes.{IsFirstOfTypes}
use Rattle.fact_plan_types.specs.BrokenRules.{Breaks}
use Rattle.fact_plan_types.specs.TypeRules.{table_in}
use Rattle.fact_plan_types.proofs.FaultLaws.{table_there}
use Rattle.fact_plan_types.proofs.StepLaws.{deep_told, nests_beyond, nests_within, ready, rule_told, types_next, wide_told}
use Rattle.fact_plan_types.proofs.types.add_type.Goals as goal

pub push_resource_tables-requires : goal.push_resource_tables-requires
push_resource_tables-requires c =
    let b = subst (Breaks c.args.plan.now c.args.k c.args.entry.now) c.in_default.is c.in_ok-rule.ensures in
    record { there = table_there c.args.plan.now (table_in c.args.entry.now) (λ h. b.0 (inr (inl h))); first = c.requires.reached.first }

pub add_entry-requires : goal.add_entry-requires
add_entry-requires c =
    let b = subst (Breaks c.args.plan.now c.args.k c.args.entry.now) c.in_default.is c.in_ok-rule.ensures in
    ready c.args.plan.now c.args.k c.args.builder.now _ _ _ c.requires.reached b c.in_ok-push_resource_tables.ensures.pushed c.in_ok-push_resource_tables.ensures.named

pub returns-in-Some : goal.returns-in-Some
returns-in-Some c =
    let p = c.args.plan.now in
    let b = subst (Breaks p c.args.k c.args.entry.now) c.in-Some.is c.in_ok-rule.ensures in
    record {
      added = tt;
      refused = subst (λ (o : Option _). IfSome o (λ x. IsFirstOfTypes p x.0 x.1)) (sym c.broken_at.ensures) (rule_told p c.args.k _ _ _ c.in-Some.rule c.requires.reached c.requires.here b);
    }

pub returns-in-Ok : goal.returns-in-Ok
returns-in-Ok c =
    let b = subst (Breaks c.args.plan.now c.args.k c.args.entry.now) c.in_default.is c.in_ok-rule.ensures in
    record {
      added = types_next c.args.plan.now c.args.k _ _ _ _ _ c.in-Ok.ty c.requires.reached c.requires.here b c.in_ok-push_resource_tables.ensures.pushed c.in_ok-push_resource_tables.ensures.named c.in-Ok.ensures
          (λ s h. nests_within c.nesting.result _ c.if-nesting-le-MOST_NESTING.true (c.nesting.ensures s h));
      refused = tt;
    }

pub returns-in-Ok-2-clause-refused : goal.returns-in-Ok-2-clause-refused
returns-in-Ok-2-clause-refused c =
    let b = subst (Breaks c.args.plan.now c.args.k c.args.entry.now) c.in_default.is c.in_ok-rule.ensures in
    deep_told c.args.plan.now c.args.k _ _ _ _ _ c.in-Ok.ty c.requires.reached c.requires.here b c.in_ok-push_resource_tables.ensures.pushed c.in-Ok.ensures
    (λ s h. nests_beyond c.nesting.result _ c.if-nesting-le-MOST_NESTING.false (c.nesting.ensures s h))

pub returns-in-Err-TooLarge-clause-refused : goal.returns-in-Err-TooLarge-clause-refused
returns-in-Err-TooLarge-clause-refused c =
    let b = subst (Breaks c.args.plan.now c.args.k c.args.entry.now) c.in_default.is c.in_ok-rule.ensures in
    let refused = c.in-Err-TooLarge.is ∙ ap Err c.in-Err-TooLarge.field-0-is in
    wide_told c.args.plan.now c.args.k _ _ c.add_entry.new.builder _ c.args.entry.now c.requires.reached c.requires.here b c.in_ok-push_resource_tables.ensures.pushed
    (subst (AddsEntry c.push_resource_tables.new.builder c.add_entry.new.builder c.args.types.now c.args.entry.now) refused c.add_entry.ensures)
