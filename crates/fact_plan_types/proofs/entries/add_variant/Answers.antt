use Rattle.std.proofs.Common.{Err, refl, ap, ◌∙◌, inl, inr}
use Rattle.std.proofs.lemmas.Result.{err_from_is_err_and}
use Rattle.fact_types.specs.Shapes.{k_variant}
use Rattle.fact_builder.specs.Builder.{Builder}
use Rattle.fact_plan.specs.declared.plan.PlanType.TheVariants as entry
use Rattle.fact_plan_types.specs.PlanShapes.{cases_of}
use Rattle.fact_plan_types.proofs.AddLaws.{makes_adds, no_tuples}
use Rattle.fact_plan_types.proofs.ReadyLaws.{few_cases, no_memory_adds, none_in_cases}
use Rattle.fact_plan_types.proofs.entries.add_variant.Goals as goal

pub cases_of-requires : goal.cases_of-requires
cases_of-requires c = record {
  known = none_in_cases _ c.args.cases.now c.requires.known;
  distinct = λ d. c.requires.good (inr (inl d));
}

pub make_variant-requires : goal.make_variant-requires
make_variant-requires c = c.in_ok-cases.ensures.live c.args.builder.now.tables c.requires.live

pub returns-in_err-cases : goal.returns-in_err-cases
returns-in_err-cases c =
    let p = err_from_is_err_and c.from_residual.result c.from_residual.ensures.1 in
    no_memory_adds _ _ _ _ _ (p.1 ∙ ap Err p.2)

pub returns : goal.returns
returns c =
    makes_adds _ _ c.args.types.now (entry.Variant c.args.cases.now) k_variant _ (λ ss. cases_of ss c.args.cases.now) _ c.make_variant.ensures
    (c.in_ok-cases.ensures.shaped c.args.builder.now.tables) (λ ss h. refl) (λ ss h. refl) (few_cases c.args.cases.now (λ l. c.requires.short (inr (inr (inl l)))))
    (no_tuples _ _ c.args.types.now k_variant _ (λ ss. cases_of ss c.args.cases.now) _ c.make_variant.ensures (ap (λ (b : Builder). b.tables.tuples) c.make_variant.ensures.rest) (λ ts ss. refl))
