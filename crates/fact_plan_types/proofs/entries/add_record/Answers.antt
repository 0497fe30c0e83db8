use Rattle.std.proofs.Common.{Err, refl, ap, ◌∙◌}
use Rattle.std.proofs.lemmas.Result.{err_from_is_err_and}
use Rattle.fact_types.specs.Shapes.{k_record}
use Rattle.fact_builder.specs.Builder.{Builder}
use Rattle.fact_plan.specs.declared.plan.PlanType.TheVariants as entry
use Rattle.fact_plan_types.specs.PlanShapes.{fields_of}
use Rattle.fact_plan_types.proofs.AddLaws.{makes_adds, no_tuples}
use Rattle.fact_plan_types.proofs.ReadyLaws.{no_memory_adds, none_among}
use Rattle.fact_plan_types.proofs.entries.add_record.Goals as goal

pub fields_of-requires : goal.fields_of-requires
fields_of-requires c = none_among _ (λ f. f.1) c.args.fields.now c.requires.known

pub make_record-requires : goal.make_record-requires
make_record-requires c = c.in_ok-fields.ensures.live c.args.builder.now.tables c.requires.live

pub returns-in_err-fields : goal.returns-in_err-fields
returns-in_err-fields c =
    let p = err_from_is_err_and c.from_residual.result c.from_residual.ensures.1 in
    no_memory_adds _ _ _ _ _ (p.1 ∙ ap Err p.2)

pub returns : goal.returns
returns c =
    makes_adds _ _ c.args.types.now (entry.Record c.args.fields.now) k_record _ (λ ss. fields_of ss c.args.fields.now) _ c.make_record.ensures
    (c.in_ok-fields.ensures.shaped c.args.builder.now.tables) (λ ss h. refl) (λ ss h. refl) (λ ss. tt)
    (no_tuples _ _ c.args.types.now k_record _ (λ ss. fields_of ss c.args.fields.now) _ c.make_record.ensures (ap (λ (b : Builder). b.tables.tuples) c.make_record.ensures.rest) (λ ts ss. refl))
