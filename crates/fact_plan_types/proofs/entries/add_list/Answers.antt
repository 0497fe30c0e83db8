use Rattle.std.proofs.Common.{[], refl, ap}
use Rattle.fact_types.specs.Shapes.{k_list, no_members, typed}
use Rattle.fact_builder.specs.Builder.{Builder}
use Rattle.fact_plan.specs.declared.plan.PlanType.TheVariants as entry
use Rattle.fact_plan_types.specs.PlanShapes.{shape_of}
use Rattle.fact_plan_types.proofs.AddLaws.{makes_adds, no_tuples}
use Rattle.fact_plan_types.proofs.ReadyLaws.{not_first}
use Rattle.fact_plan_types.proofs.entries.add_list.Goals as goal

pub type_of-requires : goal.type_of-requires
type_of-requires c = not_first _ c.args.element [] c.requires.known

pub make_list-requires : goal.make_list-requires
make_list-requires c = c.type_of.ensures.live c.args.builder.now.tables c.requires.live

pub returns : goal.returns
returns c =
    makes_adds _ _ c.args.types.now (entry.List c.args.element) k_list _ (λ ss. typed [] (shape_of ss c.args.element) no_members) _ c.make_list.ensures.makes
    (λ ss h. (refl, (_, refl, c.type_of.ensures.shaped c.args.builder.now.tables ss h), tt)) (λ ss h. refl) (λ ss h. refl) (λ ss. tt)
    (no_tuples _ _ c.args.types.now k_list _ (λ ss. typed [] (shape_of ss c.args.element) no_members) _ c.make_list.ensures.makes (ap (λ (b : Builder). b.tables.tuples) c.make_list.ensures.makes.rest) (λ ts ss. refl))
