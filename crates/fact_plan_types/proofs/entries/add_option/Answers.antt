use Rattle.std.proofs.Common.{[], refl, ap}
use Rattle.fact_types.specs.Shapes.{k_option, none_name, some_name, no_members, bare, typed}
use Rattle.fact_builder.specs.Builder.{Builder}
use Rattle.fact_plan.specs.declared.plan.PlanType.TheVariants as entry
use Rattle.fact_plan_types.specs.PlanShapes.{shape_of}
use Rattle.fact_plan_types.proofs.AddLaws.{makes_adds, no_tuples}
use Rattle.fact_plan_types.proofs.ReadyLaws.{not_first}
use Rattle.fact_plan_types.proofs.entries.add_option.Goals as goal

pub type_of-requires : goal.type_of-requires
type_of-requires c = not_first _ c.args.ty [] c.requires.known

pub make_option-requires : goal.make_option-requires
make_option-requires c = c.type_of.ensures.live c.args.builder.now.tables c.requires.live

pub returns : goal.returns
returns c =
    makes_adds _ _ c.args.types.now (entry.Option c.args.ty) k_option _ (λ ss. bare none_name (typed some_name (shape_of ss c.args.ty) no_members)) _ c.make_option.ensures.makes
    (λ ss h. (refl, refl, (refl, (_, refl, c.type_of.ensures.shaped c.args.builder.now.tables ss h), tt))) (λ ss h. refl) (λ ss h. refl) (λ ss. tt)
    (no_tuples _ _ c.args.types.now k_option _ (λ ss. bare none_name (typed some_name (shape_of ss c.args.ty) no_members)) _ c.make_option.ensures.makes (ap (λ (b : Builder). b.tables.tuples) c.make_option.ensures.makes.rest) (λ ts ss. refl))
