use Rattle.std.proofs.Common.{[], ◌∷◌, refl, ap}
use Rattle.fact_types.specs.Shapes.{k_map}
use Rattle.fact_builder.specs.Builder.{Builder}
use Rattle.fact_plan.specs.declared.plan.PlanType.TheVariants as entry
use Rattle.fact_plan_types.specs.PlanShapes.{places_of}
use Rattle.fact_plan_types.proofs.AddLaws.{makes_adds, no_tuples}
use Rattle.fact_plan_types.proofs.ReadyLaws.{not_first, not_second}
use Rattle.fact_plan_types.proofs.entries.add_map.Goals as goal

pub type_of-requires : goal.type_of-requires
type_of-requires c = not_first _ c.args.key (c.args.value ∷ []) c.requires.known

pub type_of-requires-2 : goal.type_of-requires-2
type_of-requires-2 c = not_second _ c.args.key c.args.value [] c.requires.known

pub make_map-requires : goal.make_map-requires
make_map-requires c = record { key = c.type_of.ensures.live c.args.builder.now.tables c.requires.live; value = c.type_of-2.ensures.live c.args.builder.now.tables c.requires.live }

pub returns : goal.returns
returns c =
    makes_adds _ _ c.args.types.now (entry.Map c.args.key c.args.value) k_map _ (λ ss. places_of ss 0 (c.args.key ∷ c.args.value ∷ [])) _ c.make_map.ensures.makes
    (λ ss h. (refl, (_, refl, c.type_of.ensures.shaped c.args.builder.now.tables ss h), (refl, (_, refl, c.type_of-2.ensures.shaped c.args.builder.now.tables ss h), tt)))
    (λ ss h. refl) (λ ss h. refl) (λ ss. tt)
    (no_tuples _ _ c.args.types.now k_map _ (λ ss. places_of ss 0 (c.args.key ∷ c.args.value ∷ [])) _ c.make_map.ensures.makes (ap (λ (b : Builder). b.tables.tuples) c.make_map.ensures.makes.rest) (λ ts ss. refl))
