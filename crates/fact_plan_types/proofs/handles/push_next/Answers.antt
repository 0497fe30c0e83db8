use Rattle.std.proofs.Common.{get_or, ◌∙◌}
use Rattle.fact_types.specs.declared.kinds.TypeResourceTable.TheVariants.{Concrete}
use Rattle.fact_plan_types.specs.PlanTypes.{resource_table}
use Rattle.fact_plan_types.proofs.PushLaws.{pushes_next}
use Rattle.fact_plan_types.proofs.handles.push_next.Goals as goal

pub returns-in-Ok : goal.returns-in-Ok
returns-in-Ok c =
    let table = (λ i. Concrete (c.from_u32.ensures i) (c.from_u32-2.ensures i)) ∙ (λ i. resource_table (get_or (c.as_slice-tables.ensures i) (c.num_resource_tables.ensures i) (0, 0))) in
    let next = pushes_next c.args.plan.now c.args.builder.now _ (0, 0) _ c.requires.first c.requires.there table c.in-Ok.ensures.table c.in-Ok.ensures.keeps in
    record { pushed = next.0; longer = next.1 }
