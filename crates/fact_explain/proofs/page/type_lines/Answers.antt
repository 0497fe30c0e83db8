use Rattle.std.proofs.Common.{string_bytes}
use Rattle.fact_plan_types.specs.PlanShapes.{plan_shapes}
use Rattle.fact_explain.proofs.Paged.{type-told}
use Rattle.fact_explain.proofs.page.type_lines.Goals as goal

pub returns : goal.returns
returns c =
    type-told c.format.result c.args.plan.now c.args.k c.args.entry.now _ (string_bytes c.in_ok-written.written) (string_bytes c.in_ok-narrow.narrow) (string_bytes c.in_ok-wide.wide)
    c.in_ok-written.ensures (c.in_ok-narrow.ensures (plan_shapes c.args.plan.now) c.requires.types) (c.in_ok-wide.ensures (plan_shapes c.args.plan.now) c.requires.types) c.format.ensures.ok
