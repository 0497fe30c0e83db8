use Rattle.fact_adapter_rules.proofs.Decisions.{mapped}
use Rattle.fact_explain.specs.Needs.{is_wide_memory}
use Rattle.fact_explain.proofs.Passing.{some-lowered}
use Rattle.fact_explain.proofs.sides.lower_results_by_pointer.Goals as goal

pub returns-then-side : goal.returns-then-side
returns-then-side c = λ ps rs h.
    rw c.if-side.true (some-lowered c.args.builder.now.tables _ rs (is_wide_memory c.args.side.now.memory) c.is_empty.result c.is_empty.ensures (c.results_of-types.ensures.shaped ps rs h))

pub returns-else-side : goal.returns-else-side
returns-else-side c = mapped c.is_past.result _ _ (λ found told ps rs h. rw (c.if-side.false, ← c.is_wide.ensures) (told rs (c.results_of-types.ensures.shaped ps rs h))) c.is_past.ensures
