use Rattle.std.proofs.Common.{string_bytes}
use Rattle.fact_explain.proofs.Paged.{adapter-told}
use Rattle.fact_explain.proofs.page.adapter_lines.Goals as goal

pub returns : goal.returns
returns c =
    adapter-told c.format.result c.args.plan.now c.args.k c.args.adapter.now (string_bytes c.in_ok-name.name) (string_bytes c.in_ok-lift.lift) (string_bytes c.in_ok-lower.lower) (rw c.as_str.ensures at c.in_ok-name.ensures)
    c.in_ok-lift.ensures c.in_ok-lower.ensures c.format.ensures.ok
