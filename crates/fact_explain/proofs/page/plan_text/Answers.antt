use Rattle.std.proofs.Common.{string_bytes}
use Rattle.fact_explain.proofs.Paged.{plan-told}
use Rattle.fact_explain.proofs.page.plan_text.Goals as goal

pub returns : goal.returns
returns c = plan-told c.format.result c.args.plan.now (string_bytes c.in_ok-adapters.adapters) (string_bytes c.in_ok-types.types) c.in_ok-adapters.ensures c.in_ok-types.ensures c.format.ensures.ok
