use Rattle.std.proofs.Common.{string_bytes}
use Rattle.fact_explain.proofs.Paged.{page-told}
use Rattle.fact_explain.proofs.page.plan_page.Goals as goal

pub returns : goal.returns
returns c =
    page-told c.format.result c.args.plan.now (string_bytes c.in_ok-told.told) (string_bytes c.in_ok-imports.imports) (rw c.in_ok-told.was at c.plan_text-told.ensures) c.in_ok-imports.ensures c.format.ensures.ok
