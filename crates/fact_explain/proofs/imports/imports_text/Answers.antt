use Rattle.std.proofs.Common.{string_bytes}
use Rattle.fact_explain.proofs.Paged.{imports-told}
use Rattle.fact_explain.proofs.imports.imports_text.Goals as goal

pub returns : goal.returns
returns c =
    imports-told c.format.result c.args.fused.now (string_bytes c.in_ok-rows.rows)
    (rw (c.as_slice.ensures, c.as_slice-2.ensures, c.as_slice-3.ensures) at c.in_ok-rows.ensures) c.format.ensures.ok
