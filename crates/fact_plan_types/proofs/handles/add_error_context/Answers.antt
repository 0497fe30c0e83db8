use Rattle.std.proofs.Common.{Err, ap, ◌∙◌, arith}
use Rattle.std.proofs.lemmas.Result.{err_from_is_err_and}
use Rattle.fact_plan_types.proofs.TableLaws.{error_context_adds, full_adds}
use Rattle.fact_plan_types.proofs.handles.add_error_context.Goals as goal

pub returns-in_err-table : goal.returns-in_err-table
returns-in_err-table c =
    let p = err_from_is_err_and c.from_residual.result c.from_residual.ensures.1 in
    full_adds _ _ _ _ _ _ _ p.1 p.2 (λ q n l f. omega (arith, (c.add_error_context_table_type.ensures.too_large.0 (c.in_err-table.was ∙ ap Err q)).1, f.error_contexts, l))

pub returns : goal.returns
returns c =
    let a = c.in_ok-table.ensures in
    error_context_adds _ _ c.in_ok-table.table c.from_u32-instance.result (record { interned = a.interned; entry_there = a.entry; rest = a.rest; keeps = a.keeps })
    c.args.types.now c.args.instance (ap (λ i. i.number) c.from_u32-instance.ensures)
