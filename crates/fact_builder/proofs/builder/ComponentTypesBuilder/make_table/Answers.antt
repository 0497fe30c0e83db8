use Rattle.std.proofs.lemmas.Result.{err_from_is_err_and}
use Rattle.fact_builder.proofs.ResourceLaws.{table_kept, table_refused, table_taken}
use Rattle.fact_builder.proofs.builder.ComponentTypesBuilder.make_table.Goals as goal

pub returns-in_err-table-clause-refused : goal.returns-in_err-table-clause-refused
returns-in_err-table-clause-refused c = table_refused _ _ c.self.view_is c.args.id _ _ c.from_residual.result _ (err_from_is_err_and c.from_residual.result c.from_residual.ensures.1) c.in_err-table.ensures.refused

pub returns-clause-kept : goal.returns-clause-kept
returns-clause-kept c = table_kept _ _ c.self.view_is c.args.id _ _ _ c.requires c.in_ok-table.ensures.made

pub returns-clause-taken : goal.returns-clause-taken
returns-clause-taken c = table_taken _ _ c.self.view_is c.args.id _ _ _ c.in_ok-table.ensures.made
