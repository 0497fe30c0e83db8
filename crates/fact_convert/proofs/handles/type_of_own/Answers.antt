use Rattle.std.proofs.lemmas.Result.{err_from_is_err_and}
use Rattle.fact_convert.proofs.Coming.{comes_out, comes_with, comes_failed}
use Rattle.fact_convert.proofs.EntryLaws.{own_made}
use Rattle.fact_convert.proofs.handles.type_of_own.Goals as goal

pub returns-in_err-table : goal.returns-in_err-table
returns-in_err-table c = λ s. comes_out _ _ _ _ _ c.from_residual.result _ (err_from_is_err_and c.from_residual.result c.from_residual.ensures.1) (comes_failed s _ _ _ _ _ _ (c.in_err-table.ensures s))

pub returns : goal.returns
returns c = λ s. comes_with s _ _ _ _ _ _ _ (own_made s _ c.args.id _) (c.in_ok-table.ensures s)
