use Rattle.std.proofs.Common.{sym, ◌∙◌}
use Rattle.std.proofs.lemmas.Result.{err_from_is_err_and}
use Rattle.fact_convert.proofs.Coming.{comes_out}
use Rattle.fact_convert.proofs.EntryLaws.{plain_comes, context_comes, context_fails}
use Rattle.fact_convert.proofs.values.type_of_primitive.Goals as goal

pub returns-in-Some : goal.returns-in-Some
returns-in-Some c = λ s. plain_comes s _ c.args.ty _ (sym c.plain_type.ensures ∙ c.in-Some.is)

pub returns-in_err-index-in-None : goal.returns-in_err-index-in-None
returns-in_err-index-in-None c = λ s. comes_out _ _ _ _ _ c.from_residual.result _ (err_from_is_err_and c.from_residual.result c.from_residual.ensures.1) (context_fails s _ _ c.args.ty _ _ (sym c.plain_type.ensures ∙ c.in-None.is) (c.in_err-index-in-None.ensures.comes s))

pub returns-in_ok-index-in-None : goal.returns-in_ok-index-in-None
returns-in_ok-index-in-None c = λ s. context_comes s _ _ c.args.ty _ (sym c.plain_type.ensures ∙ c.in-None.is) (c.in_ok-index-in-None.ensures.comes s)
