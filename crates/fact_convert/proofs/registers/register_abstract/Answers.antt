use Rattle.std.proofs.Common.{◌++◌, ◌∙◌, ap, map}
use Rattle.std.proofs.lemmas.Result.{err_from_is_err_and}
use Rattle.fact_convert.specs.Tasks.{registers}
use Rattle.fact_convert.proofs.Coming.{comes_out, comes_to_nothing, comes_as}
use Rattle.fact_builder.specs.Walk.{resources_of}
use Rattle.fact_convert.proofs.registers.register_abstract.Goals as goal

pub returns-in_err-find_resources : goal.returns-in_err-find_resources
returns-in_err-find_resources c = comes_out _ _ _ _ _ c.from_residual.result _ (err_from_is_err_and c.from_residual.result c.from_residual.ensures.1) (comes_to_nothing _ _ _ _)

pub returns : goal.returns
returns c = comes_as _ _ _ _ _ _ _ (ap (map (λ r. registers r.1)) (c.as_slice.ensures ∙ c.in_ok-find_resources.ensures.found ∙ (λ i. c.new-resources_found.ensures i ++ resources_of c.args.types.now (c.new-path.ensures i) c.args.ty))) (c.register_each.ensures c.args.types.now)
