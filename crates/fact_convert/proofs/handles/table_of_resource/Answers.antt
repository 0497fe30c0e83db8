use Rattle.fact_convert.proofs.ResourceLaws.{table_comes}
use Rattle.fact_convert.proofs.handles.table_of_resource.Goals as goal

pub returns : goal.returns
returns c = λ s. table_comes s _ _ c.args.id _ c.resource_id.ensures.kept c.resource_id.ensures.taken c.resource_id.ensures.refused c.resource_id.ensures.keeps
