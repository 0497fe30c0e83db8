use Rattle.fact_convert.proofs.ResourceLaws.{registration_comes}
use Rattle.fact_convert.proofs.registers.register_next.Goals as goal

pub returns : goal.returns
returns c = λ s. registration_comes s _ _ c.args.id _ c.register_next.ensures.registered c.register_next.ensures.refused
