use Rattle.fact_types.proofs.PushLaws.{types_set}
use Rattle.fact_types.proofs.tables.ComponentTypes.set_module_types.Goals as goal

pub invariant_of-self : goal.invariant_of-self
invariant_of-self c = types_set _ _ c.self.invariant
