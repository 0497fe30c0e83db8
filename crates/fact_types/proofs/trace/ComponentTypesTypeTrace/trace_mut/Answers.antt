use Rattle.fact_types.proofs.PushLaws.{modules_set}
use Rattle.fact_types.proofs.TraceLaws.{zip_length}
use Rattle.fact_types.proofs.trace.ComponentTypesTypeTrace.trace_mut.Goals as goal

pub invariant_of-self : goal.invariant_of-self
invariant_of-self g c = modules_set _ _ (zip_length _ _ _ c.trace_modules_mut.ensures.alike) c.self.invariant
