use Rattle.fact_module.specs.Fusing.{HasTakenTo}
use Rattle.fact_module.proofs.fusion.take_adapters.Given as goal

abbrev pub invariant-loop-k : goal.invariant-loop-k
invariant-loop-k l = HasTakenTo l.plan l.types.builder l.made l.k
