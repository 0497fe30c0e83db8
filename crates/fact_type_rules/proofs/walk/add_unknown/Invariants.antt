use Rattle.std.proofs.Common.{take}
use Rattle.fact_type_rules.specs.Walk.{PutsBehind}
use Rattle.fact_type_rules.proofs.walk.add_unknown.Given as goal

abbrev pub invariant-loop-ty : goal.invariant-loop-ty
invariant-loop-ty l = PutsBehind l.clean.keys l.fn.met.keys l.met.keys (take l.ty-index l.types)
