use Rattle.std.proofs.Common.{◌≡◌, take, reverse}
use Rattle.fact_machine.specs.Typing.{push_all}
use Rattle.fact_check.specs.Operands.{operands_of}
use Rattle.fact_check.proofs.operands.Operands.push_all.Given as goal

abbrev pub invariant-loop-ty : goal.invariant-loop-ty
invariant-loop-ty l = operands_of l.self ≡ push_all (reverse (take l.ty-index l.types)) (operands_of l.initial.self)
