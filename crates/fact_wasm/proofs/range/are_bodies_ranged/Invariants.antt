use Rattle.std.proofs.Common.{take}
use Rattle.fact_wasm.specs.Ranges.{AreBodiesRanged}
use Rattle.fact_wasm.proofs.range.are_bodies_ranged.Given as goal

abbrev pub invariant-loop-func : goal.invariant-loop-func
invariant-loop-func l = AreBodiesRanged l.imports l.funcs (take l.func-index l.bodies)
