use Rattle.std.proofs.Common.{take}
use Rattle.fact_wasm.specs.Ranges.{AreRanged}
use Rattle.fact_wasm.proofs.range.+ranged.Given as goal

abbrev pub invariant-are_ranged-loop-instr : goal.invariant-are_ranged-loop-instr
invariant-are_ranged-loop-instr l = AreRanged l.imports l.funcs (take l.instr-index l.body)
