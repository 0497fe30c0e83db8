use Rattle.std.proofs.Common.{take}
use Rattle.fact_check.specs.Constants.{AreTypedConstants}
use Rattle.fact_check.proofs.constants.+constants.Given as goal

abbrev pub invariant-read_body-loop-instr : goal.invariant-read_body-loop-instr
invariant-read_body-loop-instr l = AreTypedConstants (take l.instr-index l.body)
