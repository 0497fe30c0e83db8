use Rattle.std.proofs.Common.{◌^◌, ◌<◌, drop}
use Rattle.fact_lowering.specs.Storings.{AreBits}
use Rattle.fact_lowering.proofs.storing.flag_byte.Given as goal

abbrev pub invariant-loop-bit : goal.invariant-loop-bit
invariant-loop-bit l = (l.byte < 2 ^ l.bit) × AreBits (drop l.from l.flags) l.bit l.byte
