use Rattle.std.proofs.Common.{◌≡◌, length}
use Rattle.fact_lowering.proofs.FlagBytes.{AreBytes}
use Rattle.fact_lowering.proofs.storing.flag_bytes.Given as goal

abbrev pub invariant-loop-index : goal.invariant-loop-index
invariant-loop-index l = (length l.bytes.items ≡ l.index) × AreBytes l.flags l.bytes.items
