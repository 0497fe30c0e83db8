use Rattle.std.proofs.Common.{IsUtf8}
use Rattle.fact_explain.proofs.reading.fits.Given as goal

abbrev pub invariant-loop-part : goal.invariant-loop-part
invariant-loop-part l = IsUtf8 l.steps
