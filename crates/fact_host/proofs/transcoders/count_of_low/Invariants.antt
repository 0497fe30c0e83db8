use Rattle.std.proofs.Common.{take}
use Rattle.fact_types.specs.declared.outside.FixedEncoding.TheVariants.{Latin1}
use Rattle.fact_values.specs.Texts.{AreSpelled}
use Rattle.fact_host.proofs.transcoders.count_of_low.Given as goal

abbrev pub invariant-loop-place : goal.invariant-loop-place
invariant-loop-place l = AreSpelled Latin1 (take l.place l.text)
