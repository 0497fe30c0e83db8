use Rattle.fact_lowering.proofs.FlagWords.{Counting}
use Rattle.fact_lowering.proofs.flags.flag_word.Given as goal

abbrev pub invariant-loop-place : goal.invariant-loop-place
invariant-loop-place l = Counting l.flags l.place l.word
