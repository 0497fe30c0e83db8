use Rattle.std.proofs.Common.{length}
use Rattle.fact_lowering.proofs.FlagWords.{Wording}
use Rattle.fact_lowering.proofs.flags.flag_words.Given as goal

abbrev pub invariant-loop-rest : goal.invariant-loop-rest
invariant-loop-rest l = Wording l.flags l.rest l.words

abbrev pub decreases-loop-rest : goal.decreases-loop-rest
decreases-loop-rest l = length l.rest
