use Rattle.fact_abi.specs.Leading.{Wording}
use Rattle.fact_abi.proofs.lifting.bytes_of_words.Given as goal

abbrev pub invariant-loop-index : goal.invariant-loop-index
invariant-loop-index l = Wording l.count l.index l.values l.bytes.items
