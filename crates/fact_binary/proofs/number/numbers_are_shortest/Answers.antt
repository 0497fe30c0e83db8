use Rattle.fact_binary.proofs.ShortestForms.{unsigned-shortest, signed-shortest}
use Rattle.fact_binary.proofs.number.numbers_are_shortest.Goals as goal

pub returns-clause-unsigned : goal.returns-clause-unsigned
returns-clause-unsigned c = unsigned-shortest

pub returns-clause-signed : goal.returns-clause-signed
returns-clause-signed c = signed-shortest
