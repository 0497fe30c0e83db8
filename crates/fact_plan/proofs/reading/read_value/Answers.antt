use Rattle.std.proofs.lemmas.Bool.{false≢true}
use Rattle.fact_plan.proofs.ReadingLemmas.{value_in-read, value_in-none}
use Rattle.fact_plan.proofs.reading.read_value.Goals as goal

pub returns-in-Ok : goal.returns-in-Ok
returns-in-Ok c = value_in-read _ _ c.in-Ok.ensures.ok.0 c.in-Ok.ensures.ok.1

pub returns-else-is_memory : goal.returns-else-is_memory
returns-else-is_memory c =
    value_in-none _ (c.in-Err.ensures.err (λ m. false≢true (c.if-is_memory.ensures.1 m)))
