use Rattle.std.proofs.Common.{ap}
use Rattle.fact_assembly.proofs.ImportingLaws.{memory-below}
use Rattle.fact_assembly.proofs.importing.import_memory.Goals as goal

pub returns-clause-below : goal.returns-clause-below
returns-clause-below c = λ n e. memory-below _ _ c.in_ok-place.ensures.imported (ap (λ i. i.number) c.from_u32.ensures) e
