use Rattle.std.proofs.Common.{ap}
use Rattle.fact_assembly.proofs.ImportingLaws.{post-return-below}
use Rattle.fact_assembly.proofs.importing.import_post_return.Goals as goal

pub returns-clause-below : goal.returns-clause-below
returns-clause-below c = post-return-below c.args.name.now c.args.results.now c.in_ok-place.ensures.imported (ap (λ i. i.number) c.from_u32.ensures)
