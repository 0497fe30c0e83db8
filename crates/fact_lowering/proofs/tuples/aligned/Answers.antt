use Rattle.fact_types.proofs.AlignLaws.{aligned_by_rest}
use Rattle.fact_lowering.proofs.tuples.aligned.Goals as goal

pub returns-clause-value : goal.returns-clause-value
returns-clause-value c = aligned_by_rest c.args.number c.args.align c.requires.some
