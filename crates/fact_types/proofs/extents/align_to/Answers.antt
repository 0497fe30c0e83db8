use Rattle.std.proofs.Common.{arith}
use Rattle.fact_types.proofs.AlignLaws.{aligned_by_rest}
use Rattle.fact_types.proofs.extents.align_to.Goals as goal

pub next_multiple_of-requires-clause-fits : goal.next_multiple_of-requires-clause-fits
next_multiple_of-requires-clause-fits c = omega (arith, aligned_by_rest c.args.bytes c.args.align c.requires.positive)

pub returns : goal.returns
returns c = omega (arith, aligned_by_rest c.args.bytes c.args.align c.requires.positive, c.next_multiple_of.ensures.value)
