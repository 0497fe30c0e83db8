use Rattle.std.proofs.Common.{arith}
use Rattle.fact_types.proofs.AlignLaws.{inside_tagged}
use Rattle.fact_types.proofs.variants.tagged.Goals as goal

pub align_to-requires-clause-fits : goal.align_to-requires-clause-fits
align_to-requires-clause-fits c = omega (arith, inside_tagged c.args.bytes c.args.payload.size c.args.payload.align c.requires.positive, c.requires.fits)

pub overflow_add-end : goal.overflow_add-end
overflow_add-end c = omega (arith, c.align_to.ensures, inside_tagged c.args.bytes c.args.payload.size c.args.payload.align c.requires.positive, c.requires.fits)
