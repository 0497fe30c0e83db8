use Rattle.std.proofs.Common.{arith}
use Rattle.fact_types.proofs.AlignLaws.{inside_tagged}
use Rattle.fact_types.proofs.TestLaws.{refused}
use Rattle.fact_types.proofs.variants.tagged_fits.Goals as goal

pub returns-then-not-align_fits : goal.returns-then-not-align_fits
returns-then-not-align_fits c = refused _ c.if-not-align_fits.true c.align_fits.ensures (λ h. omega (arith, inside_tagged c.args.bytes c.args.payload.size c.args.payload.align c.requires, h))

pub returns-in-None : goal.returns-in-None
returns-in-None c =
    (λ h. cc, λ h. absurd (c.in-None.ensures (omega (arith, c.align_to.ensures, inside_tagged c.args.bytes c.args.payload.size c.args.payload.align c.requires, h))))
