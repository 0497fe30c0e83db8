use Rattle.std.proofs.Common.{◌∙◌, ◌+◌, ◌-◌, ◌%◌, ◌<◌, arith}
use Rattle.std.proofs.lemmas.Nat.{mod_below}
use Rattle.fact_types.proofs.AlignLaws.{aligned_by_rest}
use Rattle.fact_lowering.proofs.room.multiple_from.Goals as goal

pub returns-clause-value : goal.returns-clause-value
returns-clause-value c =
    (λ i. c.args.number + (c.from-align.ensures i - c.args.number % c.from-align.ensures i) % c.from-align.ensures i) ∙ aligned_by_rest c.args.number c.args.align c.requires.some

pub returns-clause-near : goal.returns-clause-near
returns-clause-near c =
    let some : 0 < c.from-align.result = omega (arith, c.requires.some, c.from-align.ensures) in
    omega (arith, mod_below (c.from-align.result - c.args.number % c.from-align.result) c.from-align.result some, c.from-align.ensures, c.ranges.align.fits)
