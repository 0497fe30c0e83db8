use Rattle.std.proofs.Common.{arith}
use Rattle.std.proofs.lemmas.Bool.{leb-true, le-leb}
use Rattle.fact_types.proofs.AlignLaws.{power_pos}
use Rattle.fact_types.proofs.TestLaws.{refused}
use Rattle.fact_types.proofs.extents.Extent.next_field_fits.Goals as goal
use Rattle.fact_types.proofs.extents.Extent.next_field_fits.Goals.{then-not-is_power-via-then-not-is_power, then-not-is_power-via-else-not-is_power+then-not-align_fits}

pub align_fits-requires : goal.align_fits-requires
align_fits-requires c = power_pos _ (c.is_power.ensures.0 c.if-not-is_power.false)

pub returns-then-not-is_power : goal.returns-then-not-is_power
returns-then-not-is_power c =
    elim c.then-not-is_power.branch [
      | then-not-is_power-via-then-not-is_power w ↦ refused _ w.if-not-is_power.true c.is_power.ensures (λ f. f.power)
      | then-not-is_power-via-else-not-is_power+then-not-align_fits w ↦ refused _ w.if-not-align_fits.true w.align_fits.ensures (λ f. omega (arith, f.within))
    ]

pub returns : goal.returns
returns c =
    let place = c.align_to.ensures in (
      λ h. record { power = c.is_power.ensures.0 c.if-not-is_power.false; within = omega (arith, leb-true _ _ h, place) },
      λ f. le-leb _ _ (omega (arith, f.within, place)),
    )
