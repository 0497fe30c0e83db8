use Rattle.std.proofs.Common.{arith}
use Rattle.fact_types.proofs.TestLaws.{told_as, told_by_some, first_refused}
use Rattle.fact_types.proofs.extents.Extent.times_fits.Goals as goal

pub returns-then-is_power : goal.returns-then-is_power
returns-then-is_power c =
    let power = c.is_power.ensures.0 c.if-is_power.true in
    told_as _ (told_by_some _ _ _ _ c.is_some.ensures c.checked_mul.ensures) (λ h. record { power = power; within = omega (arith, h) }) (λ f. omega (arith, f.within))

pub returns-else-is_power : goal.returns-else-is_power
returns-else-is_power c = first_refused _ c.if-is_power.false c.is_power.ensures (λ f. f.power)
