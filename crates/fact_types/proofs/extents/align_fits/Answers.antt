use Rattle.std.proofs.Common.{arith}
use Rattle.fact_types.proofs.AlignLaws.{aligned_by_rest}
use Rattle.fact_types.proofs.TestLaws.{told_as, told_by_some}
use Rattle.fact_types.proofs.extents.align_fits.Goals as goal

pub returns : goal.returns
returns c =
    let e = aligned_by_rest c.args.bytes c.args.align c.requires in
    told_as _ (told_by_some _ _ _ _ c.is_some.ensures c.checked_next_multiple_of.ensures) (λ h. omega (arith, e, h.1)) (λ h. (c.requires, omega (arith, e, h)))
