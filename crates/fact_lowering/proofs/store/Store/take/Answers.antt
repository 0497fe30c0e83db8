use Rattle.std.proofs.Common.{refl, arith}
use Rattle.fact_types.proofs.AlignLaws.{aligned_bounds}
use Rattle.fact_lowering.proofs.store.Store.take.Goals as goal

pub returns-in-Some-clause-up : goal.returns-in-Some-clause-up
returns-in-Some-clause-up c =
    let (low, high) = aligned_bounds c.args.self.now.cursor c.args.align c.requires in
    record {
      up = omega (arith, low, c.in-Some.ensures.at);
      few = omega (arith, high, c.in-Some.ensures.at);
      inside = omega (arith, c.in-Some.ensures.fits, c.len-length.ensures);
    }

pub returns-in-None-clause-lacks : goal.returns-in-None-clause-lacks
returns-in-None-clause-lacks c =
    let (low, high) = aligned_bounds c.args.self.now.cursor c.args.align c.requires in
    λ none. omega (arith, high, c.in-None.ensures.no_room refl, c.len-length.ensures)
